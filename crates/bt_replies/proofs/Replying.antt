-- Plans of replies, and that there is a reply.
use Rattle.std.proofs.Common.{◌≡◌, ℕ, ℤ, List, Option, Some, None, refl, inl, inr}
use Rattle.std.specs.Prelude.{Result, Ok, Err, IfOk}
use Rattle.serde_json.specs.Data.{Data}
use Rattle.bt_contents.specs.Contents.{Contents}
use Rattle.bt_contents.specs.Ranges.{row_with}
use Rattle.bt_entry.specs.declared.table_info.TableInfo.{TableInfo}
use Rattle.bt_filter.specs.Building.{filter_of}
use Rattle.bt_filter.specs.declared.asked.AskedFilter.{AskedFilter}
use Rattle.bt_messages.specs.declared.refusal.Refusal.{Refusal}
use Rattle.bt_requests.specs.Envelopes.{envelope_of}
use Rattle.bt_requests.specs.Requests.{request_in}
use Rattle.bt_requests.specs.declared.envelope.LineRefusal.{LineRefusal}
use Rattle.bt_requests.specs.declared.method.Method.{Method}
use Rattle.bt_requests.specs.declared.refusal.RequestRefusal.{RequestRefusal}
use Rattle.bt_requests.specs.declared.request.Request.{Request}
use Rattle.bt_requests.specs.declared.request.Request.TheVariants.{CreateTable, GetTable, ListTables, DeleteTable, UpdateTable, ModifyColumnFamilies, DropRowRange, MutateRow, MutateRows, ReadRows, CheckAndMutateRow, ReadModifyWriteRow}
use Rattle.bt_replies.specs.Lines.{IsAskedReply, IsEnvelopedReply, IsReplyTo, IsRequestReply}
use Rattle.bt_plans.specs.Plans.{IsPlan, IsPlanOf}
use Rattle.bt_range.specs.declared.asked_range.AskedRange.{AskedRange}
use Rattle.bt_read.specs.Answers.{answer}
use Rattle.bt_plans.specs.Replies.{Reply, refused, rows_reply}
use Rattle.bt_plans.specs.declared.plan.Plan.{Plan}
use Rattle.bt_cond.specs.Conditions.{is_met}
use Rattle.bt_plans.specs.FilterRefusals.{refusal_for_filter}
use Rattle.bt_read_write_replies.specs.CheckAndMutate.{IsCheckReply, IsConditionReply, IsUnlessRefused, check_refusal, met_reply}
use Rattle.bt_read_write_replies.specs.declared.check_and_mutate_row.Check.{Check}
use Rattle.bt_row_replies.specs.Rows.{IsFilteredReply, IsLimitedReply, IsReadReply, limit_in}
use Rattle.bt_row_replies.proofs.Verdicts.{valid_or_refused}
use Rattle.bt_schema.specs.Schema.{table_of}
use Rattle.bt_state.specs.State.{Present, rows_of}

-- a plan of the only reply that there is
pub plan_of_one : {E : Type 0} (p : Present) (r : Reply) (result : Result Plan E) → IfOk result (λ plan. (q : Present) → IsPlan plan q r) → IfOk result (λ plan. IsPlanOf plan p (λ x. x ≡ r))
plan_of_one p r (Ok plan) is = (r, refl, is p)
plan_of_one p r (Err e) is = tt

filtered_reply : (rows : Contents) (keys : List (List ℕ)) (ranges : List AskedRange) (f : AskedFilter) (n : ℕ) → (r : Reply) × IsFilteredReply rows keys ranges f n r
filtered_reply rows keys ranges f n = elim (valid_or_refused f) as (λ _. (r : Reply) × IsFilteredReply rows keys ranges f n r) [
  | inl valid ↦ (rows_reply (answer rows keys ranges (filter_of f) n), inl (valid, refl))
  | inr bad ↦ (refused (refusal_for_filter bad.0), inr (bad.0, bad.1, bad.2, refl))
]

limited_reply : (rows : Contents) (keys : List (List ℕ)) (ranges : List AskedRange) (f : AskedFilter) (limit : Option ℕ) → (r : Reply) × IsLimitedReply rows keys ranges f limit r
limited_reply rows keys ranges f None = (_, refl)
limited_reply rows keys ranges f (Some n) = filtered_reply rows keys ranges f n

some_read : (p : Present) (keys : List (List ℕ)) (ranges : List AskedRange) (f : AskedFilter) (limit : ℤ) (t : Option TableInfo) → (r : Reply) × IsReadReply p keys ranges f limit t r
some_read p keys ranges f limit None = (_, refl)
some_read p keys ranges f limit (Some t) = limited_reply (rows_of t.incarnation p.contents) keys ranges f (limit_in limit)

condition_reply : (m : ℕ) (t : TableInfo) (c : Check) (rows : Contents) (predicate : Option AskedFilter) → (r : Reply) × IsConditionReply m t c rows predicate r
condition_reply m t c rows None = (_, refl)
condition_reply m t c rows (Some f) = elim (valid_or_refused f) as (λ _. (r : Reply) × IsConditionReply m t c rows (Some f) r) [
  | inl valid ↦ (met_reply m t c (is_met (Some (filter_of f)) c.key (row_with c.key rows)), inl (valid, refl))
  | inr bad ↦ (refused (refusal_for_filter bad.0), inr (bad.0, bad.1, bad.2, refl))
]

unless_reply : (why : Option Refusal) (Replies : Reply → Type 0) → ((r : Reply) × Replies r) → (r : Reply) × IsUnlessRefused why Replies r
unless_reply None Replies there = there
unless_reply (Some why) Replies there = (_, refl)

some_check : (p : Present) (m : ℕ) (c : Check) (t : Option TableInfo) → (r : Reply) × IsCheckReply p m c t r
some_check p m c None = (_, refl)
some_check p m c (Some t) =
    let rows = rows_of t.incarnation p.contents in
    unless_reply (check_refusal c) (IsConditionReply m t c rows c.predicate) (condition_reply m t c rows c.predicate)

request_reply : (p : Present) (m : ℕ) (request : Request) → (r : Reply) × IsRequestReply p m request r
request_reply p m (CreateTable name families retention) = (_, refl)
request_reply p m (GetTable name) = (_, refl)
request_reply p m (ListTables parent page_token) = (_, refl)
request_reply p m (DeleteTable name) = (_, refl)
request_reply p m (UpdateTable name mask retention) = (_, refl)
request_reply p m (ModifyColumnFamilies name changes) = (_, refl)
request_reply p m (DropRowRange name target) = (_, refl)
request_reply p m (MutateRow name key ms) = (_, refl)
request_reply p m (MutateRows name entries) = (_, refl)
request_reply p m (ReadRows name keys ranges filter limit) = some_read p keys ranges filter limit (table_of name p.schema)
request_reply p m (CheckAndMutateRow name key predicate trues falses) = some_check p m (record { key = key; predicate = predicate; yes = trues; no = falses }) (table_of name p.schema)
request_reply p m (ReadModifyWriteRow name key rules) = (_, refl)

asked_reply : (p : Present) (m : ℕ) (asked : Result Request RequestRefusal) → (r : Reply) × IsAskedReply p m asked r
asked_reply p m (Err why) = (_, refl)
asked_reply p m (Ok request) = request_reply p m request

enveloped_reply : (p : Present) (m : ℕ) (envelope : Result (Method × Data) LineRefusal) → (r : Reply) × IsEnvelopedReply p m envelope r
enveloped_reply p m (Err why) = (_, refl)
enveloped_reply p m (Ok x) = asked_reply p m (request_in x.0 x.1)

-- each line has a reply
pub some_reply : (p : Present) (m : ℕ) (line : List ℕ) → (r : Reply) × IsReplyTo p m line r
some_reply p m line = enveloped_reply p m (envelope_of line)
