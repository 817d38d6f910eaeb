-- The records of replies may come in turn, and lead to valid states.
use Rattle.std.proofs.Common.{◌≡◌, eqb-true, ◌≤◌, ◌==◌, ◌+◌, ℕ, suc, Bool, true, false, List, [], ◌∷◌, length, Option, Some, None, refl, inl, inr, subst, sym, ap, ◌∙◌, cond, arith, ltb-false}
use Rattle.std.specs.Prelude.{ℤ, nat_lt, Result, Ok, Err}
use Rattle.std.proofs.lemmas.Bool.{or_parts}
use Rattle.serde_json.specs.Data.{Data}
use Rattle.bt_contents.specs.Contents.{Contents}
use Rattle.bt_entry.specs.Grammar.{last_moment}
use Rattle.bt_entry.specs.declared.table_info.TableInfo.{TableInfo}
use Rattle.bt_filter.specs.declared.asked.AskedFilter.{AskedFilter}
use Rattle.bt_messages.specs.Lines.{is_nonempty}
use Rattle.bt_messages.specs.Refusals.{refusal_line}
use Rattle.bt_messages.specs.declared.refusal.Refusal.TheVariants.{BadPageToken, ChangeTooLarge}
use Rattle.bt_messages.specs.declared.response.Response.TheVariants.{ListTables as ListedTables}
use Rattle.bt_plans.specs.Replies.{Reply, answers, refused_if}
use Rattle.bt_range.specs.declared.asked_range.AskedRange.{AskedRange}
use Rattle.bt_replies.specs.Lines.{IsAskedReply, IsEnvelopedReply, IsRequestReply}
use Rattle.bt_requests.specs.Envelopes.{envelope_of}
use Rattle.bt_requests.specs.Requests.{request_in}
use Rattle.bt_requests.specs.declared.envelope.LineRefusal.{LineRefusal}
use Rattle.bt_requests.specs.declared.method.Method.{Method}
use Rattle.bt_requests.specs.declared.refusal.RequestRefusal.{RequestRefusal}
use Rattle.bt_requests.specs.declared.request.Request.{Request}
use Rattle.bt_requests.specs.declared.request.Request.TheVariants.{CreateTable, GetTable, ListTables, DeleteTable, UpdateTable, ModifyColumnFamilies, DropRowRange, MutateRow, MutateRows, ReadRows, CheckAndMutateRow, ReadModifyWriteRow}
use Rattle.bt_row_replies.specs.Rows.{IsFilteredReply, IsLimitedReply, IsReadReply, limit_in}
use Rattle.bt_schema.specs.Schema.{table_of}
use Rattle.bt_service.specs.Turns.{IsReply, fitting, is_too_large, record_body, unless_too_large}
use Rattle.bt_state.specs.State.{Event, Present, State, after, after_record, after_records, greatest_sequence, rows_of}
use Rattle.bt_store.specs.declared.limits.Limits.{Limits}
use Rattle.bt_table_replies.specs.Tables.{get_reply, list_reply, names_under}
use Rattle.bt_laws.specs.States.{AreLawfulRecords, IsValid, ValidAfterRecords}
use Rattle.bt_run_laws.proofs.Asked.{IsSoundRequest, envelope_sound, request_sound}
use Rattle.bt_run_laws.proofs.ReadWrites.{check_comes, modify_row_comes}
use Rattle.bt_run_laws.proofs.Rows.{drop_comes, mutate_comes, mutate_rows_comes}
use Rattle.bt_run_laws.proofs.Tables.{create_comes, delete_comes, modify_comes, update_comes}
use Rattle.bt_run_laws.proofs.Turning.{Comes, IsOwn, is_own, lawful_records, unless}
use Rattle.bt_run_laws.specs.Replies.{MayBeNext, RepliesLawful, RepliesValid}

-- ---- each method

module _ (p : Present) where
  filtered_comes : (rows : Contents) (keys : List (List ℕ)) (ranges : List AskedRange) (f : AskedFilter) (n : ℕ) (r : Reply) → IsFilteredReply rows keys ranges f n r → Comes p r
  filtered_comes rows keys ranges f n r e = elim e as (λ _. Comes p r) [
    | inl valid ↦ subst (Comes p) (sym valid.1) tt
    | inr bad ↦ subst (Comes p) (sym bad.3) tt
  ]

  limited_comes : (rows : Contents) (keys : List (List ℕ)) (ranges : List AskedRange) (f : AskedFilter) (limit : Option ℕ) (r : Reply) → IsLimitedReply rows keys ranges f limit r → Comes p r
  limited_comes rows keys ranges f None r e = subst (Comes p) (sym e) tt
  limited_comes rows keys ranges f (Some n) r e = filtered_comes rows keys ranges f n r e

  read_comes : (keys : List (List ℕ)) (ranges : List AskedRange) (f : AskedFilter) (limit : ℤ) (o : Option TableInfo) (r : Reply) → IsReadReply p keys ranges f limit o r → Comes p r
  read_comes keys ranges f limit None r e = subst (Comes p) (sym e) tt
  read_comes keys ranges f limit (Some t) r e = limited_comes (rows_of t.incarnation p.contents) keys ranges f (limit_in limit) r e

  get_comes : (o : Option TableInfo) → Comes p (get_reply o)
  get_comes None = tt
  get_comes (Some t) = tt

  list_comes : (parent page_token : List ℕ) → Comes p (list_reply p parent page_token)
  list_comes parent page_token = unless p (refused_if (is_nonempty page_token) BadPageToken) (answers (ListedTables (names_under parent p.schema))) (λ none. tt)

module _ (s : State) (m : ℕ) (valid : IsValid s) (before : s.present.floor ≤ m) (not_past : m ≤ last_moment) where
  own : (name : List ℕ) (t : TableInfo) → table_of name s.present.schema ≡ Some t → IsOwn s.present t
  own name t e = is_own name t s valid e

  request_comes : (request : Request) (r : Reply) → IsSoundRequest request → IsRequestReply s.present m request r → Comes s.present r
  request_comes (CreateTable name families retention) r sound e = subst (Comes s.present) (sym e) (create_comes s.present m before not_past name families retention (table_of name s.present.schema) refl sound.0 sound.1)
  request_comes (GetTable name) r sound e = subst (Comes s.present) (sym e) (get_comes s.present (table_of name s.present.schema))
  request_comes (ListTables parent page_token) r sound e = subst (Comes s.present) (sym e) (list_comes s.present parent page_token)
  request_comes (DeleteTable name) r sound e = subst (Comes s.present) (sym e) (delete_comes s.present m before not_past (table_of name s.present.schema) (own name))
  request_comes (UpdateTable name mask retention) r sound e = subst (Comes s.present) (sym e) (update_comes s.present m before not_past mask retention (table_of name s.present.schema) (own name))
  request_comes (ModifyColumnFamilies name changes) r sound e = subst (Comes s.present) (sym e) (modify_comes s.present m before not_past changes (table_of name s.present.schema) (own name))
  request_comes (DropRowRange name target) r sound e = subst (Comes s.present) (sym e) (drop_comes s.present m before not_past target (table_of name s.present.schema) (own name))
  request_comes (MutateRow name key ms) r sound e = subst (Comes s.present) (sym e) (mutate_comes s.present m before not_past key ms (table_of name s.present.schema) (own name) sound)
  request_comes (MutateRows name entries) r sound e = subst (Comes s.present) (sym e) (mutate_rows_comes s.present m before not_past entries (table_of name s.present.schema) (own name) sound)
  request_comes (ReadRows name keys ranges filter limit) r sound e = read_comes s.present keys ranges filter limit (table_of name s.present.schema) r e
  request_comes (CheckAndMutateRow name key predicate trues falses) r sound e =
      check_comes s.present m before not_past (record { key = key; predicate = predicate; yes = trues; no = falses }) (table_of name s.present.schema) r (own name) sound e
  request_comes (ReadModifyWriteRow name key rules) r sound e = subst (Comes s.present) (sym e) (modify_row_comes s.present m before not_past key rules (table_of name s.present.schema) (own name))

  asked_comes : (asked : Result Request RequestRefusal) (r : Reply) → ((request : Request) → asked ≡ Ok request → IsSoundRequest request) → IsAskedReply s.present m asked r → Comes s.present r
  asked_comes (Err why) r sound e = subst (Comes s.present) (sym e) tt
  asked_comes (Ok request) r sound e = request_comes request r (sound request refl) e

  enveloped_comes : (envelope : Result (Method × Data) LineRefusal) (r : Reply) → ((x : Method × Data) (request : Request) → envelope ≡ Ok x → request_in x.0 x.1 ≡ Ok request → IsSoundRequest request) → IsEnvelopedReply s.present m envelope r → Comes s.present r
  enveloped_comes (Err why) r sound e = subst (Comes s.present) (sym e) tt
  enveloped_comes (Ok x) r sound e = asked_comes (request_in x.0 x.1) r (λ request is. sound x request refl is) e

pub replies_lawful : RepliesLawful
replies_lawful s m line r valid may e =
    lawful_records s r.records
    (enveloped_comes s m valid may.not_before may.not_past (envelope_of line) r (λ x request there is. request_sound x.0 x.1 request (envelope_sound line x there) is) e)

-- ---- records that fit

pub last_after : (s : State) (r : List Event) → (after_record s r).present.last ≡ s.present.last + length r
last_after s [] = omega arith
last_after s (e ∷ es) = let rest = last_after (after s e) es in omega (arith, rest)

module _ (limits : Limits) where
  -- of lawful records those that fit are lawful, and leave their sequences
  fitting_lawful : (s : State) (rs : List (List Event)) → AreLawfulRecords s rs → AreLawfulRecords s (fitting limits s.present.last rs)
  fitting_lawful s [] lawful = tt
  fitting_lawful s (r ∷ rs) lawful = by (is_too_large limits s.present.last r) (subst (λ n. AreLawfulRecords (after_record s r) (fitting limits n rs)) (last_after s r) (fitting_lawful (after_record s r) rs lawful.1))
    where
      by : (b : Bool) → AreLawfulRecords (after_record s r) (fitting limits (s.present.last + length r) rs) → AreLawfulRecords s (cond b [] (r ∷ fitting limits (s.present.last + length r) rs))
      by true rest = tt
      by false rest = (lawful.0, rest)

  fitting_within : (s : State) (rs : List (List Event)) → s.present.last ≤ greatest_sequence → (after_records s (fitting limits s.present.last rs)).present.last ≤ greatest_sequence
  fitting_within s [] within = within
  fitting_within s (r ∷ rs) within =
      by (is_too_large limits s.present.last r) refl
      (λ room. subst (λ n. (after_records (after_record s r) (fitting limits n rs)).present.last ≤ greatest_sequence) (last_after s r) (fitting_within (after_record s r) rs room))
    where
      by : (b : Bool) → is_too_large limits s.present.last r ≡ b → ((after_record s r).present.last ≤ greatest_sequence → (after_records (after_record s r) (fitting limits (s.present.last + length r) rs)).present.last ≤ greatest_sequence)
          → (after_records s (cond b [] (r ∷ fitting limits (s.present.last + length r) rs))).present.last ≤ greatest_sequence
      by true large rest = within
      by false fits rest =
          let parts = or_parts (nat_lt limits.body (length (record_body r))) (nat_lt greatest_sequence (s.present.last + length r)) fits in
          let room = ltb-false greatest_sequence (s.present.last + length r) parts.1 in
          let last = last_after s r in
          rest (omega (arith, last, room))

  -- where all fit, they are the ones that fit
  fitting_all : (n : ℕ) (rs : List (List Event)) → length (fitting limits n rs) ≡ length rs → fitting limits n rs ≡ rs
  fitting_all n [] e = refl
  fitting_all n (r ∷ rs) e = by (is_too_large limits n r) e (fitting_all (n + length r) rs)
    where
      by : (b : Bool) → length (cond b [] (r ∷ fitting limits (n + length r) rs)) ≡ suc (length rs) → (length (fitting limits (n + length r) rs) ≡ length rs → fitting limits (n + length r) rs ≡ rs) → cond b [] (r ∷ fitting limits (n + length r) rs) ≡ r ∷ rs
      by true e rest = absurd (omega (arith, e))
      by false e rest = ap (λ xs. r ∷ xs) (rest (omega (arith, e)))

  -- the records of a reply that is cut so are those that fit
  unless_fits : (p : Present) (whole : Reply) → (unless_too_large limits p whole).records ≡ fitting limits p.last whole.records
  unless_fits p whole = by (length (fitting limits p.last whole.records) == length whole.records) refl
    where
      by : (b : Bool) → (length (fitting limits p.last whole.records) == length whole.records) ≡ b
          → (cond b whole (record { responses = []; status = refusal_line ChangeTooLarge; records = fitting limits p.last whole.records })).records ≡ fitting limits p.last whole.records
      by true same = sym (fitting_all p.last whole.records (eqb-true (length (fitting limits p.last whole.records)) (length whole.records) same))
      by false other = refl

-- where there are sequences for lawful records
pub record LeadOn (s : State) (rs : List (List Event)) : Type 0 where
  pub lawful : AreLawfulRecords s rs
  pub within : (after_records s rs).present.last ≤ greatest_sequence

pub reply_leads : (limits : Limits) (s : State) (m : ℕ) (line : List ℕ) (r : Reply) → IsValid s → MayBeNext s m → IsReply limits s line m r → LeadOn s r.records
unfolding IsReply
reply_leads limits s m line r valid may e =
    let is : fitting limits s.present.last e.0.records ≡ r.records = sym (unless_fits limits s.present e.0) ∙ sym (ap (λ (x : Reply). x.records) e.2) in
    subst (LeadOn s) is (record {
      lawful = fitting_lawful limits s e.0.records (replies_lawful s m line e.0 valid may e.1);
      within = fitting_within limits s e.0.records valid.within;
    })

pub replies_valid : ValidAfterRecords → RepliesValid
replies_valid after_all limits s m line r valid may e =
    let leads = reply_leads limits s m line r valid may e in
    (leads.lawful, after_all s r.records valid leads.lawful leads.within)
