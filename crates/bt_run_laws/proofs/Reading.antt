-- What a client reads of the turns of a run.
use Rattle.std.proofs.Common.{◌≡◌, ◌⊎◌, ◌++◌, ℕ, Bool, true, false, List, [], ◌∷◌, Option, Some, None, refl, inl, inr, subst, sym, ap, ◌∙◌, cond, append_assoc, append-nil}
use Rattle.std.specs.Prelude.{ℤ, pos, negsuc, Ok}
use Rattle.std.specs.List.{flat_map}
use Rattle.bt_types.specs.declared.found_row.FoundRow.{FoundRow}
use Rattle.bt_chunks.specs.Chunks.{chunks_of, is_closed, last_response, packed, responses_of}
use Rattle.bt_chunks.specs.Joining.{joined}
use Rattle.bt_chunks.specs.declared.chunk.Chunk.{Chunk}
use Rattle.bt_entry.specs.declared.table_info.TableInfo.{TableInfo}
use Rattle.bt_filter.specs.Building.{filter_of}
use Rattle.bt_filter.specs.declared.asked.AskedFilter.{AskedFilter}
use Rattle.bt_laws.specs.Reads.{ReadsJoin}
use Rattle.bt_laws.specs.States.{IsValid, ValidAfterRecords}
use Rattle.bt_messages.specs.declared.refusal.Refusal.TheVariants.{NegativeRowsLimit, TableNotFound}
use Rattle.bt_plans.specs.FilterRefusals.{refusal_for_filter}
use Rattle.bt_plans.specs.Replies.{Reply, rows_reply}
use Rattle.bt_range.specs.declared.asked_range.AskedRange.{AskedRange}
use Rattle.bt_read.specs.Answers.{answer}
use Rattle.bt_replies.specs.Lines.{IsAskedReply, IsEnvelopedReply}
use Rattle.bt_requests.specs.declared.request.Request.TheVariants.{ReadRows}
use Rattle.bt_row_replies.specs.Rows.{IsFilteredReply, IsLimitedReply, IsReadReply, limit_in}
use Rattle.bt_schema.specs.Schema.{table_of}
use Rattle.bt_service.specs.Turns.{IsReply, unless_too_large}
use Rattle.bt_state.specs.State.{State, rows_of}
use Rattle.bt_store.specs.declared.limits.Limits.{Limits}
use Rattle.bt_run_laws.proofs.Running.{turns_valid_in}
use Rattle.bt_run_laws.specs.Reads.{AnswersRead, AsksFor, GivesRows, IsRefusal, RunReadsJoin}

-- ---- responses

last_is : (cs : List Chunk) → flat_map (λ (c : List Chunk). c) (last_response cs) ≡ cs
last_is [] = refl
last_is (c ∷ cs) = append-nil (c ∷ cs)

-- the chunks of responses are those that were put into them
packed_all : (before cs : List Chunk) → flat_map (λ (c : List Chunk). c) (packed before cs) ≡ before ++ cs
packed_all before [] = last_is before ∙ sym (append-nil before)
packed_all before (c ∷ cs) = by (is_closed (before ++ c ∷ [])) (packed_all [] cs) (packed_all (before ++ c ∷ []) cs)
  where
    by : (b : Bool) → flat_map (λ (c : List Chunk). c) (packed [] cs) ≡ cs → flat_map (λ (c : List Chunk). c) (packed (before ++ c ∷ []) cs) ≡ (before ++ c ∷ []) ++ cs
        → flat_map (λ (c : List Chunk). c) (cond b ((before ++ c ∷ []) ∷ packed [] cs) (packed (before ++ c ∷ []) cs)) ≡ before ++ c ∷ cs
    by true closed further = ap (λ xs. (before ++ c ∷ []) ++ xs) closed ∙ append_assoc before (c ∷ []) cs
    by false closed further = further ∙ append_assoc before (c ∷ []) cs

gives : (rows : List FoundRow) → joined (chunks_of rows) ≡ Some rows → GivesRows rows (rows_reply rows)
gives rows joins = record {
  chunks = responses_of (chunks_of rows);
  responses = refl;
  joins = ap joined (packed_all [] (chunks_of rows)) ∙ joins;
  status = refl;
}

-- ---- the reply to a read

-- it is refused, or gives the rows
abbrev IsEither : State → List ℕ → List (List ℕ) → List AskedRange → AskedFilter → ℤ → Reply → Type 0
IsEither s name keys ranges f limit r = IsRefusal r ⊎ AnswersRead s name keys ranges f limit r

module _ (limits : Limits) (s : State) (valid : IsValid s) (reads : ReadsJoin) (name : List ℕ) (keys : List (List ℕ)) (ranges : List AskedRange) (f : AskedFilter) where
  -- what stays as it is
  abbrev Stays : ℤ → Reply → Type 0
  Stays limit r = IsEither s name keys ranges f limit (unless_too_large limits s.present r)

  filtered : (limit : ℤ) (most : ℕ) (t : TableInfo) (r : Reply) → limit ≡ pos most → table_of name s.present.schema ≡ Some t → IsFilteredReply (rows_of t.incarnation s.present.contents) keys ranges f most r → Stays limit r
  filtered limit most t r is there e = elim e as (λ _. Stays limit r) [
    | inl good ↦ subst (Stays limit) (sym good.1) (inr (record {
      table = t;
      found = there;
      most = most;
      limited = is;
      filter = good.0;
      rows = gives (answer (rows_of t.incarnation s.present.contents) keys ranges (filter_of f) most) (reads s t.incarnation keys ranges f most valid good.0);
    }))
    | inr bad ↦ subst (Stays limit) (sym bad.3) (inl (refusal_for_filter bad.0, refl))
  ]

  limited : (limit : ℤ) (t : TableInfo) (r : Reply) → table_of name s.present.schema ≡ Some t → IsLimitedReply (rows_of t.incarnation s.present.contents) keys ranges f (limit_in limit) r → Stays limit r
  limited (pos most) t r there e = filtered (pos most) most t r refl there e
  limited (negsuc n) t r there e = subst (Stays (negsuc n)) (sym e) (inl (NegativeRowsLimit, refl))

  read : (limit : ℤ) (o : Option TableInfo) (r : Reply) → table_of name s.present.schema ≡ o → IsReadReply s.present keys ranges f limit o r → Stays limit r
  read limit None r there e = subst (Stays limit) (sym e) (inl (TableNotFound, refl))
  read limit (Some t) r there e = limited limit t r there e

  reply_reads : (m : ℕ) (line : List ℕ) (limit : ℤ) (r : Reply) → AsksFor line (ReadRows name keys ranges f limit) → IsReply limits s line m r → IsEither s name keys ranges f limit r
  unfolding IsReply
  reply_reads m line limit r asks e =
      let enveloped : IsEnvelopedReply s.present m (Ok asks.0) e.0 = subst (λ x. IsEnvelopedReply s.present m x e.0) asks.1 e.1 in
      let asked : IsAskedReply s.present m (Ok (ReadRows name keys ranges f limit)) e.0 = subst (λ x. IsAskedReply s.present m x e.0) asks.2 enveloped in
      subst (IsEither s name keys ranges f limit) (sym e.2) (read limit (table_of name s.present.schema) e.0 refl asked)

pub run_reads_join : ValidAfterRecords → ReadsJoin → RunReadsJoin
run_reads_join after_all reads limits s connections readings outputs records new run before t name keys ranges f limit valid behind asks =
    let turn = turns_valid_in after_all limits s connections readings outputs records new run before t valid behind in
    reply_reads limits _ turn.0 reads name keys ranges f _ t.line limit t.given.reply asks turn.1.is_reply
