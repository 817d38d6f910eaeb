-- Entries of rows, one after another.
use Rattle.std.proofs.Common.{◌≡◌, ◌≤◌, ◌+◌, ℕ, suc, List, [], ◌∷◌, ◌++◌, length, map, Some, refl, ap, ◌∙◌, sym, subst, arith, append-nil}
use Rattle.std.specs.List.{AllByRecursion}
use Rattle.bt_entry.specs.Grammar.{AreNumbered}
use Rattle.bt_entry.specs.declared.entry.Entry.{Entry}
use Rattle.bt_entry.specs.declared.entry.Entry.TheVariants.{Row, Create, Delete, Alter, Stream, Floor}
use Rattle.bt_entry.specs.declared.numbered.Numbered.{Numbered}
use Rattle.bt_entry.specs.declared.table_info.TableInfo.{TableInfo}
use Rattle.serde_json.specs.Data.{Data}
use Rattle.bt_messages.specs.Lines.{line_of, ok_line}
use Rattle.bt_plans.specs.Plans.{AreRecords, IsPlan, answer_bytes}
pub use Rattle.bt_plans.specs.Comings.{MayCome}
use Rattle.bt_plans.specs.Records.{as_record, numbered_from, plan_of}
use Rattle.bt_plans.specs.Replies.{Reply, event, reply_lines}
use Rattle.bt_plans.specs.declared.answer.Answer.{Answer}
use Rattle.bt_schema.specs.Schema.{table_at}
use Rattle.bt_state.specs.State.{AreLawful, IsLawful, IsOfRow, Event, Present, events_of, numbered, present_after, presents_after}

-- ---- numbers

-- numbering changes no entry
pub events-numbered_from : (first m : ℕ) (es : List Entry) → events_of (numbered_from first m es) ≡ map (event m) es
events-numbered_from first m [] = refl
events-numbered_from first m (e ∷ es) = ap (λ xs. event m e ∷ xs) (events-numbered_from (first + 1) m es)

pub are_numbered : (first m : ℕ) (es : List Entry) → AreNumbered first (numbered_from first m es)
are_numbered first m [] = tt
are_numbered first m (e ∷ es) = (refl, are_numbered (first + 1) m es)

pub length-numbered_from : (first m : ℕ) (es : List Entry) → length (numbered_from first m es) ≡ length es
length-numbered_from first m [] = refl
length-numbered_from first m (e ∷ es) = ap suc (length-numbered_from (first + 1) m es)

pub numbered_from-append : (first m : ℕ) (es fs : List Entry) → numbered_from first m (es ++ fs) ≡ numbered_from first m es ++ numbered_from (first + length es) m fs
numbered_from-append first m [] fs = ap (λ n. numbered_from n m fs) (omega arith)
numbered_from-append first m (e ∷ es) fs =
    let same : first + 1 + length es ≡ first + length (e ∷ es) = omega arith in
    ap (λ xs. numbered first (event m e) ∷ xs) (numbered_from-append (first + 1) m es fs ∙ ap (λ n. numbered_from (first + 1) m es ++ numbered_from n m fs) same)

-- ---- lawfulness

-- an entry of a row leaves the tables as they are
pub same_schema : (m : ℕ) (p : Present) (e : Entry) → IsOfRow e → (present_after p (event m e)).schema ≡ p.schema
same_schema m p (Row incarnation key by_rule mutations) of_row = refl
same_schema m p (Create name families retention) of_row = absurd of_row
same_schema m p (Delete incarnation) of_row = absurd of_row
same_schema m p (Alter incarnation families) of_row = absurd of_row
same_schema m p (Stream incarnation retention) of_row = absurd of_row
same_schema m p Floor of_row = absurd of_row

-- what entries of rows leave of the tables and the numbers
pub record RowsAfter (n m : ℕ) (p q : Present) : Type 0 where
  pub schema : q.schema ≡ p.schema
  pub last : q.last ≡ p.last + n
  pub floor : q.floor ≤ m

module _ (t : TableInfo) (m : ℕ) where
  pub rows_after : (es : List Entry) → AllByRecursion (MayCome t m) es → (p : Present) → p.floor ≤ m → RowsAfter (length es) m p (presents_after p (map (event m) es))
  rows_after [] all p before = record { schema = refl; last = omega arith; floor = before }
  rows_after (e ∷ es) all p before =
      let rest = rows_after es all.1 (present_after p (event m e)) (omega arith) in
      record { schema = rest.schema ∙ same_schema m p e all.0.of_row; last = omega (arith, rest.last); floor = rest.floor }

  -- so they may come one after another
  pub come_in_turn : (es : List Entry) → AllByRecursion (MayCome t m) es → (p : Present) → table_at t.incarnation p.schema ≡ Some t → p.floor ≤ m → AreLawful p (map (event m) es)
  come_in_turn [] all p found before = tt
  come_in_turn (e ∷ es) all p found before =
      let there : table_at t.incarnation (present_after p (event m e)).schema ≡ Some t = ap (table_at t.incarnation) (same_schema m p e all.0.of_row) ∙ found in
      (all.0.lawful p found before, come_in_turn es all.1 (present_after p (event m e)) there (omega arith))

  -- as one record
  pub as_one_record : (es : List Entry) → AllByRecursion (MayCome t m) es → (p : Present) → table_at t.incarnation p.schema ≡ Some t → p.floor ≤ m → AreRecords p (as_record (numbered_from (p.last + 1) m es))
  as_one_record [] all p found before = tt
  as_one_record (e ∷ es) all p found before =
      (omega arith, are_numbered (p.last + 1) m (e ∷ es), subst (AreLawful p) (sym (events-numbered_from (p.last + 1) m (e ∷ es))) (come_in_turn (e ∷ es) all p found before), tt)

-- ---- plans

-- a response and the status of success are the lines of a reply
pub reply_lines-is : (d : Data) (lines : List ℕ) (records : List (List Event)) → lines ≡ line_of d ++ ok_line → lines ≡ reply_lines (record { responses = line_of d ∷ []; status = ok_line; records = records })
reply_lines-is d lines records said = said ∙ ap (λ x. x ++ ok_line) (sym (append-nil (line_of d)))

-- records before an answer, or the answer alone, are a plan
pub is_plan : (p : Present) (records : List (List Numbered)) (answer : Answer) (r : Reply) → answer_bytes answer ≡ reply_lines r → r.records ≡ map events_of records → AreRecords p records → IsPlan (plan_of records answer) p r
is_plan p [] answer r lines events lawful = record { lines = lines; records = events }
is_plan p (batch ∷ batches) answer r lines events lawful = record { lines = lines; events = events; lawful = lawful }
