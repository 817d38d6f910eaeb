-- A reply before it is given, as the code holds it.
use Rattle.std.specs.Prelude.{◌≡◌, ◌≤◌, ◌+◌, ℕ, List, [], ◌∷◌, ◌++◌, length, map, filter}
use Rattle.bt_entry.specs.declared.numbered.Numbered.{Numbered}
use Rattle.bt_entry.specs.Grammar.{AreNumbered}
use Rattle.bt_messages.specs.Lines.{line_of, ok_line, response_data}
use Rattle.bt_messages.specs.Refusals.{refusal_line}
use Rattle.bt_messages.specs.Responses.{shown}
use Rattle.bt_messages.specs.declared.response.Response.TheVariants.{MutateRow}
use Rattle.bt_state.specs.State.{AreLawful, Present, events_of, presents_after, rows_of}
use Rattle.bt_range.specs.RowSets.{is_in_any}
use Rattle.bt_read.specs.Answers.{found, limit_of, limited}
use Rattle.bt_plans.specs.Replies.{Reply, reply_lines, rows_reply}
use Rattle.bt_plans.specs.declared.answer.Answer.{Answer}
use Rattle.bt_plans.specs.declared.answer.Answer.TheVariants.{Refused, Empty, Lines}
use Rattle.bt_plans.specs.declared.plan.Plan.{Plan}
use Rattle.bt_plans.specs.declared.plan.Plan.TheVariants.{Says, Changes, Reads}
use Rattle.bt_plans.specs.declared.read_plan.ReadPlan.{ReadPlan}

-- its bytes
abbrev pub answer_bytes : Answer → List ℕ
answer_bytes (Refused why) = refusal_line why
answer_bytes Empty = line_of (response_data (shown MutateRow)) ++ ok_line
answer_bytes (Lines lines) = lines

-- it says this and changes nothing
pub record IsSaid (answer : Answer) (r : Reply) : Type 0 where
  pub lines : answer_bytes answer ≡ reply_lines r
  pub records : r.records ≡ []

-- Records whose entries may come next, each in turn: none is empty, its entries can be counted, and they are numbered on.
abbrev pub AreRecords : Present → List (List Numbered) → Type 0
AreRecords p [] = Unit {0}
AreRecords p (r ∷ rs) =
    (1 ≤ length r) × AreNumbered (p.last + 1) r × AreLawful p (events_of r) × AreRecords (presents_after p (events_of r)) rs

-- it says this once the records are there, each of which may come in turn
pub record IsChange (records : List (List Numbered)) (answer : Answer) (p : Present) (r : Reply) : Type 0 where
  pub lines : answer_bytes answer ≡ reply_lines r
  pub events : r.records ≡ map events_of records
  pub lawful : AreRecords p records

-- the reply of a read: of the rows of the set, those with cells left
abbrev pub read_reply : Present → ReadPlan → Reply
read_reply p read =
    rows_reply (limited (limit_of read.rows_limit) (found read.node (filter (λ r. is_in_any read.rows r.0) (rows_of read.incarnation p.contents))))

-- it is a plan of this reply, over that present
abbrev pub IsPlan : Plan → Present → Reply → Type 0
IsPlan (Says answer) p r = IsSaid answer r
IsPlan (Changes records answer) p r = IsChange records answer p r
IsPlan (Reads read) p r = r ≡ read_reply p read

-- it is a plan of one of these replies
abbrev pub IsPlanOf : Plan → Present → (Reply → Type 0) → Type 0
IsPlanOf plan p Replies = (r : Reply) × Replies r × IsPlan plan p r
