-- A reply's change, made.
use Rattle.std.proofs.Common.{◌≡◌, ◌<◌, ℕ, Bool, true, false, List, [], ◌++◌, length, take, inl, inr, refl, sym, ap, ◌∙◌, subst}
use Rattle.std.specs.List.{flat_map}
use Rattle.std.specs.Prelude.{Result, Ok, Err}
use Rattle.bt_crash.specs.Changes.{HoldsSome, StepsThrough}
use Rattle.bt_crash.proofs.Chains.{OnlyNow}
use Rattle.bt_messages.specs.Refusals.{refusal_line}
use Rattle.bt_messages.specs.declared.refusal.Refusal.TheVariants.{ChangeTooLarge, DiskFailed, OutOfMemory}
use Rattle.bt_outside.specs.declared.disk.Disk.{Ghosts}
use Rattle.bt_plans.specs.Plans.{IsSaid, answer_bytes, read_reply}
use Rattle.bt_plans.specs.Replies.{Reply, reply_lines}
use Rattle.bt_plans.specs.declared.answer.Answer.{Answer}
use Rattle.bt_plans.specs.declared.answer.Answer.TheVariants.{Refused}
use Rattle.bt_plans.specs.declared.read_plan.ReadPlan.{ReadPlan}
use Rattle.bt_send.specs.Reads.{ReadGoes}
use Rattle.bt_service.specs.Commits.{AreThere, CommitsSo}
use Rattle.bt_service.specs.Outcomes.{IsUsable, SaysSo, has_ended, outcome_of}
use Rattle.bt_service.specs.Steps.{EndsIf, Leaves, Made}
use Rattle.bt_service.specs.Turns.{GoesSo, How, ended, refused_on_the_way, whole, fitting, tried_by, unless_too_large}
use Rattle.bt_service.specs.declared.outcome.Outcome.{Outcome}
use Rattle.bt_service.specs.declared.outcome.Outcome.TheVariants.{Says}
use Rattle.bt_service.specs.declared.committing.ChangeFault.{ChangeFault}
use Rattle.bt_service.specs.declared.committing.ChangeFault.TheVariants as change
use Rattle.bt_service.proofs.Progress.{after_same, none_there}
use Rattle.bt_service.proofs.Sizes.{cut, cut_records, is_cut, not_cut}
use Rattle.bt_state.specs.State.{Event, State, after_record, after_records}
use Rattle.bt_store.specs.Held.{HoldsState}
use Rattle.bt_store.specs.Stands.{Seen, Stands}
use Rattle.bt_store.specs.declared.limits.Limits.{Limits}

module _ {D : Type 0} (disk : Ghosts D) (limits : Limits) (s : State) (r : Reply) where
  -- a change that was made of what the reply is known to be
  pub makes : (q : Reply) → unless_too_large limits s.present r ≡ q → (how : How) (records : List (List Event)) (old new : D) (store : Seen) (lines : List ℕ) (has_ended : Bool) → GoesSo how q lines records → EndsIf has_ended how → Leaves disk how store (after_records s records) new
      → StepsThrough disk HoldsState after_record s (tried_by how q.records records) old new → Made disk limits s r old new store lines has_ended
  makes q is how records old new store lines has_ended goes ends leaves steps = record {
    how = how;
    records = records;
    goes = subst (λ (x : Reply). GoesSo how x lines records) (sym is) goes;
    ends = ends;
    leaves = leaves;
    steps = subst (λ (x : Reply). StepsThrough disk HoldsState after_record s (tried_by how x.records records) old new) (sym is) steps;
  }

  module _ (now : D) (store : Seen) (law : OnlyNow disk now) (stands : Stands store s (disk.held now) (disk.may_leave now)) where
    pub made_said : (answer : Answer) → IsSaid answer r → Made disk limits s r now now store (answer_bytes answer) false
    made_said answer is =
        makes r (not_cut limits s.present r (ap (fitting limits s.present.last) is.records ∙ sym is.records)) whole [] now now store (answer_bytes answer) false (is.lines, sym is.records) tt stands
        (none_there disk s now store law stands).steps

    -- a read changes nothing, however much of its reply is written
    pub made_read : (read : ReadPlan) → r ≡ read_reply s.present read → (out : List ℕ) → ReadGoes (read_reply s.present read).responses out → Made disk limits s r now now store out false
    made_read read is out (inl all) =
        let none : r.records ≡ [] = ap (λ (x : Reply). x.records) is in
        let lines : out ≡ reply_lines r = all ∙ ap reply_lines (sym is) in
        makes r (not_cut limits s.present r (ap (fitting limits s.present.last) none ∙ sym none)) whole [] now now store out false (lines, sym none) tt stands
        (none_there disk s now store law stands).steps
    made_read read is out (inr some) =
        let none : r.records ≡ [] = ap (λ (x : Reply). x.records) is in
        let lines : out ≡ flat_map (λ line. line) (take some.0 r.responses) ++ refusal_line OutOfMemory =
        some.1 ∙ ap (λ (x : Reply). flat_map (λ line. line) (take some.0 x.responses) ++ refusal_line OutOfMemory) (sym is)
        in
        makes r (not_cut limits s.present r (ap (fitting limits s.present.last) none ∙ sym none)) refused_on_the_way [] now now store out false
        ((some.0, lines), (0, inl refl, refl)) tt stands
        (none_there disk s now store law stands).steps

    pub made_without_memory : Made disk limits s r now now store (refusal_line OutOfMemory) false
    made_without_memory =
        makes (unless_too_large limits s.present r) refl refused_on_the_way [] now now store (refusal_line OutOfMemory) false ((0, refl), (0, inl refl, refl)) tt stands
        (none_there disk s now store law stands).steps

  -- the records that fit
  abbrev fit : List (List Event)
  fit = fitting limits s.present.last r.records

  module _ (old new : D) (store : Seen) where
    pub made_whole : (answer : Answer) → answer_bytes answer ≡ reply_lines r → fit ≡ r.records → AreThere disk s r.records old new store → Made disk limits s r old new store (answer_bytes answer) false
    made_whole answer lines all there =
        makes r (not_cut limits s.present r all) whole r.records old new store (answer_bytes answer) false (lines, refl) tt there.stands there.steps

    pub made_too_large : length fit < length r.records → AreThere disk s fit old new store → Made disk limits s r old new store (refusal_line ChangeTooLarge) false
    made_too_large fewer there =
        makes (cut limits s.present r) (is_cut limits s.present r fewer) whole fit old new store (refusal_line ChangeTooLarge) false (refl, refl) tt there.stands there.steps

    pub made_on_the_way : (n : ℕ) → n < length fit → AreThere disk s (take n fit) old new store → Made disk limits s r old new store (refusal_line OutOfMemory) false
    made_on_the_way n fewer there =
        let same = cut_records limits s.present r in
        makes (unless_too_large limits s.present r) refl refused_on_the_way (take n fit) old new store (refusal_line OutOfMemory) false
        ((0, refl), (n, inr (subst (λ (rs : List (List Event)). n < length rs) (sym same) fewer), ap (take n) (sym same))) tt there.stands there.steps

    -- the records of a disk that failed: as many as it reads
    pub made_ended : StepsThrough disk HoldsState after_record s fit old new → HoldsSome HoldsState after_record s fit (disk.held new) → Made disk limits s r old new store (refusal_line DiskFailed) true
    made_ended steps reads =
        let same = cut_records limits s.present r in
        makes (unless_too_large limits s.present r) refl ended (take reads.0 fit) old new store (refusal_line DiskFailed) true
        ((0, refl), (reads.0, ap (take reads.0) (sym same))) refl
        (subst (λ (t : State). HoldsState t (disk.held new)) (after_same s (take reads.0 fit)) reads.2)
        (subst (λ (rs : List (List Event)). StepsThrough disk HoldsState after_record s rs old new) (sym same) steps)

module _ {D : Type 0} (disk : Ghosts D) (limits : Limits) (s : State) (old new : D) (store : Seen) (r : Reply) where
  -- whatever is written for the outcome, the change was made that goes with it
  abbrev pub MadeOf : Outcome → Type 0
  MadeOf outcome = (out : List ℕ) → SaysSo store.present outcome out → Made disk limits s r old new store out (has_ended outcome)

  -- the bytes that are written are those of the answer
  pub so_said : (said : Answer) (ends : Bool) → Made disk limits s r old new store (answer_bytes said) ends → MadeOf (Says said ends)
  so_said said ends made out is = subst (λ (o : List ℕ). Made disk limits s r old new store o ends) (sym is) made

-- what is said of the records is what was made
module _ {D T : Type 0} (disk : Ghosts D) (limits : Limits) (s : State) (old new : D) (store : Seen) (answer : Answer) where
  pub made_changes : (r : Reply) (tells : disk.tells) → disk.may_leave new (disk.held new) → answer_bytes answer ≡ reply_lines r → (result : Result T ChangeFault) → CommitsSo disk limits s r.records old new store result
      → MadeOf disk limits s old new store r (outcome_of result answer)
  made_changes r tells reads lines (Ok x) so = so_said disk limits s old new store r answer false (made_whole disk limits s r old new store answer lines so.0 so.1)
  made_changes r tells reads lines (Err change.TooLarge) so = so_said disk limits s old new store r (Refused ChangeTooLarge) false (made_too_large disk limits s r old new store so.0 so.1)
  made_changes r tells reads lines (Err change.OutOfMemory) so = so_said disk limits s old new store r (Refused OutOfMemory) false (made_on_the_way disk limits s r old new store so.0 so.1 so.2)
  made_changes r tells reads lines (Err change.DiskFailed) so = so_said disk limits s old new store r (Refused DiskFailed) true (made_ended disk limits s r old new store so (so.now tells (disk.held new) reads))

  -- the store may go on being used, unless the disk failed
  pub usable_changes : (rs : List (List Event)) (result : Result T ChangeFault) → CommitsSo disk limits s rs old new store result → IsUsable disk (has_ended (outcome_of result answer)) store new
  usable_changes rs (Ok x) so = (after_records s rs, so.1.stands)
  usable_changes rs (Err change.TooLarge) so = (after_records s (fitting limits s.present.last rs), so.1.stands)
  usable_changes rs (Err change.OutOfMemory) so = (after_records s (take so.0 (fitting limits s.present.last rs)), so.2.stands)
  usable_changes rs (Err change.DiskFailed) so = tt
