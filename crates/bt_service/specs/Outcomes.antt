-- Which answers come of which results.
use Rattle.std.specs.Prelude.{◌⊎◌, ◌≡◌, ℕ, Bool, true, false, List, Result, Ok, Err}
use Rattle.bt_base.specs.Counts.{Risen}
use Rattle.bt_gate.specs.Faults.{WriteFailed}
use Rattle.bt_messages.specs.declared.refusal.Refusal.TheVariants as refusal
use Rattle.bt_outside.specs.declared.disk.Disk.{Ghosts}
use Rattle.bt_plans.specs.Plans.{answer_bytes, read_reply}
use Rattle.bt_plans.specs.declared.answer.Answer.{Answer}
use Rattle.bt_plans.specs.declared.answer.Answer.TheVariants.{Refused}
use Rattle.bt_send.specs.Reads.{ReadGoes}
use Rattle.bt_service.specs.declared.handled.Handled.{Handled}
use Rattle.bt_service.specs.declared.handled.Handled.TheVariants.{Answered, DiskEnded, LinkLost}
use Rattle.bt_service.specs.declared.outcome.Outcome.{Outcome}
use Rattle.bt_service.specs.declared.outcome.Outcome.TheVariants.{Reads, Says}
use Rattle.bt_service.specs.declared.committing.ChangeFault.{ChangeFault}
use Rattle.bt_service.specs.declared.committing.ChangeFault.TheVariants.{DiskFailed, OutOfMemory, TooLarge}
use Rattle.bt_state.specs.State.{Present, State}
use Rattle.bt_store.specs.Stands.{Seen, Stands}

-- the run ends after it
abbrev pub has_ended : Outcome → Bool
has_ended (Says answer ended) = ended
has_ended (Reads read) = false

-- this may be written for it
abbrev pub SaysSo : Present → Outcome → List ℕ → Type 0
SaysSo p (Says answer ended) out = out ≡ answer_bytes answer
SaysSo p (Reads read) out = ReadGoes (read_reply p read).responses out

abbrev pub says : Answer → Outcome
says answer = Says answer false

-- what is said once the records of a change were committed, or some of them
abbrev pub outcome_of : {T : Type 0} → Result T ChangeFault → Answer → Outcome
outcome_of (Ok x) answer = says answer
outcome_of (Err TooLarge) answer = says (Refused refusal.ChangeTooLarge)
outcome_of (Err OutOfMemory) answer = says (Refused refusal.OutOfMemory)
outcome_of (Err DiskFailed) answer = Says (Refused refusal.DiskFailed) true

-- by the link and the disk
abbrev pub handled_by : {T E : Type 0} → Bool → Result T E → Handled
handled_by true written = DiskEnded
handled_by false (Ok x) = Answered
handled_by false (Err e) = LinkLost

-- unless the disk failed, the store stands for some state
abbrev pub IsUsable : {D : Type 0} → Ghosts D → Bool → Seen → D → Type 0
IsUsable disk true store now = Unit {0}
IsUsable disk false store now = (s : State) × Stands store s (disk.held now) (disk.may_leave now)

abbrev pub IsUsableAfter : {D : Type 0} → Ghosts D → Handled → Seen → D → Type 0
IsUsableAfter disk Answered store now = IsUsable disk false store now
IsUsableAfter disk LinkLost store now = IsUsable disk false store now
IsUsableAfter disk DiskEnded store now = Unit {0}

-- the disk failed exactly so
abbrev pub FailsIf : {D : Type 0} → Ghosts D → Bool → D → D → Type 0
FailsIf disk true old new = WriteFailed disk old new
FailsIf disk false old new = (disk.faults new ≡ disk.faults old) × (disk.write_faults new ≡ disk.write_faults old)

-- the disk failed where the run ends, and nowhere else
abbrev pub DiskCounted : {D : Type 0} → Ghosts D → Handled → D → D → Type 0
DiskCounted disk Answered old new = FailsIf disk false old new
DiskCounted disk LinkLost old new = FailsIf disk false old new
DiskCounted disk DiskEnded old new = FailsIf disk true old new

-- the links failed where the link was lost, and perhaps where the disk failed
abbrev pub LinksCounted : Handled → ℕ → ℕ → Type 0
LinksCounted Answered old new = new ≡ old
LinksCounted LinkLost old new = Risen old new
LinksCounted DiskEnded old new = (new ≡ old) ⊎ Risen old new
