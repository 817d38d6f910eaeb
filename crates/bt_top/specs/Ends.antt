-- How a run ends, and what it is over links, a clock and a disk.
use Rattle.std.specs.Prelude.{◌≡◌, ◌⊎◌, ◌≤◌, ℕ, List, [], ◌∷◌, ◌++◌, length, map, Bool, true, false, Option, Some, None}
use Rattle.std.specs.List.{list_any}
use Rattle.bt_base.specs.Counts.{Risen}
use Rattle.bt_gate.specs.declared.log_fault.LogFault.{LogFault}
use Rattle.bt_gate.specs.declared.log_fault.LogFault.TheVariants as fault
use Rattle.bt_outside.specs.Links.{Sent}
use Rattle.bt_outside.specs.declared.disk.Disk.{Ghosts}
use Rattle.bt_service.specs.Turns.{AreTurns}
use Rattle.bt_state.specs.State.{Event, State, after_records}
use Rattle.bt_store.specs.Held.{HoldsState}
use Rattle.bt_store.specs.Stands.{Seen}
use Rattle.bt_store.specs.declared.limits.Limits.{Limits}
use Rattle.bt_top.specs.Crashes.{Survives, SurvivesFrom}
use Rattle.bt_top.specs.Lines.{ending_of_connection, lines_of_connection}
use Rattle.bt_top.specs.Runs.{IsRun, Talk, all_tried, all_turns, out_of, talk_ended, talk_out, talk_records}
use Rattle.bt_top.specs.Steps.{LeavesIf}
use Rattle.bt_top.specs.declared.exit.Exit.{Exit}
use Rattle.bt_top.specs.declared.exit.Exit.TheVariants.{Damaged, DiskFault, Done, LinkFault, OutOfMemory, Usage}
use Rattle.bt_words.specs.declared.command.Command.{Command}
use Rattle.bt_words.specs.declared.command.Command.TheVariants.{Run, Serve}

-- the exit status of the process
abbrev pub exit_status : Exit → ℕ
exit_status Done = 0
exit_status Usage = 2
exit_status OutOfMemory = 3
exit_status DiskFault = 4
exit_status (Damaged file at) = 5
exit_status LinkFault = 6

-- the disk failed
abbrev pub is_disk_fault : Exit → Bool
is_disk_fault Done = false
is_disk_fault Usage = false
is_disk_fault OutOfMemory = false
is_disk_fault DiskFault = true
is_disk_fault (Damaged file at) = false
is_disk_fault LinkFault = false

-- a session ends so
abbrev pub IsOfSession : Exit → Type 0
IsOfSession Done = Unit {0}
IsOfSession Usage = ⊥
IsOfSession OutOfMemory = Unit {0}
IsOfSession DiskFault = Unit {0}
IsOfSession (Damaged file at) = ⊥
IsOfSession LinkFault = Unit {0}

-- a run ends so where the tables were not loaded
abbrev pub IsOfLoading : Exit → Type 0
IsOfLoading Done = ⊥
IsOfLoading Usage = ⊥
IsOfLoading OutOfMemory = Unit {0}
IsOfLoading DiskFault = Unit {0}
IsOfLoading (Damaged file at) = Unit {0}
IsOfLoading LinkFault = ⊥

-- how a run ends that could not load the tables
abbrev pub exit_of : LogFault → Exit
exit_of fault.DiskFailed = DiskFault
exit_of (fault.Damaged file at) = Damaged file at
exit_of (fault.TooLarge n) = DiskFault
exit_of fault.OutOfMemory = OutOfMemory

-- a write, a cut or a sync failed, or nothing was served
abbrev pub WhereItFailed : {D : Type 0} → Ghosts D → D → D → Type 0 → Type 0
WhereItFailed disk old new nothing_served = Risen (disk.write_faults old) (disk.write_faults new) ⊎ nothing_served

-- the limits of the program: lines of 16 MiB, connections of 1 TiB, records of 1 GiB
abbrev pub standard_limits : Limits
standard_limits = record { line = 16777216; connection = 1099511627776; body = 1073741824; flush = 4194304; files = 4; slice = 256; blocks = 64 }

-- how many connections a command serves at most
abbrev pub connections_of : Option Command → ℕ
connections_of None = 0
connections_of (Some (Run folder)) = 1
connections_of (Some (Serve folder address count)) = count

-- So many connections were served of those asked for: all of them at Done, or none was left. At Usage, OutOfMemory and Damaged none was.
abbrev pub Ended : Exit → ℕ → ℕ → List (List ℕ) → Type 0
Ended Done count number left = (number ≡ count) ⊎ ((left ≡ []) × (number ≤ count))
Ended Usage count number left = number ≡ 0
Ended OutOfMemory count number left = number ≡ 0
Ended DiskFault count number left = number ≤ count
Ended (Damaged file at) count number left = number ≡ 0
Ended LinkFault count number left = number ≤ count

-- a connection is marked as failed only where the links' faults rose
abbrev pub Blamed : Bool → ℕ → ℕ → Type 0
Blamed true old new = Risen old new
Blamed false old new = (new ≡ old) ⊎ Risen old new

-- the link took all: each line has its turn, and the refusal behind the lines is there
pub record IsWholeTalk (limits : Limits) (s : State) (bytes : List ℕ) (t : Talk) : Type 0 where
  pub lines : map (λ u. u.line) t.answered ≡ lines_of_connection limits bytes
  pub answers : AreTurns limits s t.answered
  pub out : talk_out t ≡ out_of t.answered ++ ending_of_connection limits bytes

abbrev pub AreWhole : Limits → State → List (List ℕ) → List Talk → Type 0
AreWhole limits s [] ts = Unit {0}
AreWhole limits s (bytes ∷ more) [] = ⊥
AreWhole limits s (bytes ∷ more) (t ∷ ts) = IsWholeTalk limits s bytes t × AreWhole limits (after_records s (talk_records t)) more ts

-- What was done to the links and the clock is a run: over the connections that were served, the readings that were told,
-- what was written to each connection with its mark and notes, and the records of the changes.
pub record Ran (has_ended : Bool) (limits : Limits) (s new : State) (left new_left : List (List ℕ)) (sent new_sent : List Sent) (told new_told : List ℕ) (number faults new_faults : ℕ) : Type 0 where
  pub served : List (List ℕ)
  pub readings : List ℕ
  pub made : List Sent
  pub records : List (List Event)
  pub run : IsRun limits s served readings made records new
  pub count : length served ≡ number
  pub taken : left ≡ served ++ new_left
  pub written : new_sent ≡ sent ++ made
  pub read : new_told ≡ told ++ readings
  pub cause : Blamed (list_any (λ c. c.failed) made) faults new_faults
  pub complete : has_ended ≡ false → (Risen faults new_faults → ⊥) → AreWhole limits s served run.talks

-- a session from this state, which ended so
pub record EndedSession {D : Type 0} (disk : Ghosts D) (exit : Exit) (limits : Limits) (count : ℕ) (s : State) (store : Seen) (old_disk new_disk : D) (left new_left : List (List ℕ)) (sent new_sent : List Sent) (told new_told : List ℕ) (faults new_faults : ℕ) : Type 0 where
  pub new : State
  pub number : ℕ
  pub ended : Ended exit count number new_left
  pub ran : Ran (is_disk_fault exit) limits s new left new_left sent new_sent told new_told number faults new_faults
  -- the run ended in a talk exactly where the disk failed
  pub ends : list_any talk_ended ran.run.talks ≡ is_disk_fault exit
  pub leaves : LeavesIf disk (is_disk_fault exit) store new new_disk
  pub survives : Survives disk s (all_tried ran.run.talks) (all_turns ran.run.talks) old_disk new_disk

-- A run from this state, which ended so: what the disk then holds, and what a crash at each moment leaves.
pub record EndedRun {D : Type 0} (disk : Ghosts D) (exit : Exit) (limits : Limits) (count : ℕ) (s : State) (old_disk new_disk : D) (left new_left : List (List ℕ)) (sent new_sent : List Sent) (told new_told : List ℕ) (faults new_faults : ℕ) : Type 0 where
  pub new : State
  pub number : ℕ
  pub ended : Ended exit count number new_left
  pub ran : Ran (is_disk_fault exit) limits s new left new_left sent new_sent told new_told number faults new_faults
  -- the run ended in a talk exactly where the disk failed; or nothing was served, since the tables were not loaded
  pub ends : (list_any talk_ended ran.run.talks ≡ is_disk_fault exit) ⊎ (number ≡ 0)
  pub holds : HoldsState new (disk.held new_disk)
  pub survives : SurvivesFrom disk s (all_tried ran.run.talks) (all_turns ran.run.talks) old_disk new_disk
