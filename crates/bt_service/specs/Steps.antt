-- What a line does to the links, the store and the disk.
use Rattle.std.specs.Prelude.{◌≡◌, ℕ, Bool, true, false, List, Option}
use Rattle.bt_base.specs.Counts.{Risen}
use Rattle.bt_crash.specs.Changes.{StepsThrough}
use Rattle.bt_outside.specs.Links.{LastGoes, Sent}
use Rattle.bt_outside.specs.declared.disk.Disk.{Ghosts}
use Rattle.bt_replies.specs.Lines.{IsReplyTo}
use Rattle.bt_plans.specs.Replies.{Reply}
use Rattle.bt_send.specs.Writes.{Writes}
use Rattle.bt_service.specs.Turns.{Given, GoesOn, GoesSo, How, ended, refused_on_the_way, whole, IsGiven, tried, tried_by, unless_too_large}
use Rattle.bt_service.specs.Outcomes.{SaysSo, has_ended}
use Rattle.bt_service.specs.declared.handled.Handled.{Handled}
use Rattle.bt_service.specs.declared.handled.Handled.TheVariants.{Answered, DiskEnded, LinkLost}
use Rattle.bt_service.specs.declared.outcome.Outcome.{Outcome}
use Rattle.bt_state.specs.State.{Event, Present, State, after_record, after_records}
use Rattle.bt_store.specs.Held.{HoldsState}
use Rattle.bt_store.specs.Stands.{Seen, Stands}
use Rattle.bt_store.specs.declared.limits.Limits.{Limits}

-- ---- links

-- what the line was given was written
abbrev pub GivenTo : Given → Sent → Sent → Type 0
GivenTo g old new = Writes g.out g.ends g.noted g.is_cut old new

-- the links' faults rose where the link failed, and stayed where it did not
abbrev pub CountedBy : Bool → ℕ → ℕ → Type 0
CountedBy false old new = new ≡ old
CountedBy true old new = Risen old new

-- the same connections are left, and the same of the one at hand
pub record KeepsConnections (left new_left : List (List ℕ)) (at_hand new_at_hand : Option (List ℕ)) : Type 0 where
  pub same_left : new_left ≡ left
  pub same_at_hand : new_at_hand ≡ at_hand

-- ---- store and disk

-- the store stands for the state; where the disk failed, the disk reads as the state
abbrev pub Leaves : {D : Type 0} → Ghosts D → How → Seen → State → D → Type 0
Leaves disk whole store s now = Stands store s (disk.held now) (disk.may_leave now)
Leaves disk refused_on_the_way store s now = Stands store s (disk.held now) (disk.may_leave now)
Leaves disk ended store s now = HoldsState s (disk.held now)

-- the run ends exactly so
abbrev pub EndsIf : Bool → How → Type 0
EndsIf true how = how ≡ ended
EndsIf false how = GoesOn how

-- a reply's change was made, as far as it goes, and these are the lines to be written
pub record Made {D : Type 0} (disk : Ghosts D) (limits : Limits) (s : State) (r : Reply) (old new : D) (store : Seen) (lines : List ℕ) (has_ended : Bool) : Type 0 where
  pub how : How
  pub records : List (List Event)
  pub goes : GoesSo how (unless_too_large limits s.present r) lines records
  pub ends : EndsIf has_ended how
  pub leaves : Leaves disk how store (after_records s records) new
  -- a crash at each moment finds the state after the first ones of these records
  pub steps : StepsThrough disk HoldsState after_record s (tried_by how (unless_too_large limits s.present r).records records) old new

-- a line's change was made, as far as it goes, and what is written for it goes with that
pub record MadeBy {D : Type 0} (disk : Ghosts D) (limits : Limits) (s : State) (p : Present) (m : ℕ) (line : List ℕ) (old new : D) (store : Seen) (outcome : Outcome) : Type 0 where
  pub reply : Reply
  pub is_reply : IsReplyTo p m line reply
  pub makes : (out : List ℕ) → SaysSo store.present outcome out → Made disk limits s reply old new store out (has_ended outcome)

-- ---- a line

abbrev pub Suits : Handled → Given → Type 0
Suits Answered g = GoesOn g.how × (g.is_cut ≡ false)
Suits LinkLost g = GoesOn g.how × (g.is_cut ≡ true)
Suits DiskEnded g = g.how ≡ ended

-- what came of a line at a moment, in this state
pub record Turned {D : Type 0} (disk : Ghosts D) (handled : Handled) (limits : Limits) (s : State) (line : List ℕ) (m : ℕ) (old new : D) (store : Seen) (sent new_sent : List Sent) (faults new_faults : ℕ) : Type 0 where
  pub given : Given
  pub is_given : IsGiven limits s line m given
  pub suits : Suits handled given
  pub written : LastGoes (GivenTo given) sent new_sent
  pub noted : given.noted ≡ disk.moment new
  pub counted : CountedBy given.is_cut faults new_faults
  pub leaves : Leaves disk given.how store (after_records s given.records) new
  -- a crash at each moment finds the state after the first ones of these records
  pub steps : StepsThrough disk HoldsState after_record s (tried given) old new
