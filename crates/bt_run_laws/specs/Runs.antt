-- What holds of runs from a valid state.
use Rattle.std.specs.Prelude.{◌≡◌, ℕ, List, ◌∷◌, ◌++◌, take}
use Rattle.bt_laws.specs.States.{AreLawfulRecords, IsValid}
use Rattle.bt_outside.specs.Links.{Sent}
use Rattle.bt_service.specs.Turns.{IsTurn, Turn, records_of}
use Rattle.bt_state.specs.State.{Event, State, after_records}
use Rattle.bt_store.specs.declared.limits.Limits.{Limits}
use Rattle.bt_top.specs.Runs.{IsRun, all_turns}

-- the records of a run may come in turn, and the state after it is valid
abbrev pub RunsValid : Type 0
RunsValid = (limits : Limits) (s : State) (connections : List (List ℕ)) (readings : List ℕ) (outputs : List Sent) (records : List (List Event)) (new : State) → IsValid s
    → IsRun limits s connections readings outputs records new → AreLawfulRecords s records × IsValid new

-- so is each state within it: that after the first of its records
abbrev pub StatesValid : Type 0
StatesValid = (limits : Limits) (s : State) (connections : List (List ℕ)) (readings : List ℕ) (outputs : List Sent) (records : List (List Event)) (new : State) (n : ℕ) → IsValid s
    → IsRun limits s connections readings outputs records new → IsValid (after_records s (take n records))

-- among the turns this one comes behind those
abbrev pub ComesBehind : List Turn → Turn → List Turn → Type 0
ComesBehind before t turns = (later : List Turn) × (turns ≡ before ++ t ∷ later)

-- the state before the turn behind those
abbrev pub state_before : State → List Turn → State
state_before s before = after_records s (records_of before)

-- each turn of a run is one in the state that those before it leave, which is valid
abbrev pub TurnsValid : Type 0
TurnsValid = (limits : Limits) (s : State) (connections : List (List ℕ)) (readings : List ℕ) (outputs : List Sent) (records : List (List Event)) (new : State) (run : IsRun limits s connections readings outputs records new)
    (before : List Turn) (t : Turn) → IsValid s → ComesBehind before t (all_turns run.talks) → IsValid (state_before s before) × IsTurn limits (state_before s before) t
