-- What the readers of a segment answer.
use Rattle.std.specs.Prelude.{◌≡◌, ◌≤◌, ℕ, Option, None, Some, Result, Ok, Err}
use Rattle.bt_log.specs.declared.fault.Fault.{Fault}
use Rattle.bt_log.specs.declared.fault.Fault.TheVariants as fault

abbrev pub Fails : {Y : Type 0} → Fault → Result Y ℕ → Type 0
Fails (fault.Bad left) read = read ≡ Err left
Fails fault.OutOfMemory read = Unit {0}

-- what a function returned, seen by view, is what reading gives, unless memory ran out
abbrev pub Gives : {X Y : Type 0} → (X → Y) → Result X Fault → Result Y ℕ → Type 0
Gives view (Ok x) read = read ≡ Ok (view x)
Gives view (Err e) read = Fails e read

abbrev pub option_map : {A B : Type 0} → (A → B) → Option A → Option B
option_map f None = None
option_map f (Some x) = Some (f x)

-- a fault names no more bytes than there were
abbrev pub IsWithin : ℕ → Fault → Type 0
IsWithin n (fault.Bad left) = left ≤ n
IsWithin n fault.OutOfMemory = Unit {0}
