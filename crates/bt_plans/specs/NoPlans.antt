-- Why no change is planned.
use Rattle.std.specs.Prelude.{◌≡◌, Option, Some, None, Result, Ok, Err}
use Rattle.bt_messages.specs.declared.refusal.Refusal.{Refusal}
use Rattle.bt_plans.specs.declared.no_plan.NoPlan.{NoPlan}
use Rattle.bt_plans.specs.declared.no_plan.NoPlan.TheVariants.{Refused, OutOfMemory}

-- it refuses for that, or for want of memory
abbrev pub Refuses : {A : Type 0} → Option Refusal → Result A NoPlan → Type 0
Refuses why (Ok x) = why ≡ None
Refuses why (Err (Refused refusal)) = why ≡ Some refusal
Refuses why (Err OutOfMemory) = Unit {0}
