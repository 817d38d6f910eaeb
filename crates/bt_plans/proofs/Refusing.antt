-- Refusals, one before the other.
use Rattle.std.proofs.Common.{Option, Err, ap}
use Rattle.std.specs.Option.{option_or}
use Rattle.bt_messages.specs.declared.refusal.Refusal.{Refusal}
use Rattle.bt_plans.specs.NoPlans.{Refuses}
use Rattle.bt_plans.specs.declared.no_plan.NoPlan.{NoPlan}
use Rattle.bt_plans.specs.declared.no_plan.NoPlan.TheVariants.{Refused, OutOfMemory}

-- the first refusal comes before the second
pub refuses_first : (A B : Type 0) (why rest : Option Refusal) (e : NoPlan) → Refuses {A = A} why (Err e) → Refuses {A = B} (option_or why rest) (Err e)
refuses_first A B why rest (Refused refusal) is = ap (λ (o : Option Refusal). option_or o rest) is
refuses_first A B why rest OutOfMemory is = tt
