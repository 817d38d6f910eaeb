use Rattle.std.proofs.Common.{◌≡◌, ◌∷◌, List, Option, Err, rules, subst, sym}
use Rattle.std.specs.Vec.Iter.{into_iter_items}
use Rattle.bt_messages.specs.declared.refusal.Refusal.{Refusal}
use Rattle.bt_rules.specs.declared.family.Family.{Family}
use Rattle.bt_plans.proofs.Refusing.{refuses_first}
use Rattle.bt_plans.specs.NoPlans.{Refuses}
use Rattle.bt_table_replies.specs.Tables.{family_refusal, first_bad_family}
use Rattle.bt_table_replies.proofs.families.lawful_families.Goals as goal

pub returns-in_err-lawful_family-clause-refusal : goal.returns-in_err-lawful_family-clause-refusal
returns-in_err-lawful_family-clause-refusal c =
    let e = c.in_err-lawful_family.field-0.0 in
    let rest = into_iter_items c.next.new.self in
    let here : Refuses {A = Family} (family_refusal c.in-Some.family) (Err e) = search rules in
    let passed : first_bad_family c.args.asked ≡ first_bad_family (c.in-Some.family ∷ rest) = search rules in
    let all : Refuses {A = List Family} (first_bad_family c.args.asked) (Err e) =
    subst (λ (o : Option Refusal). Refuses {A = List Family} o (Err e)) (sym passed) (refuses_first Family (List Family) (family_refusal c.in-Some.family) (first_bad_family rest) e here) in
    search rules
