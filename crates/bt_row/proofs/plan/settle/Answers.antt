use Rattle.std.proofs.Common.{◌≡◌, ◌∙◌, Some, None, cond, ap, sym, refl, rules}
use Rattle.std.specs.Prelude.{IsSome}
use Rattle.std.specs.Map.{set_value}
use Rattle.std.specs.BTreeMap.{is_at}
use Rattle.std.specs.Option.{option_copied_mut}
use Rattle.bt_row.specs.Keys.{key_cmp}
use Rattle.bt_row.specs.Plans.{value_at}
use Rattle.bt_row.proofs.Plans.{same_turned, value_written}
use Rattle.bt_row.proofs.plan.settle.Goals as goal

pub returns-in-Some-get_mut-clause-value : goal.returns-in-Some-get_mut-clause-value
returns-in-Some-get_mut-clause-value c =
    let es = c.args.cells.now.entries in
    let key = c.args.key.now in
    let written : (c.get_mut.follows.lender c.in-Some.value).entries ≡ set_value (is_at (key_cmp key)) es c.in-Some.value = search rules in
    let found : value_at es key ≡ Some c.in-Some-get_mut.place.now = sym c.get_mut.ensures.value ∙ ap option_copied_mut c.in-Some-get_mut.is in
    let there : IsSome (value_at es key) = rw found refl in
    λ k. rw (written, c.in-Some.is) (value_written key k c.in-Some.value es there)

pub returns-in-None-clause-value : goal.returns-in-None-clause-value
returns-in-None-clause-value c = λ k. rw c.in-None.is (c.remove.ensures.updates.0 k ∙ ap (λ t. cond t None (value_at c.args.cells.now.entries k)) (same_turned c.args.key.now k))
