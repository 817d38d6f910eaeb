use Rattle.std.proofs.Common.{◌∙◌, Ok, ap, sym, w64, option_map, rules}
use Rattle.bt_rmw.specs.declared.rule.Action.TheVariants.{Increment}
use Rattle.bt_rmw.specs.Modified.{bytes_of, value_after}
use Rattle.std.proofs.lemmas.Int.{to_z-of_z}
use Rattle.bt_rmw.proofs.Numbers.{past_range, to_sum}
use Rattle.bt_rmw.proofs.version.incremented.Goals as goal

pub returns-in-Some-checked_add-clause-sum : goal.returns-in-Some-checked_add-clause-sum
returns-in-Some-checked_add-clause-sum c =
    ap (λ o. value_after c.args.index (Increment c.args.amount) (option_map (λ v. v.items) o)) c.in-Some.is
    ∙ to_sum c.args.index c.args.amount c.in-Some-checked_add.sum c.in-Some.value.items (search rules) (search rules) (search rules)
    ∙ ap (λ z. Ok (bytes_of z)) (sym (to_z-of_z w64 c.in-Some-checked_add.sum (search rules)))

pub returns-clause-refusal : goal.returns-clause-refusal
returns-clause-refusal c =
    ap (λ o. value_after c.args.index (Increment c.args.amount) (option_map (λ v. v.items) o)) c.in-Some.is
    ∙ past_range c.args.index c.args.amount c.in-Some.value.items (search rules) (search rules)
