use Rattle.std.proofs.Common.{ℕ, sym, subst, List, [], rules}
use Rattle.bt_types.specs.Grammar.{is_qualifier}
use Rattle.bt_types.specs.declared.mutation.Mutation.TheVariants.{DeleteFamily}
use Rattle.bt_row.specs.declared.extent.Extent.TheVariants.{Family}
use Rattle.bt_row.specs.Extents.{Covers}
use Rattle.bt_row.proofs.Covering.{family_named}
use Rattle.bt_row.proofs.Covering.{its_bytes}
use Rattle.bt_row.proofs.extent.Extent.of_family.Goals as goal

-- no qualifier is below the empty one
pub returns : goal.returns
returns c =
    let empty = its_bytes is_qualifier [] c.in-Some.qualifier (search rules) in
    subst (λ (q : List ℕ). Covers (Family (record { family = c.args.family; qualifier = q; at = c.latest_before-at.result })) (DeleteFamily c.args.family)) (sym empty) (family_named c.args.family c.latest_before-at.result c.latest_before-at.ensures)
