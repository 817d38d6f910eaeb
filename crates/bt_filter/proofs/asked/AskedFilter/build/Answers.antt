use Rattle.std.proofs.Common.{arith, sym, ◌∙◌}
use Rattle.bt_filter.proofs.Sizes.{few_nodes}
use Rattle.bt_filter.proofs.Complete.{completed}
use Rattle.bt_filter.proofs.asked.AskedFilter.build.Goals as goal

pub build_filter-built-requires : goal.build_filter-built-requires
build_filter-built-requires c = omega (arith, few_nodes c.args.self (sym c.flaw_of_extent.ensures ∙ c.in_default.is))

pub returns-clause-complete : goal.returns-clause-complete
returns-clause-complete c = completed c.args.self c.build_filter-built.result.0 (sym c.flaw_of_extent.ensures ∙ c.in_default.is) c.build_filter-built.ensures.checked
