use Rattle.std.proofs.Common.{ap, sym, not, ◌∙◌}
use Rattle.bt_json.specs.View.{view}
use Rattle.bt_walk.specs.Shapes.{seen}
use Rattle.bt_walk.proofs.Alone.{set_if_named, unset_if_not}
use Rattle.bt_walk.proofs.member.is_set_alone.Goals as goal

pub returns-then-is_named : goal.returns-then-is_named
returns-then-is_named c = ap not c.is_absent.ensures ∙ set_if_named c.args.key.now (view c.args.value.now) (seen c.args.member.now) (sym c.is_named.ensures ∙ c.if-is_named.true)

pub returns-else-is_named : goal.returns-else-is_named
returns-else-is_named c = c.if-is_named.false ∙ unset_if_not c.args.key.now (view c.args.value.now) (seen c.args.member.now) (sym c.is_named.ensures ∙ c.if-is_named.false)
