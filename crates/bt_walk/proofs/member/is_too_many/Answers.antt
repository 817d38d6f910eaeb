use Rattle.std.proofs.Common.{ap, map, not, ◌∙◌}
use Rattle.std.proofs.lemmas.Bool.{eq-eqb}
use Rattle.bt_json.specs.View.{view}
use Rattle.bt_walk.specs.Shapes.{seen}
use Rattle.bt_walk.proofs.Alone.{too_many_by_choice, never_too_many}
use Rattle.bt_walk.proofs.member.is_too_many.Goals as goal

pub returns-then-choice-ne0 : goal.returns-then-choice-ne0
returns-then-choice-ne0 c = c.has_choice_alone.ensures ∙ too_many_by_choice c.in-Some.key.now (view c.in-Some.value.now) (view c.args.whole.now) (map seen c.args.members.now) (seen c.args.member.now) c.in-Some.ensures c.if-choice-ne0.true

pub returns-else-choice-ne0 : goal.returns-else-choice-ne0
returns-else-choice-ne0 c = ap not (eq-eqb c.args.member.now.choice 0 c.if-choice-ne0.false) ∙ never_too_many c.in-Some.key.now (view c.in-Some.value.now) (view c.args.whole.now) (map seen c.args.members.now) (seen c.args.member.now) c.in-Some.ensures c.if-choice-ne0.false
