use Rattle.std.proofs.Common.{ap, ◌∙◌}
use Rattle.bt_range.specs.Covers.{is_cover}
use Rattle.bt_range.proofs.Covering.{covers}
use Rattle.bt_range.proofs.cover.covers_exactly.Goals as goal

pub returns : goal.returns
returns c = covers c.args.parts.now _ _ c.args.whole.now c.in_ok-exact.exact c.in_ok-all.ensures c.in_ok-all-2.ensures.same c.in_ok-all-2.ensures.ascending c.in_ok-all-2.ensures.filled (c.in_ok-exact.ensures ∙ ap (λ all. is_cover all c.args.whole.now) c.as_slice.ensures.value)
