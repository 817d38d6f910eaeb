use Rattle.std.proofs.Common.{◌≡◌, ◌++◌, [], ◌∷◌, rules, append-nil, sym, ◌∙◌}
use Rattle.std.specs.Prelude.{◌&&◌, not, false, filter}
use Rattle.std.specs.Ordering.{is_le}
use Rattle.bt_row.specs.Extents.{reaches, first_of}
use Rattle.bt_row.specs.Keys.{key_cmp}
use Rattle.bt_row.proofs.Covering.{reached_more, reached_all, reached_named}
use Rattle.bt_row.proofs.extent.Extent.keys_in.Goals as goal
use Rattle.bt_row.proofs.extent.Extent.keys_in.Goals.{in-None, in-Some+then-not-reaches}

-- one more key is reached
pub loop-key-preserved : goal.loop-key-preserved
loop-key-preserved g c =
    let written : c.push.new.self.items ≡ c.loop-key.keys.items ++ c.in-Some.key.now ∷ [] = search rules in
    (tt, rw written (reached_more (reaches c.args.self.now) _ (c.in-Some.key.now, c.in-Some.field-0-1.now) _ _ _ c.in-Some.ensures.steps c.loop-key.invariant.1 (search rules)))

-- all that are reached were seen
pub returns : goal.returns
returns g c =
    let d = c.args.self.now in
    let es = c.args.cells.now.entries in
    let range : c.into_iter-key-iterator.result ≡ filter (λ e. is_le (key_cmp (first_of d) e.0) && not false) es = search rules in
    reached_named d _ _ es c.range-key-items.ensures.ordered range
    (elim c.match-next.branch [
      | in-None w ↦ sym (append-nil c.loop-key.keys.items) ∙ rw w.in-None.ensures.steps.0 at c.loop-key.invariant.1
      | in-Some+then-not-reaches w ↦ reached_all (reaches d) _ (w.in-Some.key.now, w.in-Some.field-0-1.now) _ _ _ w.in-Some.ensures.steps c.loop-key.invariant.1 (search rules)
    ])
