use Rattle.std.proofs.Common.{◌≡◌, ◌∷◌, ◌∙◌, [], None, cond, ap, rules, arith}
use Rattle.std.specs.BTreeMap.{is_at}
use Rattle.std.specs.Vec.Iter.{into_iter_items}
use Rattle.std.proofs.lemmas.List.{nil_from_length}
use Rattle.bt_row.specs.declared.cell_key.CellKey.{CellKey}
use Rattle.bt_row.specs.Keys.{key_cmp}
use Rattle.bt_row.specs.Plans.{value_at}
use Rattle.bt_row.proofs.Plans.{cleared, drop_one, same_turned}
use Rattle.bt_row.proofs.Sound.{fewer_sound}
use Rattle.bt_row.proofs.row.Row.remove.Goals as goal

-- the key at hand is removed
pub loop-key-preserved : goal.loop-key-preserved
loop-key-preserved c =
    let step : into_iter_items c.loop-key.key-iterator ≡ c.in-Some.key ∷ into_iter_items c.next.new.self = search rules in
    let es = c.loop-key.self.cells.entries in
    let fs = c.remove.new.self.entries in
    let one : (k : CellKey) → value_at fs k ≡ cond (is_at (key_cmp k) c.in-Some.key) None (value_at es k) = λ k.
    c.remove.ensures.updates.0 k ∙ ap (λ t. cond t None (value_at es k)) (same_turned c.in-Some.key k) in (
      tt,
      tt,
      fewer_sound es c.loop-key.invariant.2 fs c.remove.ensures.ordered (λ k. is_at (key_cmp k) c.in-Some.key) one,
      λ k. drop_one c.in-Some.key (into_iter_items c.next.new.self) (value_at es) (value_at fs) one k ∙ (rw step at c.loop-key.invariant.3) k,
    )

-- all that the extent covers are gone
pub returns-clause-values : goal.returns-clause-values
returns-clause-values c =
    let ok = c.loop-key.key-iterator.rest.ok in
    let at_end = c.in-None.ensures.steps.0 in
    let bare : into_iter_items c.loop-key.key-iterator ≡ [] = nil_from_length _ (omega arith) in
    let all : into_iter_items c.into_iter-key-iterator.result ≡ c.in_ok-key-items.key-items.items = search rules in
    λ k. (rw (bare, all) at c.loop-key.invariant.3) k ∙ cleared c.args.extent.now c.args.self.now.cells.entries c.in_ok-key-items.key-items.items c.in_ok-key-items.ensures k
