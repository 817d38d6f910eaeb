use Rattle.std.proofs.Common.{◌≡◌, [], ◌∷◌, rules}
use Rattle.std.specs.Vec.Iter.{into_iter_items}
use Rattle.bt_row.specs.Plans.{value_at}
use Rattle.bt_row.proofs.Plans.{left_among, other_kept, place_made}
use Rattle.bt_row.proofs.row.put_places.Goals as goal

-- the key at hand has a place
pub loop-key-preserved-in_ok-insert : goal.loop-key-preserved-in_ok-insert
loop-key-preserved-in_ok-insert c =
    let step : into_iter_items c.loop-key.key-iterator ≡ c.in-Some.key ∷ into_iter_items c.next.new.self = search rules in
    let before = rw step at c.loop-key.invariant in
    let f = value_at c.loop-key.cells.entries in
    let g = value_at c.insert.new.self.entries in
    let old = value_at c.args.cells.now.entries in
    let bare : c.from_vec.result ≡ [] = search rules in
    let one = rw bare at c.in_ok-insert.ensures.updates.0 in
    (tt, tt, c.insert.ensures.ordered, left_among _ [] _ _ f g old one before.3, other_kept _ [] _ _ f g old one before.3 before.4, place_made _ [] _ _ f g old one before.5)

pub loop-key-preserved : goal.loop-key-preserved
loop-key-preserved c =
    let step : into_iter_items c.loop-key.key-iterator ≡ c.in-Some.key ∷ into_iter_items c.next.new.self = search rules in
    let before = rw step at c.loop-key.invariant in
    let f = value_at c.loop-key.cells.entries in
    let g = value_at c.insert.new.self.entries in
    let old = value_at c.args.cells.now.entries in
    let bare : c.from_vec.result ≡ [] = search rules in
    let one = rw bare at c.in_ok-insert.ensures.updates.0 in
    (tt, tt, c.insert.ensures.ordered, left_among _ [] _ _ f g old one before.3, other_kept _ [] _ _ f g old one before.3 before.4, place_made _ [] _ _ f g old one before.5)
