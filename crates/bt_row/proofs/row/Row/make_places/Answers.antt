use Rattle.std.proofs.Common.{subst, sym, rules}
use Rattle.bt_row.specs.Sound.{IsSound}
use Rattle.bt_row.specs.Keys.{key_total}
use Rattle.bt_row.specs.Plans.{value_at}
use Rattle.bt_row.proofs.Entries.{same_entries}
use Rattle.bt_row.proofs.Plans.{exact_key, places_put, taken_back, unwanted_stay}
use Rattle.bt_row.proofs.Sound.{placed_sound}
use Rattle.bt_row.proofs.row.Row.make_places.Goals as goal

-- the cells that were made are gone
pub returns-then-is_err-clause-err : goal.returns-then-is_err-clause-err
returns-then-is_err-clause-err c =
    let es = c.args.self.now.cells.entries in
    same_entries key_total exact_key _ es c.take_back.ensures.sorted c.requires.sound.sorted
    (taken_back c.args.plan.now.outcomes.entries (value_at es) (value_at c.put_places.new.cells.entries) c.requires.plan.fresh (unwanted_stay c.args.plan.now.outcomes.entries c.in_ok-keys.keys.items (value_at es) (value_at c.put_places.new.cells.entries) c.in_ok-keys.ensures c.put_places.ensures.others) (value_at c.take_back.new.cells.entries) c.take_back.ensures.values)

pub returns-then-is_err-clause-sound : goal.returns-then-is_err-clause-sound
returns-then-is_err-clause-sound c =
    let es = c.args.self.now.cells.entries in
    let same = same_entries key_total exact_key _ es c.take_back.ensures.sorted c.requires.sound.sorted
    (taken_back c.args.plan.now.outcomes.entries (value_at es) (value_at c.put_places.new.cells.entries) c.requires.plan.fresh (unwanted_stay c.args.plan.now.outcomes.entries c.in_ok-keys.keys.items (value_at es) (value_at c.put_places.new.cells.entries) c.in_ok-keys.ensures c.put_places.ensures.others) (value_at c.take_back.new.cells.entries) c.take_back.ensures.values) in
    subst IsSound (sym same) c.requires.sound

-- the cells that are wanted have places
pub returns-clause-values : goal.returns-clause-values
returns-clause-values c =
    let es = c.args.self.now.cells.entries in
    places_put c.args.plan.now.outcomes.entries c.in_ok-keys.keys.items (value_at es) (value_at c.put_places.new.cells.entries) c.in_ok-keys.ensures c.put_places.ensures.others (search rules)

pub returns-clause-sound : goal.returns-clause-sound
returns-clause-sound c =
    let es = c.args.self.now.cells.entries in
    placed_sound c.args.plan.now.outcomes.entries c.requires.plan.lawful es c.requires.sound c.put_places.new.cells.entries c.put_places.ensures.sorted (returns-clause-values c)
