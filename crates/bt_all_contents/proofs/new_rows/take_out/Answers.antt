use Rattle.std.proofs.Common.{◌≡◌, ◌∷◌, ◌∙◌, List, [], cond, ap, rules}
use Rattle.std.specs.List.{list_any}
use Rattle.std.specs.BTreeMap.{is_at}
use Rattle.std.specs.Vec.Iter.{into_iter_items}
use Rattle.bt_row.specs.Keys.{Keyed}
use Rattle.bt_all_contents.specs.AllContents.{RowAt, at_cmp, cells_there}
use Rattle.bt_all_contents.proofs.AllRows.{taken_two}
use Rattle.bt_all_contents.proofs.new_rows.take_out.Goals as goal

pub remove_there-requires : goal.remove_there-requires
remove_there-requires c = c.loop-at.invariant.2

-- the row at hand is taken out
pub loop-at-preserved : goal.loop-at-preserved
loop-at-preserved c =
    let step : into_iter_items c.loop-at.at-iterator ≡ c.in-Some.at ∷ into_iter_items c.next.new.self = search rules in
    let rest : List RowAt = into_iter_items c.next.new.self in (
      tt,
      tt,
      c.remove_there.ensures.tables,
      λ a. ap (λ (es : Keyed). cond (list_any (is_at (at_cmp a)) rest) [] es) (c.remove_there.ensures.rows a)
          ∙ taken_two (is_at (at_cmp a) c.in-Some.at) (list_any (is_at (at_cmp a)) rest) (cells_there c.loop-at.tables.entries a) ∙ (rw step at c.loop-at.invariant.3) a,
    )
