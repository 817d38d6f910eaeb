use Rattle.std.proofs.Common.{◌≤◌, length, ap}
use Rattle.std.specs.Map.{values_of}
use Rattle.std.proofs.lemmas.List.Elements.{All-rest}
use Rattle.bt_entry.specs.Grammar.{IsSpellableMutation, most_of_value}
use Rattle.bt_rmw.specs.declared.column.Column.{Column}
use Rattle.bt_rmw.specs.Held.{Stamped}
use Rattle.bt_rmw.proofs.Held.{all_push, cells_pushed, settings_pushed}
use Rattle.bt_rmw.proofs.outcome.written.Goals as goal

pub loop-column-preserved : goal.loop-column-preserved
loop-column-preserved c =
    let l = c.loop-column in
    let e : Column × Stamped = (c.in-Some.column, c.in-Some.version) in
    let step = c.in-Some.ensures.steps in (
      tt,
      cells_pushed e _ _ l.cells _ _ _ step c.cell_of-cell.ensures c.in_ok-push-2.ensures.ok l.invariant.1,
      settings_pushed _ _ l.cells _ l.mutations _ c.in_ok-setting.ensures.exact c.in_ok-push.ensures.ok c.in_ok-push-2.ensures.ok l.invariant.2,
      rw c.in_ok-push.ensures.ok (all_push IsSpellableMutation l.mutations _ l.invariant.3 c.in_ok-setting.ensures.spellable),
      All-rest (λ (s : Stamped). length s.1 ≤ most_of_value) c.in-Some.version (values_of c.next.new.self) (values_of l.column-iterator) (ap values_of step) l.invariant.4,
    )
