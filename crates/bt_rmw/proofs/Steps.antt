-- One rule after another.
use Rattle.std.proofs.Common.{◌≡◌, ℕ, ◌+◌, List, ◌∷◌, Option, Some, None, Result, Ok, Err, refl, sym, ap, ◌∙◌}
use Rattle.std.specs.Prelude.{option_map, IfErr}
use Rattle.std.specs.Option.{option_or}
use Rattle.bt_types.specs.declared.cell.Cell.{Cell}
use Rattle.bt_rmw.specs.declared.column.Column.{Column}
use Rattle.bt_rmw.specs.declared.refusal.ModifyRefusal.{ModifyRefusal}
use Rattle.bt_rmw.specs.declared.refusal.ModifyRefusal.TheVariants as modify
use Rattle.bt_rmw.specs.declared.rule.ModifyRule.{ModifyRule}
use Rattle.bt_rmw.specs.Held.{Held, Stamped, at_time, cell_in, cells_of, held_at, latest_stamped, put_stamped, stamped, stamped_after}
use Rattle.bt_rmw.specs.Modified.{cell_after, cell_before, cell_of, go_on, latest_in, made_by, put_cell, time_after, value_after}
use Rattle.bt_rmw.specs.Rules.{RefusesToModify, column_of}
use Rattle.bt_rmw.proofs.Held.{cells_found}

abbrev cell_made : Column → Result Stamped ModifyRefusal → Result Cell ModifyRefusal
cell_made column (Ok s) = Ok (cell_in column s)
cell_made column (Err why) = Err why

-- what a rule makes of a cell is what it makes of the cell's time and value
of_stamped : (moment index : ℕ) (rule : ModifyRule) (before : Option Cell) → cell_after moment index rule before ≡ cell_made (column_of rule) (stamped_after moment index rule.action (option_map stamped before))
of_stamped moment index rule None = by (value_after index rule.action None)
  where
    by : (r : Result (List ℕ) ModifyRefusal) → cell_of moment rule None r ≡ cell_made (column_of rule) (at_time (time_after moment None) r)
    by (Ok value) = refl
    by (Err why) = refl
of_stamped moment index rule (Some c) = by (value_after index rule.action (Some c.value))
  where
    by : (r : Result (List ℕ) ModifyRefusal) → cell_of moment rule (Some c) r ≡ cell_made (column_of rule) (at_time (time_after moment (Some c.at)) r)
    by (Ok value) = refl
    by (Err why) = refl

either : (a b : Option Cell) → option_map stamped (option_or a b) ≡ option_or (option_map stamped a) (option_map stamped b)
either None b = refl
either (Some c) b = refl

module _ (moment index : ℕ) (rule : ModifyRule) (cells : List Cell) (made latest : Held)
    (before : option_or (held_at made (column_of rule)) (held_at latest (column_of rule)) ≡ option_or (held_at made (column_of rule)) (latest_stamped cells (column_of rule))) where
  abbrev outcome : Result Stamped ModifyRefusal
  outcome = stamped_after moment index rule.action (option_or (held_at made (column_of rule)) (held_at latest (column_of rule)))

  -- what the rule makes of the latest cell of its column
  here : cell_after moment index rule (cell_before rule (cells_of made) cells) ≡ cell_made (column_of rule) outcome
  here =
      let seen : option_map stamped (cell_before rule (cells_of made) cells) ≡ option_or (held_at made (column_of rule)) (held_at latest (column_of rule)) =
      either (latest_in rule.family rule.qualifier (cells_of made)) (latest_in rule.family rule.qualifier cells)
      ∙ ap (λ o. option_or o (latest_stamped cells (column_of rule))) (cells_found made (column_of rule)) ∙ sym before in
      of_stamped moment index rule (cell_before rule (cells_of made) cells) ∙ ap (λ o. cell_made (column_of rule) (stamped_after moment index rule.action o)) seen

  -- the rule is carried out
  pub goes_on : (new : Held) (rules : List ModifyRule) → put_stamped (column_of rule) outcome made ≡ Ok (cells_of new) → made_by moment cells index (rule ∷ rules) (cells_of made) ≡ made_by moment cells (index + 1) rules (cells_of new)
  goes_on new rules put = ap (λ r. go_on r (λ c. made_by moment cells (index + 1) rules (put_cell c (cells_of made)))) here ∙ by outcome put
    where
      by : (r : Result Stamped ModifyRefusal) → put_stamped (column_of rule) r made ≡ Ok (cells_of new) → go_on (cell_made (column_of rule) r) (λ c. made_by moment cells (index + 1) rules (put_cell c (cells_of made))) ≡ made_by moment cells (index + 1) rules (cells_of new)
      by (Ok s) put =
          let same : put_cell (cell_in (column_of rule) s) (cells_of made) ≡ cells_of new = cc in
          ap (made_by moment cells (index + 1) rules) same
      by (Err why) put = cc

  -- the rule cannot be carried out
  ends : (why : ModifyRefusal) (rules : List ModifyRule) → RefusesToModify outcome why → RefusesToModify (made_by moment cells index (rule ∷ rules) (cells_of made)) why
  ends why rules refuses = by why refuses
    where
      ended : (why : ModifyRefusal) → outcome ≡ Err why → made_by moment cells index (rule ∷ rules) (cells_of made) ≡ Err why
      ended why is = ap (λ r. go_on r (λ c. made_by moment cells (index + 1) rules (put_cell c (cells_of made)))) (here ∙ ap (cell_made (column_of rule)) is)

      by : (why : ModifyRefusal) → RefusesToModify outcome why → RefusesToModify (made_by moment cells index (rule ∷ rules) (cells_of made)) why
      by (modify.NotEightBytes i) is = ended (modify.NotEightBytes i) is
      by (modify.IncrementRange i) is = ended (modify.IncrementRange i) is
      by (modify.ValueTooLarge i) is = ended (modify.ValueTooLarge i) is
      by modify.OutOfMemory is = tt

  pub ended_by : {A : Type 0} (rules : List ModifyRule) (r : Result A ModifyRefusal) → IfErr r (λ why. RefusesToModify outcome why) → IfErr r (λ why. RefusesToModify (made_by moment cells index (rule ∷ rules) (cells_of made)) why)
  ended_by rules (Ok x) refuses = tt
  ended_by rules (Err why) refuses = ends why rules refuses
