-- The range of all keys.
use Rattle.std.proofs.Common.{◌≡◌, ℕ, true, List, [], ◌∷◌, None, refl, ap}
use Rattle.bt_contents.specs.Contents.{Contents}
use Rattle.bt_contents.specs.Ranges.{is_in, rows_within}
use Rattle.bt_types.specs.declared.row_range.RowRange.{RowRange}

abbrev all_keys : RowRange
all_keys = record { start = []; end = None }

every_key : (key : List ℕ) → is_in all_keys key ≡ true
every_key [] = refl
every_key (b ∷ bs) = refl

-- all rows are in it
pub all_within : (rows : Contents) → rows_within all_keys rows ≡ rows
all_within [] = refl
all_within (r ∷ rows) = rw (every_key r.0) (ap (λ (rs : Contents). r ∷ rs) (all_within rows))
