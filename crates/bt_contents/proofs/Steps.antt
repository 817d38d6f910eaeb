-- What is left of a range of rows once a row or a cell was given.
use Rattle.std.proofs.Common.{◌≡◌, ◌≤◌, ℕ, List, [], ◌∷◌, Option, Some, None, length, subst}
use Rattle.std.specs.Prelude.{IfSome, IfNone, All}
use Rattle.std.specs.Ordering.{nat_cmp}
use Rattle.std.specs.declared.cmp.Ordering.TheVariants.{Less}
use Rattle.std.specs.Cmp.Lexicographic.{slice_cmp}
use Rattle.std.specs.List.{AllByRecursion}
use Rattle.std.specs.Map.{keys_of, values_of}
use Rattle.std.proofs.lemmas.List.Elements.{All-head, All-tail}
use Rattle.std.proofs.lemmas.Map.Keys.{sorted_head, sorted_tail}
use Rattle.bt_types.specs.declared.cell.Cell.{Cell}
use Rattle.bt_types.specs.Cells.{cell_cmp, IsRow}
use Rattle.bt_entry.specs.Grammar.{most_of_value}
use Rattle.bt_contents.specs.Contents.{Contents}
use Rattle.bt_row.specs.Sound.{AreShort}
use Rattle.bt_contents.specs.Ranges.{GoesOn}

none_left : (key : Option (List ℕ)) (c : Cell) (cs : List Cell) → IfNone key (c ∷ cs ≡ []) → IfNone key (cs ≡ [])
none_left None c cs none = cc
none_left (Some k) c cs none = tt

tail_of : (key : Option (List ℕ)) (last : Option Cell) (c : Cell) (cs : List Cell) (rows : Contents) → GoesOn key last (c ∷ cs) rows → GoesOn key (Some c) cs rows
tail_of key last c cs rows g = record {
  sorted = g.sorted;
  behind = g.behind;
  no_row = none_left key c cs g.no_row;
  row = record { ordered = g.row.ordered.1; unlabelled = All-tail (λ (d : Cell). d.label ≡ None) c cs g.row.unlabelled };
  short = All-tail (λ (d : Cell). length d.value ≤ most_of_value) c cs g.short;
  ordered_rows = g.ordered_rows;
  short_rows = g.short_rows;
  later = g.row.ordered.0;
}

-- the first cell was given
pub cell_given : (key : Option (List ℕ)) (last : Option Cell) (c : Cell) (cells rest : List Cell) (rows : Contents) → cells ≡ c ∷ rest → GoesOn key last cells rows → GoesOn key (Some c) rest rows
cell_given key last c cells rest rows is g = tail_of key last c rest rows (subst (λ (x : List Cell). GoesOn key last x rows) is g)

later_tail : (last : Option Cell) (c : Cell) (cs : List Cell) → IfSome last (λ b. All (λ d. cell_cmp b d ≡ Less) (c ∷ cs)) → IfSome last (λ b. All (λ d. cell_cmp b d ≡ Less) cs)
later_tail None c cs all = tt
later_tail (Some b) c cs all = All-tail (λ d. cell_cmp b d ≡ Less) c cs all

skipped : (key : Option (List ℕ)) (last : Option Cell) (c : Cell) (cs : List Cell) (rows : Contents) → GoesOn key last (c ∷ cs) rows → GoesOn key last cs rows
skipped key last c cs rows g = record {
  sorted = g.sorted;
  behind = g.behind;
  no_row = none_left key c cs g.no_row;
  row = record { ordered = g.row.ordered.1; unlabelled = All-tail (λ (d : Cell). d.label ≡ None) c cs g.row.unlabelled };
  short = All-tail (λ (d : Cell). length d.value ≤ most_of_value) c cs g.short;
  ordered_rows = g.ordered_rows;
  short_rows = g.short_rows;
  later = later_tail last c cs g.later;
}

-- the first cell is passed over
pub cell_passed : (key : Option (List ℕ)) (last : Option Cell) (c : Cell) (cells rest : List Cell) (rows : Contents) → cells ≡ c ∷ rest → GoesOn key last cells rows → GoesOn key last rest rows
cell_passed key last c cells rest rows is g = skipped key last c rest rows (subst (λ (x : List Cell). GoesOn key last x rows) is g)

behind_tail : (key : Option (List ℕ)) (k : List ℕ) (ks : List (List ℕ)) → IfSome key (λ b. AllByRecursion (λ q. slice_cmp nat_cmp b q ≡ Less) (k ∷ ks)) → IfSome key (λ b. AllByRecursion (λ q. slice_cmp nat_cmp b q ≡ Less) ks)
behind_tail None k ks all = tt
behind_tail (Some b) k ks all = all.1

passed : (key : Option (List ℕ)) (last : Option Cell) (cells : List Cell) (r : List ℕ × List Cell) (rest : Contents) → GoesOn key last cells (r ∷ rest) → GoesOn key last cells rest
passed key last cells r rest g = record {
  sorted = sorted_tail (slice_cmp nat_cmp) r.0 (keys_of rest) g.sorted;
  behind = behind_tail key r.0 (keys_of rest) g.behind;
  no_row = g.no_row;
  row = g.row;
  short = g.short;
  ordered_rows = All-tail IsRow r.1 (values_of rest) g.ordered_rows;
  short_rows = All-tail AreShort r.1 (values_of rest) g.short_rows;
  later = g.later;
}

-- the first row is passed over
pub row_passed : (key : Option (List ℕ)) (last : Option Cell) (cells : List Cell) (r : List ℕ × List Cell) (rows rest : Contents) → rows ≡ r ∷ rest → GoesOn key last cells rows → GoesOn key last cells rest
row_passed key last cells r rows rest is g = passed key last cells r rest (subst (λ (x : Contents). GoesOn key last cells x) is g)

begun : (key : Option (List ℕ)) (last : Option Cell) (cells : List Cell) (r : List ℕ × List Cell) (rest : Contents) → GoesOn key last cells (r ∷ rest) → GoesOn (Some r.0) None r.1 rest
begun key last cells r rest g = record {
  sorted = sorted_tail (slice_cmp nat_cmp) r.0 (keys_of rest) g.sorted;
  behind = sorted_head (slice_cmp nat_cmp) r.0 (keys_of rest) g.sorted;
  no_row = tt;
  row = All-head IsRow r.1 (values_of rest) g.ordered_rows;
  short = All-head AreShort r.1 (values_of rest) g.short_rows;
  ordered_rows = All-tail IsRow r.1 (values_of rest) g.ordered_rows;
  short_rows = All-tail AreShort r.1 (values_of rest) g.short_rows;
  later = tt;
}

-- the first row is at hand
pub row_begun : (key : Option (List ℕ)) (last : Option Cell) (cells : List Cell) (r : List ℕ × List Cell) (rows rest : Contents) → rows ≡ r ∷ rest → GoesOn key last cells rows → GoesOn (Some r.0) None r.1 rest
row_begun key last cells r rows rest is g = begun key last cells r rest (subst (λ (x : Contents). GoesOn key last cells x) is g)

last_follows : (last : Option Cell) (c : Cell) (cs : List Cell) → IfSome last (λ b. All (λ d. cell_cmp b d ≡ Less) (c ∷ cs)) → IfSome last (λ b. cell_cmp b c ≡ Less)
last_follows None c cs all = tt
last_follows (Some b) c cs all = All-head (λ d. cell_cmp b d ≡ Less) c cs all

-- the first cell follows the last one given
pub cell_follows : (key : Option (List ℕ)) (last : Option Cell) (c : Cell) (cells rest : List Cell) (rows : Contents) → cells ≡ c ∷ rest → GoesOn key last cells rows
    → IfSome last (λ b. cell_cmp b c ≡ Less) × (c.label ≡ None) × (length c.value ≤ most_of_value)
cell_follows key last c cells rest rows is g =
    let h = subst (λ (x : List Cell). GoesOn key last x rows) is g in
    (last_follows last c rest h.later, All-head (λ (d : Cell). d.label ≡ None) c rest h.row.unlabelled, All-head (λ (d : Cell). length d.value ≤ most_of_value) c rest h.short)
