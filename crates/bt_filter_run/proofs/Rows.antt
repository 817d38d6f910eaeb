-- Cells that are read one after another.
use Rattle.std.proofs.Common.{◌≡◌, ℕ, false, List, [], ◌∷◌, ◌++◌, Option, Some, None, append_assoc, refl, ap, ◌∙◌, sym}
use Rattle.std.specs.Prelude.{IfSome}
use Rattle.std.specs.Ordering.{is_gt}
use Rattle.std.specs.declared.cmp.Ordering.TheVariants.{Less}
use Rattle.std.proofs.lemmas.Cmp.{upto}
use Rattle.bt_types.specs.declared.cell.Cell.{Cell}
use Rattle.bt_types.specs.Cells.{cell_cmp, IsPastNone, AreInOrder}
use Rattle.bt_types.specs.Sources.{GivesCell, Left}
use Rattle.bt_filter_run.proofs.Merges.{StandBy, cell_total, is_past}

-- the last of the cells, where there is one
abbrev pub IsLast : List Cell → Option Cell → Type 0
IsLast [] last = Unit {0}
IsLast (c ∷ []) last = last ≡ Some c
IsLast (c ∷ d ∷ ds) last = IsLast (d ∷ ds) last

-- cells in order, the last of which is this
pub record AreRead (cs : List Cell) (given : Option Cell) : Type 0 where
  pub order : AreInOrder cs
  pub last : IsLast cs given

stand_by : (cs : List Cell) (c : Cell) (last : Option Cell) → AreInOrder cs → IsLast cs last → IfSome last (λ b. cell_cmp b c ≡ Less) → StandBy cs c
stand_by [] c last o l h = tt
stand_by (b ∷ []) c None o l h = absurd (cc)
stand_by (b ∷ []) c (Some a) o l h =
    let same : a ≡ b = cc in
    (ap (λ x. is_past x c) (sym same) ∙ ap is_gt h, tt)
stand_by (a ∷ b ∷ bs) c last o l h =
    let rest = stand_by (b ∷ bs) c last o.1 l h in
    (upto cell_total a b c o.0.0 rest.0, rest)

pub past_none_more : (c : Cell) (cs : List Cell) (d : Cell) → IsPastNone c cs → is_past c d ≡ false → IsPastNone c (cs ++ d ∷ [])
past_none_more c [] d h k = (k, tt)
past_none_more c (e ∷ es) d h k = (h.0, past_none_more c es d h.1 k)

pub in_order_more : (cs : List Cell) (c : Cell) → AreInOrder cs → StandBy cs c → AreInOrder (cs ++ c ∷ [])
in_order_more [] c o h = (tt, tt)
in_order_more (d ∷ ds) c o h = (past_none_more d ds c o.0 h.0, in_order_more ds c o.1 h.1)

last_more : (cs : List Cell) (c : Cell) → IsLast (cs ++ c ∷ []) (Some c)
last_more [] c = refl
last_more (d ∷ []) c = refl
last_more (d ∷ e ∷ es) c = last_more (e ∷ es) c

pub read_more : (cs : List Cell) (c : Cell) (last : Option Cell) → AreRead cs last → IfSome last (λ b. cell_cmp b c ≡ Less) → AreRead (cs ++ c ∷ []) (Some c)
read_more cs c last h k = record { order = in_order_more cs c h.order (stand_by cs c last h.order h.last k); last = last_more cs c }

-- the cells so far, and those that are left
pub cells_more : (cells now : List Cell) (c : Cell) (old new : Left) (all : List Cell) → now ≡ cells ++ c ∷ [] → GivesCell (Some c) old new → cells ++ old.cells ≡ all → now ++ new.cells ≡ all
cells_more cells now c old new all is gives h = ap (λ l. l ++ new.cells) is ∙ append_assoc cells (c ∷ []) new.cells ∙ ap (λ l. cells ++ l) (sym gives.0) ∙ h

-- the rows behind the row at hand
pub rows_stay : (c : Cell) (old new : Left) (all : List (List ℕ × List Cell)) → GivesCell (Some c) old new → old.rows ≡ all → new.rows ≡ all
rows_stay c old new all gives h = gives.1 ∙ h
