-- Names of chunks, and the last cell of a row.
use Rattle.std.proofs.Common.{◌≡◌, ℕ, zero, suc, ◌+◌, ◌-◌, ◌<◌, Bool, true, false, List, [], ◌∷◌, length, get_or, Option, Some, None, slice_get, refl, ap, ◌∙◌, arith, inl, inr}
use Rattle.std.specs.Prelude.{◌&&◌, nat_lt, nat_le}
use Rattle.std.specs.List.{list_all}
use Rattle.std.specs.Str.{IsUtf8}
use Rattle.std.proofs.lemmas.Bool.{and_parts, and_from, ltb-true, cases_lt}
use Rattle.std.proofs.lemmas.Bool.Decides.{nat_tests}
use Rattle.std.proofs.lemmas.Str.{IsUtf8-from_ascii}
use Rattle.std.proofs.lemmas.List.{get_or_past}
use Rattle.std.proofs.lemmas.List.Elements.{All-get_or}
use Rattle.std.proofs.lemmas.List.Sums.{AllPass-from_list_all}
use Rattle.bt_types.specs.Grammar.{is_family_name, is_name_byte}
use Rattle.bt_types.specs.declared.cell.Cell.{Cell}
use Rattle.bt_chunks.specs.Joining.{last_cell}

-- ---- the last cell

last_at : (cs : List Cell) (n : ℕ) → n ≡ length cs - 1 → slice_get cs n ≡ last_cell cs
last_at [] n len = refl
last_at (c ∷ []) zero len = refl
last_at (c ∷ []) (suc n) len = absurd (omega (arith, len))
last_at (c ∷ d ∷ ds) zero len = absurd (omega (arith, len))
last_at (c ∷ d ∷ ds) (suc n) len = last_at (d ∷ ds) n (omega (arith, len))

pub last_is : (cs : List Cell) → slice_get cs (length cs - 1) ≡ last_cell cs
last_is cs = last_at cs (length cs - 1) refl
