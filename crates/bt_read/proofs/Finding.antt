-- Rows that are read one after another, of which some are passed over.
use Rattle.std.proofs.Common.{◌≡◌, ℕ, ◌==◌, false, List, [], ◌∷◌, length, map, Option, Some, None, ap, ◌∙◌, subst, cond}
use Rattle.std.specs.Prelude.{IfSome, not}
use Rattle.std.specs.List.{filter}
use Rattle.std.specs.Ordering.{nat_cmp}
use Rattle.std.specs.Cmp.Lexicographic.{slice_cmp}
use Rattle.std.specs.declared.cmp.Ordering.TheVariants.{Less}
use Rattle.std.proofs.lemmas.Cmp.{nat_list_cmp_total}
use Rattle.bt_types.specs.declared.cell.Cell.{Cell}
use Rattle.bt_types.specs.declared.found_row.FoundRow.{FoundRow}
use Rattle.bt_types.specs.Sources.{Left}
use Rattle.bt_filter.specs.declared.filter.Filter.{Filter}
use Rattle.bt_read.specs.Answers.{GivesFound, found, found_row, is_filled}

-- the key at hand, where there is one, stands before this
abbrev pub IsPast : Option (List ℕ) → List ℕ → Type 0
IsPast before key = IfSome before (λ b. slice_cmp nat_cmp b key ≡ Less)

past_further : (before : Option (List ℕ)) (key further : List ℕ) → IsPast before key → slice_cmp nat_cmp key further ≡ Less → IsPast before further
past_further None key further h lt = tt
past_further (Some b) key further h lt = nat_list_cmp_total.trans b key further h lt

-- what stands past a key stands past what that key stands past
pub past_more : (before now : Option (List ℕ)) (key further : List ℕ) → IsPast before key → now ≡ Some key → IsPast now further → IsPast before further
past_more before now key further h is k = past_further before key further h (subst (λ n. IsPast n further) is k)

-- ---- rows that are left with no cell

passed : (r : FoundRow) (old new : List FoundRow) → old ≡ r ∷ new → is_filled r ≡ false → filter is_filled old ≡ filter is_filled new
passed r old new e t = ap (filter is_filled) e ∙ ap (λ b. cond b (r ∷ filter is_filled new) (filter is_filled new)) t

pub passed_over : (f now : Filter) (r : FoundRow) (old new : Left) → now ≡ f → GivesFound (Some r) (map (found_row now) old.rows) (map (found_row now) new.rows) → r.cells ≡ [] → found f old.rows ≡ found f new.rows
passed_over f now r old new is gives none =
    subst (λ g. found g old.rows ≡ found g new.rows) is (passed r (map (found_row now) old.rows) (map (found_row now) new.rows) gives (ap (λ (cs : List Cell). not (length cs == 0)) none))
