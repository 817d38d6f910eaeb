-- The answer of a read of lawful rows has rows in order, filled and lawful.
use Rattle.std.proofs.Common.{◌≡◌, ℕ, ◌==◌, zero, suc, Bool, true, false, List, [], ◌∷◌, map, take, length, Option, Some, None, refl, sym, ap, subst}
use Rattle.std.specs.List.{AllByRecursion, filter}
use Rattle.std.specs.List.Sorted.{IsStrictlySortedBy}
use Rattle.std.specs.Ordering.{nat_cmp}
use Rattle.std.specs.Cmp.Lexicographic.{slice_cmp}
use Rattle.std.specs.declared.cmp.Ordering.TheVariants.{Less}
use Rattle.std.proofs.lemmas.Bool.{cond_both, not-true}
use Rattle.std.proofs.lemmas.List.Elements.{recursion_from_All}
use Rattle.bt_types.specs.declared.cell.Cell.{Cell}
use Rattle.bt_types.specs.declared.found_row.FoundRow.{FoundRow}
use Rattle.bt_types.specs.Grammar.{is_label}
use Rattle.bt_range.specs.RowSets.{is_selected}
use Rattle.bt_filter.specs.declared.asked.AskedFilter.{AskedFilter}
use Rattle.bt_filter.specs.declared.filter.Filter.{Filter}
use Rattle.bt_filter.specs.Building.{filter_of}
use Rattle.bt_filter.specs.Flaws.{IsValidFilter}
use Rattle.bt_filter.specs.Meaning.{filter_meaning, final_cells}
use Rattle.bt_filter.proofs.InOrder.{final_in_order}
use Rattle.bt_read.specs.Answers.{answer, found, found_row, is_filled, limit_of, limited}
use Rattle.bt_chunks.specs.Joining.{IsAnswer, IsFoundRow, IsLawfulCell, is_lawful_or_none}
use Rattle.bt_chunks.proofs.Joins.{chunks_join}
use Rattle.bt_laws.specs.Answers.{AnswersAreLawful, AnswersJoin}
use Rattle.bt_laws.specs.Tables.{HasLawfulNames, IsLawfulRow}
use Rattle.bt_laws.proofs.Kept.{AllCells, Keeps, all_filter, all_merge, all_take}
use Rattle.bt_laws.proofs.Labelling.{IsUnlabelled, sound}
use Rattle.bt_laws.proofs.Traces.{traces_mean}

-- ---- cells of a row

no_label_is_lawful : (label : Option (List ℕ)) → label ≡ None → is_lawful_or_none is_label label ≡ true
no_label_is_lawful label h = ap (is_lawful_or_none is_label) h

row_lawful : (cs : List Cell) → AllCells HasLawfulNames cs → AllCells IsUnlabelled cs → AllCells IsLawfulCell cs
row_lawful [] named un = tt
row_lawful (c ∷ cs) named un =
    (record { family = named.0.family; qualifier = named.0.qualifier; at = named.0.at; label = no_label_is_lawful c.label un.0 }, row_lawful cs named.1 un.1)

keeps_lawful : (f : AskedFilter) → IsValidFilter f → Keeps IsLawfulCell (filter_meaning (filter_of f))
keeps_lawful f valid = subst (Keeps IsLawfulCell) (traces_mean (filter_of f)) ((sound f).lawful false valid.nodes)

final_lawful : (f : AskedFilter) → IsValidFilter f → (key : List ℕ) (cells : List Cell) → AllCells IsLawfulCell cells → AllCells IsLawfulCell (final_cells (filter_of f) key cells)
final_lawful f valid key cells all =
    let given = keeps_lawful f valid key cells all in
    all_merge IsLawfulCell (filter_meaning (filter_of f) key cells).out (filter_meaning (filter_of f) key cells).sunk given.0 given.1

-- ---- rows

row_found : (f : AskedFilter) → IsValidFilter f → (row : List ℕ × List Cell) → IsLawfulRow row → is_filled (found_row (filter_of f) row) ≡ true → IsFoundRow (found_row (filter_of f) row)
row_found f valid row is filled = record {
  key = is.key;
  filled = not-true (length (final_cells (filter_of f) row.0 row.1) == 0) filled;
  ordered = final_in_order (filter_of f) row.0 row.1;
  lawful = final_lawful f valid row.0 row.1 (row_lawful row.1 is.named (recursion_from_All IsUnlabelled row.1 is.cells.unlabelled));
}

rows_found : (f : AskedFilter) → IsValidFilter f → (rows : List (List ℕ × List Cell)) → AllByRecursion IsLawfulRow rows → AllByRecursion IsFoundRow (found (filter_of f) rows)
rows_found f valid [] each = tt
rows_found f valid (r ∷ rs) each =
    let here : FoundRow = found_row (filter_of f) r in
    let rest = rows_found f valid rs each.1 in
    cond_both (is_filled here) (here ∷ found (filter_of f) rs) (found (filter_of f) rs) (AllByRecursion IsFoundRow) (λ filled. (row_found f valid r each.0 filled, rest)) (λ empty. rest)

-- ---- keys

-- the keys of the elements ascend
abbrev Ascend : {A : Type 0} → (A → List ℕ) → List A → Type 0
Ascend key xs = IsStrictlySortedBy (slice_cmp nat_cmp) (map key xs)

-- the keys of the elements stand past this
abbrev ArePast : {A : Type 0} → (A → List ℕ) → List ℕ → List A → Type 0
ArePast key k xs = AllByRecursion (λ l. slice_cmp nat_cmp k l ≡ Less) (map key xs)

past_filter : {A : Type 0} (key : A → List ℕ) (p : A → Bool) (k : List ℕ) (xs : List A) → ArePast key k xs → ArePast key k (filter p xs)
past_filter key p k [] past = tt
past_filter key p k (x ∷ xs) past =
    let rest = past_filter key p k xs past.1 in
    cond_both (p x) (x ∷ filter p xs) (filter p xs) (ArePast key k) (λ _. (past.0, rest)) (λ _. rest)

ascend_filter : {A : Type 0} (key : A → List ℕ) (p : A → Bool) (xs : List A) → Ascend key xs → Ascend key (filter p xs)
unfolding IsStrictlySortedBy
ascend_filter key p [] sorted = tt
ascend_filter key p (x ∷ xs) sorted =
    let rest = ascend_filter key p xs sorted.1 in
    cond_both (p x) (x ∷ filter p xs) (filter p xs) (Ascend key) (λ _. (past_filter key p (key x) xs sorted.0, rest)) (λ _. rest)

past_take : {A : Type 0} (key : A → List ℕ) (n : ℕ) (k : List ℕ) (xs : List A) → ArePast key k xs → ArePast key k (take n xs)
past_take key zero k xs past = tt
past_take key (suc n) k [] past = tt
past_take key (suc n) k (x ∷ xs) past = (past.0, past_take key n k xs past.1)

ascend_take : {A : Type 0} (key : A → List ℕ) (n : ℕ) (xs : List A) → Ascend key xs → Ascend key (take n xs)
unfolding IsStrictlySortedBy
ascend_take key zero xs sorted = tt
ascend_take key (suc n) [] sorted = tt
ascend_take key (suc n) (x ∷ xs) sorted = (past_take key n (key x) xs sorted.0, ascend_take key n xs sorted.1)

found_keys : (f : Filter) (rows : List (List ℕ × List Cell)) → map (λ (r : FoundRow). r.key) (map (found_row f) rows) ≡ map (λ (r : List ℕ × List Cell). r.0) rows
found_keys f [] = refl
found_keys f (r ∷ rs) = ap (λ ks. r.0 ∷ ks) (found_keys f rs)

ascend_found : (f : Filter) (rows : List (List ℕ × List Cell)) → Ascend (λ r. r.0) rows → Ascend (λ r. r.key) (found f rows)
ascend_found f rows sorted =
    ascend_filter (λ (r : FoundRow). r.key) is_filled (map (found_row f) rows) (subst (IsStrictlySortedBy (slice_cmp nat_cmp)) (sym (found_keys f rows)) sorted)

-- ---- answers

limited_answer : (limit : Option ℕ) (rows : List FoundRow) → IsAnswer rows → IsAnswer (limited limit rows)
limited_answer None rows is = is
limited_answer (Some n) rows is = record { sorted = ascend_take (λ (r : FoundRow). r.key) n rows is.sorted; each = all_take IsFoundRow n rows is.each }

pub answers_are_lawful : AnswersAreLawful
answers_are_lawful rows keys ranges f n lawful valid =
    let chosen : List (List ℕ × List Cell) = filter (λ r. is_selected keys ranges r.0) rows in
    let all : IsAnswer (found (filter_of f) chosen) = record {
      sorted = ascend_found (filter_of f) chosen (ascend_filter (λ (r : List ℕ × List Cell). r.0) (λ r. is_selected keys ranges r.0) rows lawful.sorted);
      each = rows_found f valid chosen (all_filter IsLawfulRow (λ r. is_selected keys ranges r.0) rows lawful.each);
    } in
    limited_answer (limit_of n) (found (filter_of f) chosen) all

pub answers_join : AnswersJoin
answers_join rows keys ranges f n lawful valid = chunks_join (answer rows keys ranges (filter_of f) n) (answers_are_lawful rows keys ranges f n lawful valid)
