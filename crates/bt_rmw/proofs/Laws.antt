-- What the new cells rest on, of which families they are, and how many.
use Rattle.std.proofs.Common.{◌≡◌, ◌≤◌, ℕ, suc, ◌+◌, Bool, true, false, List, [], ◌∷◌, ◌++◌, Option, Some, None, Result, Ok, Err, cond, length, refl, sym, ap, ◌∙◌, arith}
use Rattle.std.specs.Prelude.{◌||◌}
use Rattle.std.specs.List.{AllByRecursion, find, list_all}
use Rattle.std.specs.Option.{option_or, option_to_list}
use Rattle.std.specs.BTreeMap.{is_at}
use Rattle.std.specs.Ordering.{is_eq, match_ordering}
use Rattle.std.specs.declared.cmp.Ordering.{Ordering}
use Rattle.std.specs.declared.cmp.Ordering.TheVariants.{Less, Equal, Greater}
use Rattle.std.proofs.lemmas.Bool.{and_parts, and_from}
use Rattle.std.proofs.lemmas.Cmp.{tied_itself}
use Rattle.bt_types.specs.declared.cell.Cell.{Cell}
use Rattle.bt_types.specs.Mutations.{is_in_column}
use Rattle.bt_rmw.specs.declared.column.Column.{Column}
use Rattle.bt_rmw.specs.declared.refusal.ModifyRefusal.{ModifyRefusal}
use Rattle.bt_rmw.specs.declared.rule.ModifyRule.{ModifyRule}
use Rattle.bt_rmw.specs.Columns.{column_order, column_total, has_column, latest_of_each}
use Rattle.bt_rmw.specs.Modified.{cell_after, cell_before, cell_of, column_cmp, go_on, latest_in, made_by, modified, new_cell, put_cell}
use Rattle.bt_rmw.specs.Rules.{column_of}
use Rattle.bt_rmw.proofs.Keys.{column_in, exact, in_column}

-- ---- the latest cells are all that counts of a row

-- a row's latest cell of a rule's column is that of the other
abbrev pub IsAlike : List Cell → List Cell → ModifyRule → Type 0
IsAlike a b rule = latest_in rule.family rule.qualifier a ≡ latest_in rule.family rule.qualifier b

module _ (moment : ℕ) (a b : List Cell) where
  same_made : (index : ℕ) (rules : List ModifyRule) (made : List Cell) → AllByRecursion (IsAlike a b) rules → made_by moment a index rules made ≡ made_by moment b index rules made
  same_made index [] made alike = refl
  same_made index (rule ∷ rules) made alike =
      ap (λ o. go_on (cell_after moment index rule (option_or (latest_in rule.family rule.qualifier made) o)) (λ c. made_by moment a (index + 1) rules (put_cell c made))) alike.0
      ∙ by (cell_after moment index rule (cell_before rule made b)) (λ more. same_made (index + 1) rules more alike.1)
    where
      by : (r : Result Cell ModifyRefusal) → ((more : List Cell) → made_by moment a (index + 1) rules more ≡ made_by moment b (index + 1) rules more)
          → go_on r (λ c. made_by moment a (index + 1) rules (put_cell c made)) ≡ go_on r (λ c. made_by moment b (index + 1) rules (put_cell c made))
      by (Ok c) rest = rest (put_cell c made)
      by (Err why) rest = refl

  -- rows with the same latest cells of the rules' columns become the same
  pub same_modified : (rules : List ModifyRule) → AllByRecursion (IsAlike a b) rules → modified moment rules a ≡ modified moment rules b
  same_modified rules alike = same_made 0 rules [] alike

-- ---- one cell of each column stands for the row

passes : (test : Cell → Bool) (cs : List Cell) (c : Cell) → find test cs ≡ Some c → test c ≡ true
passes test [] c e = cc e
passes test (d ∷ cs) c e = by (test d) refl e (passes test cs c)
  where
    by : (t : Bool) → test d ≡ t → cond t (Some d) (find test cs) ≡ Some c → (find test cs ≡ Some c → test c ≡ true) → test c ≡ true
    by true is e rest = let same : d ≡ c = cc in ap test (sym same) ∙ is
    by false is e rest = rest e

equal_of : (r : Ordering) → is_eq r ≡ true → r ≡ Equal
equal_of Less e = cc e
equal_of Equal e = refl
equal_of Greater e = cc e

none_either : (t : Bool) (o : Option Cell) → o ≡ None → cond t o None ≡ None
none_either true o none = none
none_either false o none = refl

module _ (row : List Cell) (k : Column) where
  abbrev own : List Cell → Option Cell
  own cs = latest_in k.family k.qualifier cs

  -- a cell of two columns shows that they are one
  one_column : (j : Column) (c : Cell) → is_in_column j.family j.qualifier 0 0 c ≡ true → is_in_column k.family k.qualifier 0 0 c ≡ true → k ≡ j
  one_column j c of_j of_k = sym (exact (column_in c) k (equal_of _ (in_column k c ∙ of_k))) ∙ exact (column_in c) j (equal_of _ (in_column j c ∙ of_j))

  of_same : (o : Option Cell) (rest : List Cell) (has : Bool) → own row ≡ o → own rest ≡ cond has (own row) None → own (option_to_list o ++ rest) ≡ o
  of_same None rest has is more = more ∙ none_either has (own row) is
  of_same (Some c) rest has is more = rw (passes (is_in_column k.family k.qualifier 0 0) row c is) refl

  of_other : (j : Column) (o : Option Cell) (rest : List Cell) → latest_in j.family j.qualifier row ≡ o → is_at (column_order k) j ≡ false → own (option_to_list o ++ rest) ≡ own rest
  of_other j None rest is apart = refl
  of_other j (Some c) rest is apart = by (is_in_column k.family k.qualifier 0 0 c) refl
    where
      by : (t : Bool) → is_in_column k.family k.qualifier 0 0 c ≡ t → cond t (Some c) (own rest) ≡ own rest
      by true of_k =
          let same : k ≡ j = one_column j c (passes (is_in_column j.family j.qualifier 0 0) row c is) of_k in
          let tie : is_at (column_order k) j ≡ true = ap (is_at (column_order k)) (sym same) ∙ ap is_eq (tied_itself column_total k) in
          cc (tie, apart)
      by false of_k = refl

  found : (columns : List Column) → own (latest_of_each row columns) ≡ cond (has_column columns k) (own row) None
  found [] = refl
  found (j ∷ columns) = by (is_at (column_order k) j) refl (found columns)
    where
      by : (t : Bool) → is_at (column_order k) j ≡ t → own (latest_of_each row columns) ≡ cond (has_column columns k) (own row) None
          → own (option_to_list (latest_in j.family j.qualifier row) ++ latest_of_each row columns) ≡ cond (t || has_column columns k) (own row) None
      by true is rest =
          let same : k ≡ j = exact k j (equal_of _ is) in
          ap (λ (q : Column). own (option_to_list (latest_in q.family q.qualifier row) ++ latest_of_each row columns)) (sym same) ∙ of_same (own row) (latest_of_each row columns) (has_column columns k) refl rest
      by false is rest = of_other j (latest_in j.family j.qualifier row) (latest_of_each row columns) refl is ∙ rest

-- the latest cells of columns, with those of the rules among them, stand for the row
pub all_found : (row : List Cell) (columns : List Column) (rules : List ModifyRule) → AllByRecursion (λ rule. has_column columns (column_of rule) ≡ true) rules → AllByRecursion (IsAlike (latest_of_each row columns) row) rules
all_found row columns [] among = tt
all_found row columns (rule ∷ rules) among = (found row (column_of rule) columns ∙ rw among.0 refl, all_found row columns rules among.1)

-- ---- the new cells

module _ (moment : ℕ) (cells : List Cell) where
  named : (rule : ModifyRule) (before : Option Cell) (r : Result (List ℕ) ModifyRefusal) (c : Cell) → cell_of moment rule before r ≡ Ok c → c.family ≡ rule.family
  named rule before (Ok value) c e = let same : new_cell moment rule before value ≡ c = cc in ap (λ (d : Cell). d.family) (sym same)
  named rule before (Err why) c e = cc e

  -- the first rule makes a cell of its family
  step : (index : ℕ) (rule : ModifyRule) (rules : List ModifyRule) (old made : List Cell) → made_by moment cells index (rule ∷ rules) old ≡ Ok made
      → (c : Cell) × (c.family ≡ rule.family) × (made_by moment cells (index + 1) rules (put_cell c old) ≡ Ok made)
  step index rule rules old made e = by (cell_after moment index rule before) refl e
    where
      before : Option Cell
      before = cell_before rule old cells

      by : (r : Result Cell ModifyRefusal) → cell_after moment index rule before ≡ r → go_on r (λ c. made_by moment cells (index + 1) rules (put_cell c old)) ≡ Ok made
          → (c : Cell) × (c.family ≡ rule.family) × (made_by moment cells (index + 1) rules (put_cell c old) ≡ Ok made)
      by (Ok c) is e = (c, named rule before _ c is, e)
      by (Err why) is e = cc e

  module _ (test : List ℕ → Bool) where
    put_passes : (c : Cell) (ds : List Cell) → test c.family ≡ true → list_all (λ d. test d.family) ds ≡ true → list_all (λ d. test d.family) (put_cell c ds) ≡ true
    put_passes c [] one all = rw one refl
    put_passes c (d ∷ ds) one all = by (column_cmp c d) (put_passes c ds one parts.1)
      where
        parts : (test d.family ≡ true) × (list_all (λ d. test d.family) ds ≡ true)
        parts = and_parts (test d.family) (list_all (λ d. test d.family) ds) all

        by : (r : Ordering) → list_all (λ d. test d.family) (put_cell c ds) ≡ true → list_all (λ d. test d.family) (match_ordering r (c ∷ d ∷ ds) (c ∷ ds) (d ∷ put_cell c ds)) ≡ true
        by Less rest = and_from _ _ one all
        by Equal rest = and_from _ _ one parts.1
        by Greater rest = and_from _ _ parts.0 rest

    made_passes : (index : ℕ) (rules : List ModifyRule) (old made : List Cell) → AllByRecursion (λ rule. test rule.family ≡ true) rules → list_all (λ d. test d.family) old ≡ true
        → made_by moment cells index rules old ≡ Ok made → list_all (λ d. test d.family) made ≡ true
    made_passes index [] old made each all e = let same : old ≡ made = cc in ap (list_all (λ d. test d.family)) (sym same) ∙ all
    made_passes index (rule ∷ rules) old made each all e =
        let s = step index rule rules old made e in
        made_passes (index + 1) rules (put_cell s.0 old) made each.1 (put_passes s.0 old (ap test s.1 ∙ each.0) all) s.2

    -- what all families of the rules pass, those of the new cells pass
    pub families_pass : (rules : List ModifyRule) (made : List Cell) → AllByRecursion (λ rule. test rule.family ≡ true) rules → modified moment rules cells ≡ Ok made → list_all (λ d. test d.family) made ≡ true
    families_pass rules made each e = made_passes 0 rules [] made each refl e

  put_len : (c : Cell) (ds : List Cell) → (1 ≤ length (put_cell c ds)) × (length ds ≤ length (put_cell c ds)) × (length (put_cell c ds) ≤ suc (length ds))
  put_len c [] = (omega arith, omega arith, omega arith)
  put_len c (d ∷ ds) = by (column_cmp c d) (put_len c ds)
    where
      by : (r : Ordering) → (1 ≤ length (put_cell c ds)) × (length ds ≤ length (put_cell c ds)) × (length (put_cell c ds) ≤ suc (length ds))
          → (1 ≤ length (match_ordering r (c ∷ d ∷ ds) (c ∷ ds) (d ∷ put_cell c ds))) × (length (d ∷ ds) ≤ length (match_ordering r (c ∷ d ∷ ds) (c ∷ ds) (d ∷ put_cell c ds))) × (length (match_ordering r (c ∷ d ∷ ds) (c ∷ ds) (d ∷ put_cell c ds)) ≤ suc (length (d ∷ ds)))
      by Less rest = (omega arith, omega arith, omega arith)
      by Equal rest = (omega arith, omega arith, omega arith)
      by Greater rest = (omega arith, omega (arith, rest.1), omega (arith, rest.2))

  made_len : (index : ℕ) (rules : List ModifyRule) (old made : List Cell) → made_by moment cells index rules old ≡ Ok made → (length old ≤ length made) × (length made ≤ length old + length rules)
  made_len index [] old made e = let same : old ≡ made = cc in rw same (omega arith, omega arith)
  made_len index (rule ∷ rules) old made e =
      let s = step index rule rules old made e in
      let put = put_len s.0 old in
      let rest = made_len (index + 1) rules (put_cell s.0 old) made s.2 in
      (omega (arith, put.1, rest.0), omega (arith, put.2, rest.1))

  -- there is a new cell, and no more of them than rules
  pub count : (rules : List ModifyRule) (made : List Cell) → 1 ≤ length rules → modified moment rules cells ≡ Ok made → (1 ≤ length made) × (length made ≤ length rules)
  count [] made some e = absurd (omega (arith, some))
  count (rule ∷ rules) made some e =
      let s = step 0 rule rules [] made e in
      let rest = made_len 1 rules (put_cell s.0 []) made s.2 in
      (omega (arith, rest.0), omega (arith, rest.1))
