-- Rows once they have lost the cells of families.
use Rattle.std.proofs.Common.{◌≡◌, ℕ, Bool, true, false, List, [], ◌∷◌, ◌++◌, map, refl, ap, ◌∙◌, cond, ⊎_elim}
use Rattle.std.specs.Prelude.{not, filter, fold, bytes_eq}
use Rattle.std.specs.List.{AllByRecursion, list_any}
use Rattle.std.specs.List.Sorted.{IsStrictlySortedBy}
use Rattle.std.specs.Map.{keys_of}
use Rattle.std.specs.Ordering.{is_eq, nat_cmp}
use Rattle.std.specs.declared.cmp.Ordering.TheVariants.{Greater}
use Rattle.std.specs.Cmp.Lexicographic.{slice_cmp}
use Rattle.std.proofs.lemmas.Bool.{or_cases, or_from, or_left, or_parts, or_right}
use Rattle.std.proofs.lemmas.Cmp.{nat_cmp_total, nat_list_cmp_total, tied_itself}
use Rattle.std.proofs.lemmas.Map.Keys.{sorted_head, sorted_tail}
use Rattle.std.proofs.lemmas.Map.Lookups.{exact_unsigned}
use Rattle.bt_types.specs.declared.cell.Cell.{Cell}
use Rattle.bt_types.specs.declared.mutation.Mutation.{Mutation}
use Rattle.bt_types.specs.declared.mutation.Mutation.TheVariants.{DeleteFamily}
use Rattle.bt_types.specs.Mutations.{applied, mutated}
use Rattle.bt_contents.proofs.Lists.{at_with, sorted_with}
use Rattle.bt_contents.specs.Contents.{Contents, is_used, put_row, row_at, with_row}
use Rattle.bt_all_contents.specs.AllContents.{rows_of}
use Rattle.bt_table_replies.proofs.Altering.{same_name}
use Rattle.bt_table_replies.proofs.Losing.{IsBelow, all_losses, past}
use Rattle.bt_table_replies.specs.Losses.{Losses, deletions_of, has_cell, loss, loss_entry, losses}
use Rattle.bt_plans.specs.Replies.{event}
use Rattle.bt_state.specs.State.{AreOrdered, Present, present_after, presents_after}

-- ---- one row

abbrev pub is_one_of : List ℕ → List (List ℕ) → Bool
is_one_of name names = list_any (λ n. bytes_eq n name) names

abbrev deletes : List (List ℕ) → List Mutation
deletes names = map (λ n. DeleteFamily n) names

module _ (name : List ℕ) where
  kept_by : (p : Cell → Bool) (c : Cell) (cs : List Cell) (b : Bool) → bytes_eq c.family name ≡ false → has_cell (filter p cs) name ≡ false → has_cell (cond b (c ∷ filter p cs) (filter p cs)) name ≡ false
  kept_by p c cs true here rest = or_from (bytes_eq c.family name) (has_cell (filter p cs) name) here rest
  kept_by p c cs false here rest = rest

  -- what a row lacks it lacks without some of its cells
  kept_out : (p : Cell → Bool) (row : List Cell) → has_cell row name ≡ false → has_cell (filter p row) name ≡ false
  kept_out p [] none = refl
  kept_out p (c ∷ cs) none =
      let both = or_parts (bytes_eq c.family name) (has_cell cs name) none in
      kept_by p c cs (p c) both.0 (kept_out p cs both.1)

  gone_by : (c : Cell) (cs : List Cell) (b : Bool) → bytes_eq c.family name ≡ b → has_cell (filter (λ d. not (bytes_eq d.family name)) cs) name ≡ false
      → has_cell (cond (not b) (c ∷ filter (λ d. not (bytes_eq d.family name)) cs) (filter (λ d. not (bytes_eq d.family name)) cs)) name ≡ false
  gone_by c cs true is rest = rest
  gone_by c cs false is rest = or_from (bytes_eq c.family name) (has_cell (filter (λ d. not (bytes_eq d.family name)) cs) name) is rest

  gone : (row : List Cell) → has_cell (mutated (DeleteFamily name) row) name ≡ false
  gone [] = refl
  gone (c ∷ cs) = gone_by c cs (bytes_eq c.family name) refl (gone cs)

  stays_out : (names : List (List ℕ)) (row : List Cell) → has_cell row name ≡ false → has_cell (applied (deletes names) row) name ≡ false
  stays_out [] row none = none
  stays_out (n ∷ ns) row none = stays_out ns (mutated (DeleteFamily n) row) (kept_out (λ c. not (bytes_eq c.family n)) row none)

  gone_among : (names : List (List ℕ)) (row : List Cell) → is_one_of name names ≡ true → has_cell (applied (deletes names) row) name ≡ false
  gone_among [] row one = absurd cc
  gone_among (n ∷ ns) row one = ⊎_elim (λ same. stays_out ns (mutated (DeleteFamily n) row) (rw (same_name n name same) (gone row))) (λ later. gone_among ns (mutated (DeleteFamily n) row) later) (or_cases (bytes_eq n name) (is_one_of name ns) one)

  one_by : (p : List ℕ → Bool) (n : List ℕ) (ns : List (List ℕ)) (b : Bool) → p n ≡ b → p name ≡ true → is_one_of name (n ∷ ns) ≡ true → (is_one_of name ns ≡ true → is_one_of name (filter p ns) ≡ true) → is_one_of name (cond b (n ∷ filter p ns) (filter p ns)) ≡ true
  one_by p n ns true is passes one rest = ⊎_elim (λ same. or_left (bytes_eq n name) (is_one_of name (filter p ns)) same) (λ later. or_right (bytes_eq n name) (is_one_of name (filter p ns)) (rest later)) (or_cases (bytes_eq n name) (is_one_of name ns) one)
  one_by p n ns false is passes one rest = ⊎_elim (λ same. absurd (not_both same)) (λ later. rest later) (or_cases (bytes_eq n name) (is_one_of name ns) one)
    where
      not_both : bytes_eq n name ≡ true → ⊥
      not_both same = let fails : p name ≡ false = rw (← same_name n name same) is in cc

  one_left : (p : List ℕ → Bool) (names : List (List ℕ)) → p name ≡ true → is_one_of name names ≡ true → is_one_of name (filter p names) ≡ true
  one_left p [] passes one = absurd cc
  one_left p (n ∷ ns) passes one = one_by p n ns (p n) refl passes one (one_left p ns passes)

  lacks_by : (names : List (List ℕ)) (row : List Cell) (b : Bool) → has_cell row name ≡ b → is_one_of name names ≡ true → has_cell (applied (deletions_of names row) row) name ≡ false
  lacks_by names row true has one = gone_among (filter (has_cell row) names) row (one_left (has_cell row) names has one)
  lacks_by names row false none one = stays_out (filter (has_cell row) names) row none

  -- a row that has lost families has no cell of one
  lacks : (names : List (List ℕ)) (row : List Cell) → is_one_of name names ≡ true → has_cell (applied (deletions_of names row) row) name ≡ false
  lacks names row one = lacks_by names row (has_cell row name) refl one

-- ---- all rows

abbrev pub put_loss : Contents → List ℕ × List Mutation → Contents
put_loss rows l = put_row l.0 l.1 rows

abbrev kept : List ℕ → List Cell → Contents
kept key [] = []
kept key (c ∷ cs) = (key, c ∷ cs) ∷ []

past_with : (key : List ℕ) (cs : List Cell) (r : List ℕ × List Cell) (rows : Contents) → slice_cmp nat_cmp key r.0 ≡ Greater → with_row key cs (r ∷ rows) ≡ r ∷ with_row key cs rows
past_with key [] r rows is = rw is refl
past_with key (c ∷ cs) r rows is = rw is refl

past_at : (key : List ℕ) (r : List ℕ × List Cell) (rows : Contents) → slice_cmp nat_cmp key r.0 ≡ Greater → row_at key (r ∷ rows) ≡ row_at key rows
past_at key r rows is = rw is refl

past_put : (key : List ℕ) (ms : List Mutation) (r : List ℕ × List Cell) (rows : Contents) → slice_cmp nat_cmp key r.0 ≡ Greater → put_row key ms (r ∷ rows) ≡ r ∷ put_row key ms rows
past_put key ms r rows is = ap (λ cs. with_row key (applied ms cs) (r ∷ rows)) (past_at key r rows is) ∙ past_with key (applied ms (row_at key rows)) r rows is

with_here : (key : List ℕ) (old cs : List Cell) (rows : Contents) → with_row key cs ((key, old) ∷ rows) ≡ kept key cs ++ rows
with_here key old [] rows = rw (tied_itself nat_list_cmp_total key) refl
with_here key old (c ∷ cs) rows = rw (tied_itself nat_list_cmp_total key) refl

at_here : (key : List ℕ) (cs : List Cell) (rows : Contents) → row_at key ((key, cs) ∷ rows) ≡ cs
at_here key cs rows = rw (tied_itself nat_list_cmp_total key) refl

put_here : (key : List ℕ) (ms : List Mutation) (cs : List Cell) (rows : Contents) → put_row key ms ((key, cs) ∷ rows) ≡ kept key (applied ms cs) ++ rows
put_here key ms cs rows = ap (λ ds. with_row key (applied ms ds) ((key, cs) ∷ rows)) (at_here key cs rows) ∙ with_here key cs (applied ms cs) rows

past_puts : (r : List ℕ × List Cell) (rows : Contents) (ls : Losses) → AllByRecursion (IsBelow r.0) (keys_of ls) → fold put_loss (r ∷ rows) ls ≡ r ∷ fold put_loss rows ls
past_puts r rows [] all = refl
past_puts r rows (l ∷ ls) all = ap (λ rs. fold put_loss rs ls) (past_put l.0 l.1 r rows (past r.0 l.0 all.0)) ∙ past_puts r (put_loss rows l) ls all.1

module _ (name : List ℕ) where
  unused_kept : (key : List ℕ) (cs : List Cell) (rows : Contents) (ls : Losses) → AllByRecursion (IsBelow key) (keys_of ls) → has_cell cs name ≡ false → is_used name (fold put_loss rows ls) ≡ false → is_used name (fold put_loss (kept key cs ++ rows) ls) ≡ false
  unused_kept key [] rows ls behind none rest = rest
  unused_kept key (c ∷ cs) rows ls behind none rest = rw (past_puts (key, c ∷ cs) rows ls behind) (or_from (has_cell (c ∷ cs) name) (is_used name (fold put_loss rows ls)) none rest)

  unused_by : (r : List ℕ × List Cell) (rows : Contents) (ls : Losses) (ds : List Mutation) → AllByRecursion (IsBelow r.0) (keys_of ls) → has_cell (applied ds r.1) name ≡ false → is_used name (fold put_loss rows ls) ≡ false
      → is_used name (fold put_loss (r ∷ rows) (loss r.0 ds ++ ls)) ≡ false
  unused_by r rows ls [] behind none rest = rw (past_puts r rows ls behind) (or_from (has_cell r.1 name) (is_used name (fold put_loss rows ls)) none rest)
  unused_by r rows ls (d ∷ ds) behind none rest = rw (put_here r.0 (d ∷ ds) r.1 rows) (unused_kept r.0 (applied (d ∷ ds) r.1) rows ls behind none rest)

  -- once rows have lost families, none has a cell of one
  pub unused : (names : List (List ℕ)) (rows : Contents) → is_one_of name names ≡ true → IsStrictlySortedBy (slice_cmp nat_cmp) (keys_of rows) → is_used name (fold put_loss rows (losses names rows)) ≡ false
  unused names [] one sorted = refl
  unused names (r ∷ rows) one sorted =
      unused_by r rows (losses names rows) (deletions_of names r.1) (all_losses (IsBelow r.0) names rows (sorted_head (slice_cmp nat_cmp) r.0 (keys_of rows) sorted)) (lacks name names r.1 one)
      (unused names rows one (sorted_tail (slice_cmp nat_cmp) r.0 (keys_of rows) sorted))

-- ---- all tables

module _ (m incarnation : ℕ) where
  -- the rows after the entries of losses
  pub rows_left : (ls : Losses) (p : Present) → AreOrdered p.contents → rows_of incarnation (presents_after p (map (event m) (map (loss_entry incarnation) ls))).contents ≡ fold put_loss (rows_of incarnation p.contents) ls
  rows_left [] p ordered = refl
  rows_left (l ∷ ls) p ordered =
      let rows = put_loss (rows_of incarnation p.contents) l in
      let here : rows_of incarnation (present_after p (event m (loss_entry incarnation l))).contents ≡ rows =
      at_with nat_cmp_total exact_unsigned incarnation incarnation rows p.contents ordered ∙ ap (λ r. cond (is_eq r) rows (rows_of incarnation p.contents)) (tied_itself nat_cmp_total incarnation) in
      rows_left ls (present_after p (event m (loss_entry incarnation l))) (sorted_with nat_cmp_total incarnation rows p.contents ordered) ∙ ap (λ rs. fold put_loss rs ls) here
