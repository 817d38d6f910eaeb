-- Rows that lose the cells of families, one family after another.
use Rattle.std.proofs.Common.{◌≡◌, ℕ, Bool, true, false, List, [], ◌∷◌, ◌++◌, map, refl, ap, ◌∙◌, sym, cond, append-nil, append_assoc}
use Rattle.std.specs.Prelude.{filter, fold}
use Rattle.std.specs.List.{AllByRecursion}
use Rattle.std.specs.List.Sorted.{IsStrictlySortedBy}
use Rattle.std.specs.Map.{keys_of}
use Rattle.std.specs.Ordering.{nat_cmp, ordering_reverse}
use Rattle.std.specs.declared.cmp.Ordering.TheVariants.{Less, Greater}
use Rattle.std.specs.Cmp.Lexicographic.{slice_cmp}
use Rattle.std.proofs.lemmas.Cmp.{nat_list_cmp_total, tied_itself}
use Rattle.std.proofs.lemmas.List.{map-append}
use Rattle.std.proofs.lemmas.List.Elements.{filter-append}
use Rattle.std.proofs.lemmas.Map.Keys.{sorted_head, sorted_tail}
use Rattle.bt_types.specs.declared.cell.Cell.{Cell}
use Rattle.bt_types.specs.declared.mutation.Mutation.{Mutation}
use Rattle.bt_types.specs.declared.mutation.Mutation.TheVariants.{DeleteFamily}
use Rattle.bt_rules.specs.declared.family.Family.{Family}
use Rattle.bt_contents.specs.Contents.{Contents, keys_with, list_at}
use Rattle.bt_table_replies.specs.Losses.{Losses, deletions_of, has_cell, loss, loss_entry, losses, with_loss}
use Rattle.bt_table_replies.specs.Modifications.{deletions, row_events, rows_events}
use Rattle.bt_plans.specs.Replies.{event}

-- ---- the events are those of the losses

abbrev pub names_of : List Family → List (List ℕ)
names_of families = map (λ f. f.name) families

module _ (row : List Cell) where
  deletions_by : (f : Family) (fs : List Family) (b : Bool) → deletions fs row ≡ deletions_of (names_of fs) row
      → map (λ g. DeleteFamily g.name) (cond b (f ∷ filter (λ g. has_cell row g.name) fs) (filter (λ g. has_cell row g.name) fs))
      ≡ map (λ n. DeleteFamily n) (cond b (f.name ∷ filter (has_cell row) (names_of fs)) (filter (has_cell row) (names_of fs)))
  deletions_by f fs true rest = ap (λ ds. DeleteFamily f.name ∷ ds) rest
  deletions_by f fs false rest = rest

  deletions-are : (fs : List Family) → deletions fs row ≡ deletions_of (names_of fs) row
  deletions-are [] = refl
  deletions-are (f ∷ fs) = deletions_by f fs (has_cell row f.name) (deletions-are fs)

module _ (m incarnation : ℕ) where
  event_by : (key : List ℕ) (ds : List Mutation) (ls : Losses) → row_events m incarnation key ds ++ map (event m) (map (loss_entry incarnation) ls) ≡ map (event m) (map (loss_entry incarnation) (loss key ds ++ ls))
  event_by key [] ls = refl
  event_by key (d ∷ ds) ls = refl

  pub events-are : (fs : List Family) (rows : Contents) → rows_events m incarnation fs rows ≡ map (event m) (map (loss_entry incarnation) (losses (names_of fs) rows))
  events-are fs [] = refl
  events-are fs (r ∷ rows) =
      ap (λ ds. row_events m incarnation r.0 ds ++ rows_events m incarnation fs rows) (deletions-are r.1 fs)
      ∙ ap (λ es. row_events m incarnation r.0 (deletions_of (names_of fs) r.1) ++ es) (events-are fs rows)
      ∙ event_by r.0 (deletions_of (names_of fs) r.1) (losses (names_of fs) rows)

-- ---- keys

module _ (P : List ℕ → Type 0) where
  all_loss : (key : List ℕ) (ds : List Mutation) (ls : Losses) → P key → AllByRecursion P (keys_of ls) → AllByRecursion P (keys_of (loss key ds ++ ls))
  all_loss key [] ls here all = all
  all_loss key (d ∷ ds) ls here all = (here, all)

  -- what holds of the keys of rows holds of those that lose cells
  pub all_losses : (names : List (List ℕ)) (rows : Contents) → AllByRecursion P (keys_of rows) → AllByRecursion P (keys_of (losses names rows))
  all_losses names [] all = tt
  all_losses names (r ∷ rows) all = all_loss r.0 (deletions_of names r.1) (losses names rows) all.0 (all_losses names rows all.1)

  with_by : (r : List ℕ × List Cell) (rows : Contents) (b : Bool) → P r.0 → AllByRecursion P (keys_of rows) → AllByRecursion P (keys_of (cond b (r ∷ rows) rows))
  with_by r rows true here all = (here, all)
  with_by r rows false here all = all

  all_with : (name : List ℕ) (rows : Contents) → AllByRecursion P (keys_of rows) → AllByRecursion P (keys_with name rows)
  all_with name [] all = tt
  all_with name (r ∷ rows) all = with_by r (filter (λ q. has_cell q.1 name) rows) (has_cell r.1 name) all.0 (all_with name rows all.1)

abbrev pub IsBelow : List ℕ → List ℕ → Type 0
IsBelow key other = slice_cmp nat_cmp key other ≡ Less

pub past : (key other : List ℕ) → IsBelow key other → slice_cmp nat_cmp other key ≡ Greater
past key other below = nat_list_cmp_total.antisymm other key ∙ ap ordering_reverse below

-- ---- one more family

module _ (name : List ℕ) where
  abbrev deletion : List Mutation
  deletion = DeleteFamily name ∷ []

  past_loss : (l : List ℕ × List Mutation) (ls : Losses) (key : List ℕ) → slice_cmp nat_cmp key l.0 ≡ Greater → with_loss name (l ∷ ls) key ≡ l ∷ with_loss name ls key
  past_loss l ls key is = rw is refl

  same_loss : (key : List ℕ) (ds : List Mutation) (ls : Losses) → with_loss name ((key, ds) ∷ ls) key ≡ (key, ds ++ deletion) ∷ ls
  same_loss key ds ls = rw (tied_itself nat_list_cmp_total key) refl

  none_at : (key : List ℕ) (ls : Losses) → AllByRecursion (IsBelow key) (keys_of ls) → list_at (slice_cmp nat_cmp) key ls ≡ []
  none_at key [] all = refl
  none_at key (l ∷ ls) all = rw all.0 (none_at key ls all.1)

  first_loss : (key : List ℕ) (ls : Losses) → AllByRecursion (IsBelow key) (keys_of ls) → with_loss name ls key ≡ (key, deletion) ∷ ls
  first_loss key [] all = refl
  first_loss key (l ∷ ls) all = rw (all.0, none_at key ls all.1) refl

  past_all : (l : List ℕ × List Mutation) (ls : Losses) (keys : List (List ℕ)) → AllByRecursion (IsBelow l.0) keys → fold (with_loss name) (l ∷ ls) keys ≡ l ∷ fold (with_loss name) ls keys
  past_all l ls [] all = refl
  past_all l ls (key ∷ keys) all = ap (λ xs. fold (with_loss name) xs keys) (past_loss l ls key (past l.0 key all.0)) ∙ past_all l (with_loss name ls key) keys all.1

  one_by : (b : Bool) → map (λ n. DeleteFamily n) (cond b (name ∷ []) []) ≡ cond b deletion []
  one_by true = refl
  one_by false = refl

  deletions_push : (names : List (List ℕ)) (row : List Cell) → deletions_of (names ++ name ∷ []) row ≡ deletions_of names row ++ cond (has_cell row name) deletion []
  deletions_push names row =
      ap (map (λ n. DeleteFamily n)) (filter-append (has_cell row) names (name ∷ []))
      ∙ map-append (λ n. DeleteFamily n) (filter (has_cell row) names) (filter (has_cell row) (name ∷ []))
      ∙ ap (λ ds. deletions_of names row ++ ds) (one_by (has_cell row name))

  more_by : (r : List ℕ × List Cell) (rows : Contents) (ls more : Losses) (b : Bool) (ds : List Mutation) → AllByRecursion (IsBelow r.0) (keys_of ls) → AllByRecursion (IsBelow r.0) (keys_of rows)
      → fold (with_loss name) ls (keys_of rows) ≡ more → fold (with_loss name) (loss r.0 ds ++ ls) (keys_of (cond b (r ∷ rows) rows)) ≡ loss r.0 (ds ++ cond b deletion []) ++ more
  more_by r rows ls more false [] above behind rest = rest
  more_by r rows ls more false (d ∷ ds) above behind rest = past_all (r.0, d ∷ ds) ls (keys_of rows) behind ∙ ap (λ xs. (r.0, d ∷ ds) ∷ xs) rest ∙ ap (λ es. (r.0, d ∷ es) ∷ more) (sym (append-nil ds))
  more_by r rows ls more true [] above behind rest =
      ap (λ xs. fold (with_loss name) xs (keys_of rows)) (first_loss r.0 ls above) ∙ past_all (r.0, deletion) ls (keys_of rows) behind ∙ ap (λ xs. (r.0, deletion) ∷ xs) rest
  more_by r rows ls more true (d ∷ ds) above behind rest =
      ap (λ xs. fold (with_loss name) xs (keys_of rows)) (same_loss r.0 (d ∷ ds) ls) ∙ past_all (r.0, d ∷ ds ++ deletion) ls (keys_of rows) behind ∙ ap (λ xs. (r.0, d ∷ ds ++ deletion) ∷ xs) rest

  -- the rows that have a cell of one more family
  pub losses_push : (names : List (List ℕ)) (rows : Contents) → IsStrictlySortedBy (slice_cmp nat_cmp) (keys_of rows) → fold (with_loss name) (losses names rows) (keys_with name rows) ≡ losses (names ++ name ∷ []) rows
  losses_push names [] sorted = refl
  losses_push names (r ∷ rows) sorted =
      let behind = sorted_head (slice_cmp nat_cmp) r.0 (keys_of rows) sorted in
      let rest = losses_push names rows (sorted_tail (slice_cmp nat_cmp) r.0 (keys_of rows) sorted) in
      more_by r (filter (λ q. has_cell q.1 name) rows) (losses names rows) (losses (names ++ name ∷ []) rows) (has_cell r.1 name) (deletions_of names r.1) (all_losses (IsBelow r.0) names rows behind) (all_with (IsBelow r.0) name rows behind) rest
      ∙ ap (λ ds. loss r.0 ds ++ losses (names ++ name ∷ []) rows) (sym (deletions_push names r.1))

-- no families, no losses
pub losses-none : (rows : Contents) → losses [] rows ≡ []
losses-none [] = refl
losses-none (r ∷ rows) = losses-none rows

-- the names of the families that pass, with one more family
pub names_more : (p : Family → Bool) (f : Family) (rest : List Family) (names more : List (List ℕ)) (b : Bool) → p f ≡ b → more ≡ names ++ cond b (f.name ∷ []) [] → more ++ names_of rest ≡ names ++ names_of (cond (p f) (f ∷ rest) rest)
names_more p f rest names more true is made = rw (is, made) (append_assoc names (f.name ∷ []) (names_of rest))
names_more p f rest names more false is made = rw (is, made) (ap (λ ns. ns ++ names_of rest) (append-nil names))
