-- Lists that are cut into pieces.
use Rattle.std.proofs.Common.{◌≡◌, ◌≤◌, ◌+◌, ◌++◌, ℕ, zero, suc, Bool, true, false, List, [], ◌∷◌, length, map, refl, ap, ◌∙◌, sym, subst, Some, arith, get_or, set, if◌then◌else◌}
use Rattle.std.specs.Prelude.{fold, nat_lt, not}
use Rattle.std.specs.List.{AllByRecursion}
use Rattle.std.proofs.lemmas.List.{length-append, length-map, map-append}
use Rattle.std.proofs.lemmas.List.Sums.{fold_push}
use Rattle.bt_entry.specs.declared.entry.Entry.{Entry}
use Rattle.bt_entry.specs.declared.numbered.Numbered.{Numbered}
use Rattle.bt_entry.specs.declared.table_info.TableInfo.{TableInfo}
use Rattle.bt_plans.proofs.InTurn.{MayCome, are_numbered, come_in_turn, events-numbered_from, length-numbered_from, numbered_from-append, rows_after}
use Rattle.bt_plans.specs.Plans.{AreRecords}
use Rattle.bt_plans.specs.Records.{numbered_from, numbered_on}
use Rattle.bt_plans.specs.Replies.{event}
use Rattle.bt_row_replies.specs.Drops.{cut_every, is_full, with_item}
use Rattle.bt_schema.specs.Schema.{table_at}
use Rattle.bt_state.specs.State.{AreLawful, Present, events_of, numbered, presents_after}

-- ---- one more item

pub all_push : {A : Type 0} (P : A → Type 0) (xs : List A) (x : A) → AllByRecursion P xs → P x → AllByRecursion P (xs ++ x ∷ [])
all_push P [] x all here = (here, tt)
all_push P (y ∷ xs) x all here = (all.0, all_push P xs x all.1 here)

module _ {A : Type 0} (n : ℕ) where
  -- whether they are full depends on the last piece
  pub is_full-at : (pieces : List (List A)) (i : ℕ) (last : List A) → i + 1 ≡ length pieces → get_or pieces i last ≡ last → is_full n pieces ≡ not (nat_lt (length last) n)
  is_full-at [] i last at is = absurd (omega (arith, at))
  is_full-at (piece ∷ []) (suc i) last at is = absurd (omega (arith, at))
  is_full-at (piece ∷ []) zero last at is = ap (λ xs. not (nat_lt (length xs) n)) is
  is_full-at (piece ∷ next ∷ pieces) zero last at is = absurd (omega (arith, at))
  is_full-at (piece ∷ next ∷ pieces) (suc i) last at is = is_full-at (next ∷ pieces) i last (omega (arith, at)) is

  -- where there is room, there is a piece
  pub some_piece : (pieces : List (List A)) → is_full n pieces ≡ false → 1 ≤ length pieces
  some_piece [] room = absurd cc
  some_piece (piece ∷ pieces) room = omega arith

  new_by : (x : A) (piece : List A) (room : Bool) → not room ≡ true → (if room then (piece ++ x ∷ []) ∷ [] else piece ∷ (x ∷ []) ∷ []) ≡ piece ∷ (x ∷ []) ∷ []
  new_by x piece true full = absurd cc
  new_by x piece false full = refl

  -- the item makes a new piece
  pub with_item-new : (x : A) (pieces : List (List A)) → is_full n pieces ≡ true → with_item n pieces x ≡ pieces ++ (x ∷ []) ∷ []
  with_item-new x [] full = refl
  with_item-new x (piece ∷ []) full = new_by x piece (nat_lt (length piece) n) full
  with_item-new x (piece ∷ next ∷ pieces) full = ap (λ ps. piece ∷ ps) (with_item-new x (next ∷ pieces) full)

  last_by : (x : A) (piece last : List A) (room : Bool) → piece ≡ last → not room ≡ false → (if room then (piece ++ x ∷ []) ∷ [] else piece ∷ (x ∷ []) ∷ []) ≡ (last ++ x ∷ []) ∷ []
  last_by x piece last true is full = ap (λ xs. (xs ++ x ∷ []) ∷ []) is
  last_by x piece last false is full = absurd cc

  -- the item goes into the last piece
  pub with_item-last : (x : A) (pieces : List (List A)) (i : ℕ) (last : List A) → is_full n pieces ≡ false → i + 1 ≡ length pieces → get_or pieces i last ≡ last → with_item n pieces x ≡ set pieces i (last ++ x ∷ [])
  with_item-last x [] i last room at is = absurd (omega (arith, at))
  with_item-last x (piece ∷ []) (suc i) last room at is = absurd (omega (arith, at))
  with_item-last x (piece ∷ []) zero last room at is = last_by x piece last (nat_lt (length piece) n) is room
  with_item-last x (piece ∷ next ∷ pieces) zero last room at is = absurd (omega (arith, at))
  with_item-last x (piece ∷ next ∷ pieces) (suc i) last room at is = ap (λ ps. piece ∷ ps) (with_item-last x (next ∷ pieces) i last room (omega (arith, at)) is)

-- ---- pieces that are numbered on

abbrev pub total : {A : Type 0} → List (List A) → ℕ
total [] = 0
total (piece ∷ pieces) = length piece + total pieces

module _ (n m : ℕ) (e : Entry) where
  numbered_by : (first s : ℕ) (piece : List Entry) (room : Bool) → s ≡ first + length piece
      → (if room then (numbered_from first m piece ++ numbered s (event m e) ∷ []) ∷ [] else numbered_from first m piece ∷ (numbered s (event m e) ∷ []) ∷ [])
      ≡ numbered_on first m (if room then (piece ++ e ∷ []) ∷ [] else piece ∷ (e ∷ []) ∷ [])
  numbered_by first s piece true at = ap (λ ns. ns ∷ []) (ap (λ k. numbered_from first m piece ++ numbered k (event m e) ∷ []) at ∙ sym (numbered_from-append first m piece (e ∷ [])))
  numbered_by first s piece false at = ap (λ k. numbered_from first m piece ∷ (numbered k (event m e) ∷ []) ∷ []) at

  -- one more entry takes the next number
  pub with_item-numbered_on : (first s : ℕ) (pieces : List (List Entry)) → s ≡ first + total pieces → with_item n (numbered_on first m pieces) (numbered s (event m e)) ≡ numbered_on first m (with_item n pieces e)
  with_item-numbered_on first s [] at = ap (λ k. (numbered k (event m e) ∷ []) ∷ []) (omega (arith, at))
  with_item-numbered_on first s (piece ∷ []) at =
      rw (length-numbered_from first m piece) (numbered_by first s piece (nat_lt (length piece) n) (omega (arith, at)))
  with_item-numbered_on first s (piece ∷ next ∷ pieces) at =
      ap (λ ns. numbered_from first m piece ∷ ns) (with_item-numbered_on (first + length piece) s (next ∷ pieces) (omega (arith, at)))

module _ {A : Type 0} (n : ℕ) where
  total_by : (piece : List A) (x : A) (room : Bool) → total (if room then (piece ++ x ∷ []) ∷ [] else piece ∷ (x ∷ []) ∷ []) ≡ length piece + 1
  total_by piece x true = omega (arith, length-append piece (x ∷ []))
  total_by piece x false = omega arith

  total-with_item : (pieces : List (List A)) (x : A) → total (with_item n pieces x) ≡ total pieces + 1
  total-with_item [] x = refl
  total-with_item (piece ∷ []) x = total_by piece x (nat_lt (length piece) n) ∙ omega arith
  total-with_item (piece ∷ next ∷ pieces) x = omega (arith, total-with_item (next ∷ pieces) x)

  total-fold : (pieces : List (List A)) (xs : List A) → total (fold (with_item n) pieces xs) ≡ total pieces + length xs
  total-fold pieces [] = omega arith
  total-fold pieces (x ∷ xs) = omega (arith, total-fold (with_item n pieces x) xs, total-with_item pieces x)

  -- no item is lost
  pub total-cut_every : (xs : List A) → total (cut_every n xs) ≡ length xs
  total-cut_every xs = omega (arith, total-fold [] xs)

  module _ (P : A → Type 0) where
    -- a piece of some items
    abbrev pub IsPiece : List A → Type 0
    IsPiece piece = (1 ≤ length piece) × AllByRecursion P piece

    pieces_by : (piece : List A) (x : A) (room : Bool) → IsPiece piece → P x → AllByRecursion IsPiece (if room then (piece ++ x ∷ []) ∷ [] else piece ∷ (x ∷ []) ∷ [])
    pieces_by piece x true is here = ((omega (arith, length-append piece (x ∷ [])), all_push P piece x is.1 here), tt)
    pieces_by piece x false is here = (is, ((omega arith, (here, tt)), tt))

    pieces_with : (pieces : List (List A)) (x : A) → AllByRecursion IsPiece pieces → P x → AllByRecursion IsPiece (with_item n pieces x)
    pieces_with [] x all here = ((omega arith, (here, tt)), tt)
    pieces_with (piece ∷ []) x all here = pieces_by piece x (nat_lt (length piece) n) all.0 here
    pieces_with (piece ∷ next ∷ pieces) x all here = (all.0, pieces_with (next ∷ pieces) x all.1 here)

    pieces_fold : (pieces : List (List A)) (xs : List A) → AllByRecursion IsPiece pieces → AllByRecursion P xs → AllByRecursion IsPiece (fold (with_item n) pieces xs)
    pieces_fold pieces [] all each = all
    pieces_fold pieces (x ∷ xs) all each = pieces_fold (with_item n pieces x) xs (pieces_with pieces x all each.0) each.1

    -- each piece has some items, and what holds of each item still does
    pub pieces : (xs : List A) → AllByRecursion P xs → AllByRecursion IsPiece (cut_every n xs)
    pieces xs each = pieces_fold [] xs tt each

-- the entry made of one more item is put behind those of the others
pub numbered_push : {A : Type 0} (n first m s : ℕ) (f : A → Entry) (xs : List A) (x : A) (records : List (List Numbered)) → records ≡ numbered_on first m (cut_every n (map f xs)) → s ≡ first + length xs
    → with_item n records (numbered s (event m (f x))) ≡ numbered_on first m (cut_every n (map f (xs ++ x ∷ [])))
numbered_push n first m s f xs x records are at =
    ap (λ rs. with_item n rs (numbered s (event m (f x)))) are
    ∙ with_item-numbered_on n m (f x) first s (cut_every n (map f xs)) (omega (arith, at, total-cut_every n (map f xs), length-map xs f))
    ∙ ap (numbered_on first m) (sym (fold_push (with_item n) [] (map f xs) (f x)) ∙ ap (cut_every n) (sym (map-append f xs (x ∷ []))))

-- ---- what becomes of each item

module _ {A B : Type 0} (n : ℕ) (f : A → B) where
  map_by : (piece : List A) (x : A) (room : Bool) → map (map f) (if room then (piece ++ x ∷ []) ∷ [] else piece ∷ (x ∷ []) ∷ []) ≡ (if room then (map f piece ++ f x ∷ []) ∷ [] else map f piece ∷ (f x ∷ []) ∷ [])
  map_by piece x true = ap (λ p. p ∷ []) (map-append f piece (x ∷ []))
  map_by piece x false = refl

  map-with_item : (pieces : List (List A)) (x : A) → map (map f) (with_item n pieces x) ≡ with_item n (map (map f) pieces) (f x)
  map-with_item [] x = refl
  map-with_item (piece ∷ []) x = rw (length-map piece f) (map_by piece x (nat_lt (length piece) n))
  map-with_item (piece ∷ next ∷ pieces) x = ap (λ ps. map f piece ∷ ps) (map-with_item (next ∷ pieces) x)

  map-fold : (pieces : List (List A)) (xs : List A) → map (map f) (fold (with_item n) pieces xs) ≡ fold (with_item n) (map (map f) pieces) (map f xs)
  map-fold pieces [] = refl
  map-fold pieces (x ∷ xs) = map-fold (with_item n pieces x) xs ∙ ap (λ ps. fold (with_item n) ps (map f xs)) (map-with_item pieces x)

  pub map-cut_every : (xs : List A) → map (map f) (cut_every n xs) ≡ cut_every n (map f xs)
  map-cut_every xs = map-fold [] xs

-- ---- records

pub events-numbered_on : (first m : ℕ) (pieces : List (List Entry)) → map events_of (numbered_on first m pieces) ≡ map (map (event m)) pieces
events-numbered_on first m [] = refl
events-numbered_on first m (piece ∷ pieces) =
    ap (λ es. es ∷ map events_of (numbered_on (first + length piece) m pieces)) (events-numbered_from first m piece) ∙ ap (λ ps. map (event m) piece ∷ ps) (events-numbered_on (first + length piece) m pieces)

module _ (t : TableInfo) (m : ℕ) where
  -- pieces of entries of rows may come one after another
  pub come_as_records : (n : ℕ) (ps : List (List Entry)) → AllByRecursion (IsPiece {A = Entry} n (MayCome t m)) ps → (p : Present) → table_at t.incarnation p.schema ≡ Some t → p.floor ≤ m → AreRecords p (numbered_on (p.last + 1) m ps)
  come_as_records n [] all p found before = tt
  come_as_records n (piece ∷ ps) all p found before =
      let q = presents_after p (map (event m) piece) in
      let after = rows_after t m piece all.0.1 p before in
      let lasts : p.last + 1 + length piece ≡ q.last + 1 = omega (arith, after.last) in
      let there : table_at t.incarnation q.schema ≡ Some t = ap (table_at t.incarnation) after.schema ∙ found in
      let rest : AreRecords q (numbered_on (p.last + 1 + length piece) m ps) = subst (λ k. AreRecords q (numbered_on k m ps)) (sym lasts) (come_as_records n ps all.1 q there after.floor) in (
        omega (arith, length-numbered_from (p.last + 1) m piece, all.0.0),
        are_numbered (p.last + 1) m piece,
        subst (AreLawful p) (sym (events-numbered_from (p.last + 1) m piece)) (come_in_turn t m piece all.0.1 p found before),
        subst (λ es. AreRecords (presents_after p es) (numbered_on (p.last + 1 + length piece) m ps)) (sym (events-numbered_from (p.last + 1) m piece)) rest,
      )
