-- The keys that begin with some bytes are those of a range.
use Rattle.std.proofs.Common.{◌≡◌, ◌<◌, ◌+◌, ◌++◌, ℕ, Bool, true, false, ◌&&◌, ◌==◌, List, [], ◌∷◌, Option, Some, None, refl, ap, ◌∙◌, sym, arith, cond, if◌then◌else◌}
use Rattle.std.specs.Prelude.{All, filter, nat_lt}
use Rattle.std.specs.List.{AllByRecursion}
use Rattle.std.specs.Map.{keys_of}
use Rattle.std.specs.Ordering.{is_gt, is_le, nat_cmp, ordering_then}
use Rattle.std.specs.declared.cmp.Ordering.TheVariants.{Less, Equal, Greater}
use Rattle.std.specs.Cmp.Lexicographic.{slice_cmp}
use Rattle.std.proofs.lemmas.Bool.{and_parts, eq-eqb, eqb-true, le-ltb, lt-ltb, ltb-false, ltb-true, ne_eqb}
use Rattle.std.proofs.lemmas.List.Elements.{All-head, All-tail}
use Rattle.bt_contents.specs.Ranges.{is_before, is_in, rows_within}
use Rattle.bt_plans.specs.Beginnings.{begins_with}
use Rattle.bt_row_replies.specs.Drops.{IsKey}
use Rattle.bt_row_replies.specs.Prefixes.{prefix_range, successor, successor_from}

-- ---- successors, from the right

-- a byte that is not the greatest is one greater
pub successor-push : (bs : List ℕ) (b : ℕ) → b < 255 → successor (bs ++ b ∷ []) ≡ Some (bs ++ (b + 1) ∷ [])
successor-push [] b less = rw (ne_eqb b 255 (λ e. omega (arith, e))) refl
successor-push (a ∷ bs) b less = ap (successor_from a) (successor-push bs b less)

-- the greatest byte is gone
pub successor-push_greatest : (bs : List ℕ) (b : ℕ) → b ≡ 255 → successor (bs ++ b ∷ []) ≡ successor bs
successor-push_greatest [] b greatest = rw (eq-eqb b 255 greatest) refl
successor-push_greatest (a ∷ bs) b greatest = ap (successor_from a) (successor-push_greatest bs b greatest)

-- ---- keys

cmp_less : (x y : ℕ) → x < y → nat_cmp x y ≡ Less
cmp_less x y less = rw (lt-ltb x y less) refl

cmp_same : (x : ℕ) → nat_cmp x x ≡ Equal
cmp_same x = rw (le-ltb x x (omega arith), eq-eqb x x refl) refl

cmp_more : (x y : ℕ) → y < x → nat_cmp x y ≡ Greater
cmp_more x y more = rw (le-ltb x y (omega arith), ne_eqb x y (λ e. omega (arith, e))) refl

-- behind one byte that they share, the rest of the key counts
before_same : (b : ℕ) (o : Option (List ℕ)) (ks : List ℕ) → is_before (successor_from b o) (b ∷ ks) ≡ is_before o ks
before_same b (Some s) ks = ap (λ r. is_gt (ordering_then r (slice_cmp nat_cmp s ks))) (cmp_same b)
before_same b None ks = by (b == 255)
  where
    by : (last : Bool) → is_before (if last then None else Some ((b + 1) ∷ [])) (b ∷ ks) ≡ true
    by true = refl
    by false = ap (λ r. is_gt (ordering_then r (slice_cmp nat_cmp [] ks))) (cmp_more (b + 1) b (omega arith))

in_same : (b : ℕ) (bs ks : List ℕ) → is_in (prefix_range (b ∷ bs)) (b ∷ ks) ≡ is_in (prefix_range bs) ks
in_same b bs ks =
    ap (λ r. is_le (ordering_then r (slice_cmp nat_cmp bs ks)) && is_before (successor (b ∷ bs)) (b ∷ ks)) (cmp_same b)
    ∙ ap (λ x. is_le (slice_cmp nat_cmp bs ks) && x) (before_same b (successor bs) ks)

begins_same : (b : ℕ) (bs ks : List ℕ) → begins_with (b ∷ bs) (b ∷ ks) ≡ begins_with bs ks
begins_same b bs ks = ap (λ x. x && begins_with bs ks) (eq-eqb b b refl)

begins_other : (b k : ℕ) (bs ks : List ℕ) → (k ≡ b → ⊥) → begins_with (b ∷ bs) (k ∷ ks) ≡ false
begins_other b k bs ks other = ap (λ x. x && begins_with bs ks) (ne_eqb k b other)

-- a key that begins with a greater byte is past the range
past_by : (b k : ℕ) (ks : List ℕ) (near : Bool) → nat_lt (b + 1) k ≡ near → b < k → is_gt (ordering_then (nat_cmp (b + 1) k) (slice_cmp nat_cmp [] ks)) ≡ false
past_by b k ks true near less = ap (λ r. is_gt (ordering_then r (slice_cmp nat_cmp [] ks))) (cmp_less (b + 1) k (ltb-true (b + 1) k near))
past_by b k ks false near less =
    let same : k ≡ b + 1 = omega (arith, ltb-false (b + 1) k near) in
    rw same (ap (λ r. is_gt (ordering_then r (slice_cmp nat_cmp [] ks))) (cmp_same (b + 1)) ∙ nothing_past ks)
  where
    nothing_past : (ks : List ℕ) → is_gt (slice_cmp nat_cmp [] ks) ≡ false
    nothing_past [] = refl
    nothing_past (k ∷ ks) = refl

past_greater : (b k : ℕ) (o : Option (List ℕ)) (ks : List ℕ) → b < k → k < 256 → is_before (successor_from b o) (k ∷ ks) ≡ false
past_greater b k (Some s) ks less byte = ap (λ r. is_gt (ordering_then r (slice_cmp nat_cmp s ks))) (cmp_less b k less)
past_greater b k None ks less byte = rw (ne_eqb b 255 (λ e. omega (arith, e))) (past_by b k ks (nat_lt (b + 1) k) refl less)

-- a key of bytes is in the range exactly if it begins so
in_prefix : (front key : List ℕ) → All (λ b. b < 256) key → is_in (prefix_range front) key ≡ begins_with front key
in_prefix [] [] bytes = refl
in_prefix [] (k ∷ ks) bytes = refl
in_prefix (b ∷ bs) [] bytes = refl
in_prefix (b ∷ bs) (k ∷ ks) bytes = by (in_prefix bs ks (All-tail (λ b. b < 256) k ks bytes)) (nat_lt b k) (nat_lt k b) refl refl
  where
    by : is_in (prefix_range bs) ks ≡ begins_with bs ks → (less more : Bool) → nat_lt b k ≡ less → nat_lt k b ≡ more → is_in (prefix_range (b ∷ bs)) (k ∷ ks) ≡ begins_with (b ∷ bs) (k ∷ ks)
    by rest true more is_less is_more =
        let less : b < k = ltb-true b k is_less in
        ap (λ r. is_le (ordering_then r (slice_cmp nat_cmp bs ks)) && is_before (successor (b ∷ bs)) (k ∷ ks)) (cmp_less b k less)
        ∙ past_greater b k (successor bs) ks less (All-head (λ b. b < 256) k ks bytes)
        ∙ sym (begins_other b k bs ks (λ e. omega (arith, e, less)))
    by rest false true is_less is_more =
        let more : k < b = ltb-true k b is_more in
        ap (λ r. is_le (ordering_then r (slice_cmp nat_cmp bs ks)) && is_before (successor (b ∷ bs)) (k ∷ ks)) (cmp_more b k more)
        ∙ sym (begins_other b k bs ks (λ e. omega (arith, e, more)))
    by rest false false is_less is_more =
        let same : k ≡ b = omega (arith, ltb-false b k is_less, ltb-false k b is_more) in
        rw same (in_same b bs ks ∙ rest ∙ sym (begins_same b bs ks))

-- whatever begins so is in the range
in_if_begins : (front key : List ℕ) → begins_with front key ≡ true → is_in (prefix_range front) key ≡ true
in_if_begins [] [] begins = refl
in_if_begins [] (k ∷ ks) begins = refl
in_if_begins (b ∷ bs) [] begins = absurd cc
in_if_begins (b ∷ bs) (k ∷ ks) begins =
    let both = and_parts (k == b) (begins_with bs ks) begins in
    rw (eqb-true k b both.0) (in_same b bs ks ∙ in_if_begins bs ks both.1)

false_if : (x y : Bool) → (x ≡ true → y ≡ true) → y ≡ false → x ≡ false
false_if true y so no_y = absurd (let is = so refl in cc)
false_if false y so no_y = refl

module _ {X : Type 0} (front : List ℕ) where
  keys_by : (r : List ℕ × X) (kept : List (List ℕ × X)) (others : List (List ℕ)) (in_range : Bool) → is_in (prefix_range front) r.0 ≡ in_range
      → AllByRecursion IsKey (keys_of (cond in_range (r ∷ kept) kept)) → (AllByRecursion IsKey (keys_of kept) → keys_of kept ≡ others)
      → keys_of (cond in_range (r ∷ kept) kept) ≡ cond (begins_with front r.0) (r.0 ∷ others) others
  keys_by r kept others true is all rest =
      let begins : begins_with front r.0 ≡ true = sym (in_prefix front r.0 all.0.bytes) ∙ is in
      rw begins (ap (λ ks. r.0 ∷ ks) (rest all.1))
  keys_by r kept others false is all rest =
      let begins : begins_with front r.0 ≡ false = false_if (begins_with front r.0) (is_in (prefix_range front) r.0) (in_if_begins front r.0) is in
      rw begins (rest all)

  -- the keys in the range are those that begin with these bytes
  pub keys_in_prefix : (rows : List (List ℕ × X)) → AllByRecursion IsKey (keys_of (rows_within (prefix_range front) rows)) → keys_of (rows_within (prefix_range front) rows) ≡ filter (begins_with front) (keys_of rows)
  keys_in_prefix [] all = refl
  keys_in_prefix (r ∷ rows) all = keys_by r (rows_within (prefix_range front) rows) (filter (begins_with front) (keys_of rows)) (is_in (prefix_range front) r.0) refl all (keys_in_prefix rows)
