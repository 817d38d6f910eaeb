-- The steps of the disk model are steps of the trait's clauses.
use Rattle.std.proofs.Common.{◌≡◌, inl, inr, ⊎_elim, ◌<◌, ◌≤◌, ℕ, ◌+◌, ◌-◌, max, List, [], ◌∷◌, ◌++◌, length, take, drop, get_or, replicate, Bool, false, refl, sym, ◌∙◌, ap, arith, append_assoc, length-append, length-drop}
use Rattle.std.proofs.lemmas.Bool.{cases_lt}
use Rattle.std.proofs.lemmas.List.{length-take-le, length-replicate, get_or-take, get_or-drop, get_or_append_left, get_or-append_right, take_at, drop_all, drop_at, ext_get_or}
use Rattle.bt_base.specs.Counts.{most}
use Rattle.bt_outside.specs.Disk.{Torn, TornCut}
use Rattle.bt_outside.specs.Model.{State, Touched, IsImage, IsBounded, after_write, after_cut, after_sync}

-- so many stable bytes from a place on, and zeros behind them
abbrev filler : List ℕ → ℕ → ℕ → List ℕ
filler stable at n = take n (drop at stable ++ replicate n 0)

length-filler : (stable : List ℕ) (at n : ℕ) → length (filler stable at n) ≡ n
length-filler stable at n = length-take-le n (drop at stable ++ replicate n 0) (omega (arith, length-append (drop at stable) (replicate n 0), length-replicate {A = ℕ} n 0))

filler_read : (stable : List ℕ) (at n j : ℕ) → j < n → at + j < length stable → get_or (filler stable at n) j 0 ≡ get_or stable (at + j) 0
filler_read stable at n j below within =
    get_or-take n (drop at stable ++ replicate n 0) j 0 below
    ∙ get_or_append_left (drop at stable) (replicate n 0) 0 j (omega (arith, length-drop at stable, within)) ∙ get_or-drop at stable j 0

untouched_more : (ranges : List (ℕ × ℕ)) (a b i : ℕ) → (Touched ranges i → ⊥) → ((a ≤ i) × (i < b) → ⊥) → Touched (ranges ++ (a, b) ∷ []) i → ⊥
untouched_more [] a b i clear out (inl here) = out here
untouched_more [] a b i clear out (inr none) = absurd none
untouched_more (range ∷ ranges) a b i clear out (inl here) = clear (inl here)
untouched_more (range ∷ ranges) a b i clear out (inr there) = untouched_more ranges a b i (λ t. clear (inr t)) out there

-- the front of these bytes and then stable ones
module _ (state : State) (c : List ℕ) (at m : ℕ) (within : at ≤ length c) where
  abbrev fronted : List ℕ
  fronted = take at c ++ filler state.stable at m

  front_size : length (take at c) ≡ at
  front_size = length-take-le at c within

  length-fronted : length fronted ≡ at + m
  length-fronted = omega (arith, length-append (take at c) (filler state.stable at m), front_size, length-filler state.stable at m)

  front_read : (i : ℕ) → i < at → get_or fronted i 0 ≡ get_or c i 0
  front_read i lt = get_or_append_left (take at c) (filler state.stable at m) 0 i (omega (arith, lt, front_size)) ∙ get_or-take at c i 0 lt

  stable_read : (i : ℕ) → at ≤ i → i < at + m → i < length state.stable → get_or fronted i 0 ≡ get_or state.stable i 0
  stable_read i ge lt inside =
      let j = i - at in
      let below : j < m = omega (arith, lt, ge) in
      let same : at + j ≡ i = omega (arith, ge) in
      get_or-append_right (take at c) (filler state.stable at m) at i 0 front_size ge
      ∙ filler_read state.stable at m j below (omega (arith, same, inside))
      ∙ ap (λ (k : ℕ). get_or state.stable k 0) same

  take_fronted : take at fronted ≡ take at c
  take_fronted = take_at (take at c) (filler state.stable at m) at front_size

-- an image after a write comes from one before it
module _ (state : State) (at : ℕ) (bytes : List ℕ) (failed : Bool) (c : List ℕ) (bounded : IsBounded state) (starts : at ≤ length state.bytes) (image : IsImage (after_write at bytes failed state) c) where
  n : ℕ
  n = length bytes

  abbrev Before : Type 0
  Before = (d : List ℕ) × IsImage state d × Torn at (length bytes) d c

  outside : (i : ℕ) → i < length c → i < length state.stable → (Touched state.touched i → ⊥) → ((at ≤ i) × (i < at + length bytes) → ⊥) → get_or c i 0 ≡ get_or state.stable i 0
  outside i lt inside clear out = image.stays i lt inside (untouched_more state.touched at (at + length bytes) i clear out)

  short : length c ≤ at → Before
  short le = (
    c,
    record {
      no_shorter = image.no_shorter;
      no_longer = omega (arith, le, starts, bounded.no_longer);
      stays = λ i lt inside clear. outside i lt inside clear (λ r. absurd (omega (arith, r.0, lt, le)));
    },
    record { before = refl; after = refl; no_shorter = omega arith; no_longer = omega arith },
  )

  -- up to the end of what is left of the range
  ended : (m : ℕ) → at ≤ length c → at + m ≤ length c → length c ≤ at + length bytes → m ≤ length bytes → at + m ≤ state.greatest → state.least ≤ at + m → length c ≤ max (at + m) (at + length bytes) → Before
  ended m within fits over some high low longer =
      let d = fronted state c at m within in
      let size = length-fronted state c at m within in (
        d,
        record {
          no_shorter = omega (arith, size, low);
          no_longer = omega (arith, size, high);
          stays = λ i lt inside clear. ⊎_elim
              (λ below. front_read state c at m within i below ∙ outside i (omega (arith, below, within)) inside clear (λ r. absurd (omega (arith, r.0, below))))
              (λ above. stable_read state c at m within i above (omega (arith, lt, size)) inside)
              (cases_lt i at);
        },
        record {
          before = sym (take_fronted state c at m within);
          after = drop_all (at + length bytes) c over ∙ sym (drop_all (at + length bytes) d (omega (arith, size, some)));
          no_shorter = omega (arith, size, fits);
          no_longer = omega (arith, size, longer);
        },
      )

  -- the range is whole
  whole : at + length bytes ≤ length c → length c ≤ state.greatest → Before
  whole fits high =
      let within : at ≤ length c = omega (arith, fits) in
      let part = fronted state c at (length bytes) within in
      let rest = drop (at + length bytes) c in
      let d = part ++ rest in
      let size = length-fronted state c at (length bytes) within in
      let all : length d ≡ length c = omega (arith, length-append part rest, size, length-drop (at + length bytes) c, fits) in (
        d,
        record {
          no_shorter = omega (arith, all, image.no_shorter);
          no_longer = omega (arith, all, high);
          stays = λ i lt inside clear. ⊎_elim
              (λ below. get_or_append_left part rest 0 i (omega (arith, size, below)) ∙ front_read state c at (length bytes) within i below
              ∙ outside i (omega (arith, below, within)) inside clear (λ r. absurd (omega (arith, r.0, below))))
              (λ above. ⊎_elim
              (λ in_range. get_or_append_left part rest 0 i (omega (arith, size, in_range)) ∙ stable_read state c at (length bytes) within i above in_range inside)
              (λ behind. get_or-append_right part rest (at + length bytes) i 0 size behind
              ∙ get_or-drop (at + length bytes) c (i - (at + length bytes)) 0
              ∙ ap (λ (k : ℕ). get_or c k 0) (omega (arith, behind))
              ∙ outside i (omega (arith, lt, all)) inside clear (λ r. absurd (omega (arith, r.1, behind))))
              (cases_lt i (at + length bytes)))
              (cases_lt i at);
        },
        record {
          before = sym (ap (λ (l : List ℕ). take at l) (append_assoc (take at c) (filler state.stable at (length bytes)) rest) ∙ take_at (take at c) _ at (front_size state c at (length bytes) within));
          after = sym (drop_at part rest (at + length bytes) size);
          no_shorter = omega (arith, all);
          no_longer = omega (arith, all);
        },
      )

  pub write_before : Before
  write_before = ⊎_elim
      (λ after. ⊎_elim
      (λ over. ended (state.greatest - at) (omega (arith, after)) (omega (arith, over, starts, bounded.no_longer)) (omega (arith, image.no_longer, over)) (omega (arith, image.no_longer, over)) (omega (arith, starts, bounded.no_longer)) (omega (arith, starts, bounded.no_longer, bounded.no_shorter)) (omega (arith, image.no_longer, over)))
      (λ high. ⊎_elim
      (λ cut. ended (length c - at) (omega (arith, after)) (omega (arith, after)) (omega (arith, cut)) (omega (arith, cut)) (omega (arith, high, after)) (omega (arith, image.no_shorter, after)) (omega (arith, cut)))
      (λ fits. whole fits high)
      (cases_lt (length c) (at + length bytes)))
      (cases_lt state.greatest (length c)))
      (λ le. short le)
      (cases_lt at (length c))

-- an image after a cut comes from one before it
module _ (state : State) (n : ℕ) (failed : Bool) (c : List ℕ) (bounded : IsBounded state) (image : IsImage (after_cut n failed state) c) where
  kept : (i : ℕ) → i < n → i < length c → i < length state.stable → (Touched state.touched i → ⊥) → get_or c i 0 ≡ get_or state.stable i 0
  kept i below lt inside clear = image.stays i lt inside (untouched_more state.touched n most i clear (λ r. absurd (omega (arith, r.0, below))))

  pub cut_before : (d : List ℕ) × IsImage state d × TornCut n d c
  cut_before = ⊎_elim
      (λ below. (
        c,
        record {
          no_shorter = omega (arith, image.no_shorter, below);
          no_longer = image.no_longer;
          stays = λ i lt inside clear. kept i (omega (arith, lt, below)) lt inside clear;
        },
        record { before = refl; no_longer = omega arith },
      ))
      (λ within.
      let m = max (length c) state.least - n in
      let d = fronted state c n m within in
      let size = length-fronted state c n m within in (
        d,
        record {
          no_shorter = omega (arith, size, within);
          no_longer = omega (arith, size, within, image.no_longer, bounded.no_shorter, bounded.no_longer);
          stays = λ i lt inside clear. ⊎_elim
              (λ before. front_read state c n m within i before ∙ kept i before (omega (arith, before, within)) inside clear)
              (λ behind. stable_read state c n m within i behind (omega (arith, lt, size)) inside)
              (cases_lt i n);
        },
        record { before = sym (take_fronted state c n m within); no_longer = omega (arith, size, within) },
      ))
      (cases_lt (length c) n)

-- after a sync there is one image
pub sync_only : (state : State) (c : List ℕ) → IsImage (after_sync false state) c → c ≡ state.bytes
sync_only state c image =
    let size : length c ≡ length state.bytes = omega (arith, image.no_shorter, image.no_longer) in
    ext_get_or 0 c state.bytes size (λ i lt. image.stays i lt (omega (arith, lt, size)) (λ none. none))
