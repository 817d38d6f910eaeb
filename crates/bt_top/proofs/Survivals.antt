-- What crashes leave, turn after turn.
use Rattle.std.proofs.Common.{◌≡◌, ◌≤◌, ◌⊎◌, inl, inr, ⊎_elim, ℕ, suc, ◌+◌, List, [], ◌∷◌, ◌++◌, length, refl, sym, ap, subst, ◌∙◌, arith, length-append, append_assoc}
use Rattle.std.proofs.lemmas.Grind.{flat_map-append}
use Rattle.std.proofs.lemmas.List.{append-nil}
use Rattle.std.specs.List.{AllByRecursion}
use Rattle.bt_crash.specs.Changes.{after_all, HasSince, StepsThrough}
use Rattle.bt_crash.specs.Moments.{AllImages}
use Rattle.bt_crash.proofs.Chains.{OnlyNow, acknowledged, chained, not_begun, still}
use Rattle.bt_outside.specs.Disk.{Files}
use Rattle.bt_outside.specs.declared.disk.Disk.{Ghosts}
use Rattle.bt_service.specs.Steps.{Leaves}
use Rattle.bt_service.specs.Turns.{Given, GoesOn, How, Turn, ended, records_of, refused_on_the_way, tried, tried_by, whole}
use Rattle.bt_service.proofs.Progress.{after_same}
use Rattle.bt_state.specs.State.{Event, State, after_record, after_records}
use Rattle.bt_store.specs.Held.{HoldsState}
use Rattle.bt_store.specs.Stands.{Seen, Stands}
use Rattle.bt_store.proofs.Holds.{stands_hold}
use Rattle.bt_top.specs.Crashes.{AreAcknowledged, Survives}

-- what might have been left since a later moment, might have been left since an earlier one
abbrev pub Sooner : {D : Type 0} → Ghosts D → D → Type 0
Sooner disk now = (t u : ℕ) (c : Files) → disk.tells → t ≤ u → disk.left_since now u c → disk.left_since now t c

-- ---- lists of turns

pub records-append : (ts us : List Turn) → records_of (ts ++ us) ≡ records_of ts ++ records_of us
records-append ts us = flat_map-append (λ (t : Turn). t.given.records) ts us

pub after_records-append : (s : State) (xs ys : List (List Event)) → after_records s (xs ++ ys) ≡ after_records (after_records s xs) ys
after_records-append s [] ys = refl
after_records-append s (x ∷ xs) ys = after_records-append (after_record s x) xs ys

-- the state after more turns
pub state_then : (s : State) (ts us : List Turn) → after_records (after_records s (records_of ts)) (records_of us) ≡ after_records s (records_of (ts ++ us))
state_then s ts us = sym (after_records-append s (records_of ts) (records_of us)) ∙ ap (after_records s) (sym (records-append ts us))

first_and_rest : (x y : Turn) (xs ys : List Turn) → x ∷ xs ≡ y ∷ ys → (x ≡ y) × (xs ≡ ys)
first_and_rest x y xs ys e = (cc, cc)

-- one of some turns and more is one of the first ones, or of the others
split : (ts us before : List Turn) (t : Turn) (behind : List Turn) → ts ++ us ≡ before ++ t ∷ behind → ((b : List Turn) × (ts ≡ before ++ t ∷ b)) ⊎ ((b : List Turn) × (before ≡ ts ++ b) × (us ≡ b ++ t ∷ behind))
split [] us before t behind e = inr (before, refl, e)
split (x ∷ ts) us [] t behind e = inl (ts, ap (λ (y : Turn). y ∷ ts) (first_and_rest x t (ts ++ us) behind e).0)
split (x ∷ ts) us (y ∷ before) t behind e =
    let same = first_and_rest x y (ts ++ us) (before ++ t ∷ behind) e in
    ⊎_elim
    (λ one. inl (one.0, ap (λ (z : Turn). z ∷ ts) same.0 ∙ ap (λ (l : List Turn). y ∷ l) one.1))
    (λ one. inr (one.0, ap (λ (z : Turn). z ∷ before) (sym same.0) ∙ ap (λ (l : List Turn). x ∷ l) one.1, one.2))
    (split ts us before t behind same.1)

-- no more records are acknowledged than there are
acknowledged_within : (t n : ℕ) (turns : List Turn) → AreAcknowledged t turns n → n ≤ length (records_of turns)
acknowledged_within t n turns a =
    let front = a.before ++ a.turn ∷ [] in
    let all : turns ≡ front ++ a.behind = a.stands ∙ sym (append_assoc a.before (a.turn ∷ []) a.behind) in
    let sizes : length (records_of turns) ≡ length (records_of front) + length (records_of a.behind) = ap (λ (l : List Turn). length (records_of l)) all ∙ ap length (records-append front a.behind) ∙ length-append (records_of front) (records_of a.behind) in
    omega (arith, sizes, a.count)

notes_later : (turns : List Turn) (m n : ℕ) → m ≤ n → AllByRecursion (λ (u : Turn). u.given.noted ≤ m) turns → AllByRecursion (λ (u : Turn). u.given.noted ≤ n) turns
notes_later [] m n le h = tt
notes_later (t ∷ ts) m n le h = (omega (arith, le, h.0), notes_later ts m n le h.1)

notes_both : (ts us : List Turn) (n : ℕ) → AllByRecursion (λ (u : Turn). u.given.noted ≤ n) ts → AllByRecursion (λ (u : Turn). u.given.noted ≤ n) us → AllByRecursion (λ (u : Turn). u.given.noted ≤ n) (ts ++ us)
notes_both [] us n h k = k
notes_both (t ∷ ts) us n h k = (h.0, notes_both ts us n h.1 k)

note_of : (before : List Turn) (t : Turn) (behind : List Turn) (n : ℕ) → AllByRecursion (λ (u : Turn). u.given.noted ≤ n) (before ++ t ∷ behind) → t.given.noted ≤ n
note_of [] t behind n h = h.0
note_of (x ∷ before) t behind n h = note_of before t behind n h.1

-- ---- how a line was given

pub goes_on_tried : (how : How) (all records : List (List Event)) → GoesOn how → tried_by how all records ≡ records
goes_on_tried whole all records on = refl
goes_on_tried refused_on_the_way all records on = refl
goes_on_tried ended all records on = absurd on

pub goes_on_stands : {D : Type 0} (disk : Ghosts D) (how : How) (store : Seen) (s : State) (now : D) → GoesOn how → Leaves disk how store s now → Stands store s (disk.held now) (disk.may_leave now)
goes_on_stands disk whole store s now on l = l
goes_on_stands disk refused_on_the_way store s now on l = l
goes_on_stands disk ended store s now on l = absurd on

module _ {D : Type 0} (disk : Ghosts D) where
  -- every image holds the state for which the store stands
  holds_now : (store : Seen) (s : State) (now : D) → Stands store s (disk.held now) (disk.may_leave now) → AllImages disk now (HoldsState s)
  holds_now store s now stands tells c left = stands_hold store s (disk.held now) (disk.may_leave now) stands c left

  -- what is acknowledged at a moment is so at a later one
  later_too : (s : State) (records : List (List Event)) (now : D) (t u n : ℕ) → Sooner disk now → t ≤ u → HasSince disk HoldsState after_record s records now t n → HasSince disk HoldsState after_record s records now u n
  later_too s records now t u n sooner le has tells below c left = has tells below c (sooner t u c tells le left)

  -- ---- nothing

  nothing_acknowledged : (t n : ℕ) {P : Type 0} → AreAcknowledged t [] n → P
  nothing_acknowledged t n a = absurd (nothing_split a.before a.turn a.behind a.stands)
    where
      nothing_split : (before : List Turn) (u : Turn) (behind : List Turn) → [] ≡ before ++ u ∷ behind → ⊥
      nothing_split [] u behind e = cc
      nothing_split (x ∷ before) u behind e = cc

  -- no call of the disk was made
  pub survives_none : (store : Seen) (s : State) (now : D) → OnlyNow disk now → Stands store s (disk.held now) (disk.may_leave now) → Survives disk s [] [] now now
  survives_none store s now law stands = record {
    steps = not_begun disk HoldsState after_record s [] now law (holds_now store s now stands);
    noted = λ tells below. tt;
    acknowledged = λ t n a. nothing_acknowledged t n a;
  }

  -- ---- more turns

  -- what holds behind some changes is counted from the first of all
  since_behind : (s : State) (xs ys : List (List Event)) (now : D) (t n : ℕ) → HasSince disk HoldsState after_record (after_records s xs) ys now t n → HasSince disk HoldsState after_record s (xs ++ ys) now t (length xs + n)
  since_behind s [] ys now t n has = λ tells below c left.
      let r = has tells below c left in
      (r.0, omega (arith, r.1), r.2, r.3)
  since_behind s (x ∷ xs) ys now t n has = λ tells below c left.
      let r = since_behind (after_record s x) xs ys now t n has tells below c left in
      (suc r.0, omega (arith, r.1), omega (arith, r.2), r.3)

  -- THE LAW: what survives, and then what survives of more turns
  pub survives_then : (s : State) (xs ys : List (List Event)) (us vs : List Turn) (old mid new : D) → Sooner disk new → Survives disk s xs us old mid → Survives disk (after_records s xs) ys vs mid new → records_of us ≡ xs → Survives disk s (xs ++ ys) (us ++ vs) old new
  survives_then s xs ys us vs old mid new sooner first second same =
      let state = after_same s xs in
      let steps : StepsThrough disk HoldsState after_record (after_all after_record s xs) ys mid new = subst (λ (x : State). StepsThrough disk HoldsState after_record x ys mid new) (sym state) second.steps in
      record {
        steps = chained disk HoldsState after_record s xs ys old mid new first.steps steps;
        noted = λ tells below.
            let later = (second.steps.moments tells below).later in
            notes_both us vs (disk.moment new) (notes_later us (disk.moment mid) (disk.moment new) later (first.noted tells (omega (arith, later, below)))) (second.noted tells below);
        acknowledged = λ t n a. ⊎_elim
            (λ one. of_first steps t n (record { before = a.before; turn = a.turn; behind = one.0; stands = one.1; is_acknowledged = a.is_acknowledged; count = a.count }))
            (λ one.
            let m = length (records_of (one.0 ++ a.turn ∷ [])) in
            let has = since_behind s xs ys new t m (second.acknowledged t m (record { before = one.0; turn = a.turn; behind = a.behind; stands = one.2; is_acknowledged = a.is_acknowledged; count = refl })) in
            let count : length xs + m ≡ n = counts one.0 a.turn a.before one.1 n a.count in
            subst (λ (k : ℕ). HasSince disk HoldsState after_record s (xs ++ ys) new t k) count has)
            (split us vs a.before a.turn a.behind a.stands);
      }
    where
      counts : (b : List Turn) (u : Turn) (before : List Turn) → before ≡ us ++ b → (n : ℕ) → n ≡ length (records_of (before ++ u ∷ [])) → length xs + length (records_of (b ++ u ∷ [])) ≡ n
      counts b u before is n count =
          let all : before ++ u ∷ [] ≡ us ++ (b ++ u ∷ []) = ap (λ (l : List Turn). l ++ u ∷ []) is ∙ append_assoc us b (u ∷ []) in
          let sizes : length (records_of (before ++ u ∷ [])) ≡ length (records_of us) + length (records_of (b ++ u ∷ [])) = ap (λ (l : List Turn). length (records_of l)) all ∙ ap length (records-append us (b ++ u ∷ [])) ∙ length-append (records_of us) (records_of (b ++ u ∷ [])) in
          omega (arith, sizes, count, ap length same)

      -- a turn of the first ones was acknowledged when its moment was noted
      of_first : StepsThrough disk HoldsState after_record (after_all after_record s xs) ys mid new → (t n : ℕ) → AreAcknowledged t us n → HasSince disk HoldsState after_record s (xs ++ ys) new t n
      of_first steps t n a tells below c left =
          let later = (second.steps.moments tells below).later in
          let within : n ≤ length xs = omega (arith, acknowledged_within t n us a, ap length same) in
          let notes = first.noted tells (omega (arith, later, below)) in
          let noted : a.turn.given.noted ≤ disk.moment mid = note_of a.before a.turn a.behind (disk.moment mid) (subst (λ (l : List Turn). AllByRecursion (λ (u : Turn). u.given.noted ≤ disk.moment mid) l) a.stands notes) in
          let moment = a.turn.given.noted in
          let at_once = first.acknowledged moment n (record { before = a.before; turn = a.turn; behind = a.behind; stands = a.stands; is_acknowledged = record { is_whole = a.is_acknowledged.is_whole; is_said = a.is_acknowledged.is_said; noted = omega arith }; count = a.count }) in
          still disk HoldsState after_record s xs ys mid new moment n noted within at_once steps tells below c (sooner moment t c tells a.is_acknowledged.noted left)

  -- ---- one turn

  -- a reply that was given whole: its records are on the disk
  whole_since : (s : State) (records all : List (List Event)) (how : How) (store : Seen) (new : D) → OnlyNow disk new → Leaves disk how store (after_records s records) new → how ≡ whole → HasSince disk HoldsState after_record s (tried_by how all records) new (disk.moment new) (length records)
  whole_since s records all whole store new law leaves is =
      acknowledged disk HoldsState after_record s records new law
      (λ tells c left. subst (λ (x : State). HoldsState x c) (sym (after_same s records)) (holds_now store (after_records s records) new leaves tells c left))
  whole_since s records all refused_on_the_way store new law leaves is = absurd cc
  whole_since s records all ended store new law leaves is = absurd cc

  only_one : (turn : Turn) (before : List Turn) (t : Turn) (behind : List Turn) → turn ∷ [] ≡ before ++ t ∷ behind → (before ≡ []) × (turn ≡ t)
  only_one turn [] t behind e = (refl, cc)
  only_one turn (x ∷ []) t behind e = absurd cc
  only_one turn (x ∷ y ∷ before) t behind e = absurd cc

  acknowledged_one : (s : State) (turn : Turn) (store : Seen) (new : D) → Sooner disk new → OnlyNow disk new → turn.given.noted ≡ disk.moment new → Leaves disk turn.given.how store (after_records s turn.given.records) new → (t n : ℕ) → AreAcknowledged t (turn ∷ []) n
      → HasSince disk HoldsState after_record s (tried turn.given) new t n
  acknowledged_one s turn store new sooner law noted leaves t n a =
      let one = only_one turn a.before a.turn a.behind a.stands in
      let given : a.turn.given ≡ turn.given = ap (λ (u : Turn). u.given) (sym one.1) in
      let is_whole : turn.given.how ≡ whole = ap (λ (g : Given). g.how) (sym given) ∙ a.is_acknowledged.is_whole in
      let front : a.before ++ a.turn ∷ [] ≡ turn ∷ [] = ap (λ (l : List Turn). l ++ a.turn ∷ []) one.0 ∙ ap (λ (u : Turn). u ∷ []) (sym one.1) in
      let count : length turn.given.records ≡ n = sym (a.count ∙ ap (λ (l : List Turn). length (records_of l)) front ∙ ap length (append-nil turn.given.records)) in
      let past : disk.moment new ≤ t = omega (arith, noted, ap (λ (g : Given). g.noted) given, a.is_acknowledged.noted) in
      let has = whole_since s turn.given.records turn.given.reply.records turn.given.how store new law leaves is_whole in
      subst (λ (k : ℕ). HasSince disk HoldsState after_record s (tried turn.given) new t k) count (later_too s (tried turn.given) new (disk.moment new) t (length turn.given.records) sooner past has)

  -- a line was handled
  pub survives_one : (s : State) (turn : Turn) (store : Seen) (old new : D) → Sooner disk new → OnlyNow disk new → turn.given.noted ≡ disk.moment new → Leaves disk turn.given.how store (after_records s turn.given.records) new → StepsThrough disk HoldsState after_record s (tried turn.given) old new
      → Survives disk s (tried turn.given) (turn ∷ []) old new
  survives_one s turn store old new sooner law noted leaves steps = record {
    steps = steps;
    noted = λ tells below. (omega (arith, noted), tt);
    acknowledged = acknowledged_one s turn store new sooner law noted leaves;
  }
