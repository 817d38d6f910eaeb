-- Steps in succession.
use Rattle.std.proofs.Common.{◌≡◌, ◌<◌, ◌≤◌, inl, inr, ⊎_elim, ℕ, suc, List, [], ◌∷◌, ◌++◌, length, take, refl, sym, ◌∙◌, subst, arith, length-append}
use Rattle.std.proofs.lemmas.List.{take-append-le, take_all}
use Rattle.bt_outside.specs.declared.disk.Disk.{Ghosts}
use Rattle.bt_base.specs.Counts.{most, counted}
use Rattle.bt_outside.specs.Disk.{Files, Elapses, AtFile, Follows, NoMore}
use Rattle.bt_crash.specs.Moments.{AllImages, Keeps}
use Rattle.bt_crash.specs.Steps.{Anyhow, Reaches, StepsAt}
use Rattle.bt_crash.specs.Changes.{after_all, HoldsSome, StepsThrough, HasAll, HasSince}

abbrev pub OnlyNow : {D : Type 0} → Ghosts D → D → Type 0
OnlyNow disk d = (c : Files) → disk.tells → disk.moment d < most → disk.left_since d (disk.moment d) c → disk.may_leave d c

abbrev pub Passes : {D : Type 0} → Ghosts D → D → D → Type 0
Passes disk old new = disk.tells → disk.moment new < most → Elapses (disk.moment old) (disk.moment new) (disk.left_since old) (disk.left_since new) (disk.may_leave new)

module _ {D : Type 0} (disk : Ghosts D) where
  -- before the first call
  pub begun : (old : D) (P : Files → Type 0) → OnlyNow disk old → AllImages disk old P → Keeps disk old old P
  begun old P law here = record {
    moments = λ tells below. record { later = omega arith; each = λ c left. here tells c (law c tells below left); before = λ t c le left. inl left };
    now = here;
  }

  -- one call of the disk more
  pub goes_on : (old mid new : D) (P : Files → Type 0) → Keeps disk old mid P → disk.moment new ≡ counted (disk.moment mid) → Passes disk mid new → AllImages disk new P → Keeps disk old new P
  goes_on old mid new P so_far counts time here = record {
    moments = λ tells below.
        let earlier : disk.moment mid < most = omega (arith, counts, below) in
        let past = so_far.moments tells earlier in
        let passed = time tells below in
        record {
          later = omega (arith, past.later, counts, earlier);
          each = λ c left. ⊎_elim (past.each c) (here tells c) (passed.nothing_else (disk.moment old) c past.later left);
          before = λ t c le left. ⊎_elim (past.before t c le) (λ now. inr (here tells c now)) (passed.nothing_else t c (omega (arith, le, past.later)) left);
        };
    now = here;
  }

  -- one call that changes nothing
  pub looks : (old mid new : D) (P : Files → Type 0) → Keeps disk old mid P → disk.moment new ≡ counted (disk.moment mid) → Passes disk mid new → (disk.tells → NoMore (disk.may_leave mid) (disk.may_leave new)) → Keeps disk old new P
  looks old mid new P so_far counts time none = goes_on old mid new P so_far counts time (λ tells c now. so_far.now tells c (none tells c now))

  -- one chain after another
  pub goes_through : (old mid new : D) (P Q R : Files → Type 0) → Keeps disk old mid P → Keeps disk mid new Q → (disk.tells → (c : Files) → P c → R c) → (disk.tells → (c : Files) → Q c → R c) → Keeps disk old new R
  goes_through old mid new P Q R first second p q = record {
    moments = λ tells below.
        let later = second.moments tells below in
        let past = first.moments tells (omega (arith, later.later, below)) in
        record {
          later = omega (arith, past.later, later.later);
          each = λ c left. ⊎_elim (λ was. p tells c (past.each c was)) (λ is. q tells c is) (later.before (disk.moment old) c past.later left);
          before = λ t c le left. ⊎_elim (λ was. ⊎_elim (λ x. inl x) (λ x. inr (p tells c x)) (past.before t c le was)) (λ is. inr (q tells c is)) (later.before t c (omega (arith, le, past.later)) left);
        };
    now = λ tells c is. q tells c (second.now tells c is);
  }

  pub weakens : (old new : D) (P R : Files → Type 0) → Keeps disk old new P → (disk.tells → (c : Files) → P c → R c) → Keeps disk old new R
  weakens old new P R so_far p = record {
    moments = λ tells below.
        let past = so_far.moments tells below in
        record {
          later = past.later;
          each = λ c left. p tells c (past.each c left);
          before = λ t c le left. ⊎_elim (λ x. inl x) (λ x. inr (p tells c x)) (past.before t c le left);
        };
    now = λ tells c is. p tells c (so_far.now tells c is);
  }

  -- one call that goes a step of one file
  pub one_step : (old new : D) (file : ℕ) (step : List ℕ → List ℕ → Type 0) → ((b : List ℕ) → step b b) → OnlyNow disk old → disk.moment new ≡ counted (disk.moment old) → Passes disk old new → (disk.tells → Follows (AtFile file step) (disk.may_leave old) (disk.may_leave new)) → StepsAt disk file step old new
  one_step old new file step same law counts time follows =
      goes_on old old new (Reaches file step (disk.may_leave old))
      (begun old (Reaches file step (disk.may_leave old)) law (λ tells c now. (c, now, record { here = same (c file); others = λ other apart. refl })))
      counts time follows

-- a state and what changes it
module _ {S R : Type 0} (holds : S → Files → Type 0) (after : S → R → S) (c : Files) where
  pub ahead : (s : S) (xs ys : List R) → HoldsSome holds after s xs c → HoldsSome holds after s (xs ++ ys) c
  ahead s xs ys has = (
    has.0,
    omega (arith, has.1, length-append xs ys),
    subst (λ (l : List R). holds (after_all after s l) c) (sym (take-append-le has.0 xs ys has.1)) has.2,
  )

  pub behind : (s : S) (xs ys : List R) → HoldsSome holds after (after_all after s xs) ys c → HoldsSome holds after s (xs ++ ys) c
  behind s [] ys has = has
  behind s (x ∷ xs) ys has =
      let r = behind (after s x) xs ys has in
      (suc r.0, omega (arith, r.1), r.2)

  pub all_some : (s : S) (xs : List R) → holds (after_all after s xs) c → HoldsSome holds after s xs c
  all_some s xs has = (length xs, omega arith, subst (λ (l : List R). holds (after_all after s l) c) (sym (take_all (length xs) xs (omega arith))) has)

  pub none_some : (s : S) (xs : List R) → holds s c → HoldsSome holds after s xs c
  none_some s xs has = (0, omega arith, has)

-- the state after two lists of changes
pub after_both : {S R : Type 0} (after : S → R → S) (s : S) (xs ys : List R) → after_all after s (xs ++ ys) ≡ after_all after (after_all after s xs) ys
after_both after s [] ys = refl
after_both after s (x ∷ xs) ys = after_both after (after s x) xs ys

module _ {D S R : Type 0} (disk : Ghosts D) (holds : S → Files → Type 0) (after : S → R → S) where
  -- THE LAW: two chains in succession are a chain of both their changes
  pub chained : (s : S) (xs ys : List R) (old mid new : D) → StepsThrough disk holds after s xs old mid → StepsThrough disk holds after (after_all after s xs) ys mid new → StepsThrough disk holds after s (xs ++ ys) old new
  chained s xs ys old mid new first second =
      goes_through disk old mid new (HoldsSome holds after s xs) (HoldsSome holds after (after_all after s xs) ys) (HoldsSome holds after s (xs ++ ys)) first second
      (λ tells c has. ahead holds after c s xs ys has) (λ tells c has. behind holds after c s xs ys has)

  pub has_both : (s : S) (xs ys : List R) (now : D) → HasAll disk holds after (after_all after s xs) ys now → HasAll disk holds after s (xs ++ ys) now
  has_both s xs ys now all tells c is = subst (λ (t : S). holds t c) (sym (after_both after s xs ys)) (all tells c is)

  -- a call with no disk call so far
  pub not_begun : (s : S) (changes : List R) (old : D) → OnlyNow disk old → AllImages disk old (holds s) → StepsThrough disk holds after s changes old old
  not_begun s changes old law here = begun disk old (HoldsSome holds after s changes) law (λ tells c is. none_some holds after c s changes (here tells c is))

  -- A step of one file is a chain, where the state says what the step makes of it.
  pub lifts : (s : S) (changes : List R) (file : ℕ) (step : List ℕ → List ℕ → Type 0) (old new : D) → AllImages disk old (holds s) → StepsAt disk file step old new
      → (disk.tells → (d c : Files) → disk.may_leave old d → holds s d → AtFile file step d c → HoldsSome holds after s changes c) → StepsThrough disk holds after s changes old new
  lifts s changes file step old new here steps law =
      weakens disk old new (Reaches file step (disk.may_leave old)) (HoldsSome holds after s changes) steps
      (λ tells c reaches. law tells reaches.0 c reaches.1 (here tells reaches.0 reaches.1) reaches.2)

  -- more changes are promised than were made
  pub promises : (s : S) (xs ys : List R) (old new : D) → StepsThrough disk holds after s xs old new → StepsThrough disk holds after s (xs ++ ys) old new
  promises s xs ys old new steps = weakens disk old new (HoldsSome holds after s xs) (HoldsSome holds after s (xs ++ ys)) steps (λ tells c has. ahead holds after c s xs ys has)

  -- what is acknowledged now
  pub acknowledged : (s : S) (changes : List R) (now : D) → OnlyNow disk now → HasAll disk holds after s changes now → HasSince disk holds after s changes now (disk.moment now) (length changes)
  acknowledged s changes now law all tells below c left =
      (length changes, omega arith, omega arith, subst (λ (l : List R). holds (after_all after s l) c) (sym (take_all (length changes) changes (omega arith))) (all tells c (law c tells below left)))

  -- what was acknowledged stays so
  pub still : (s : S) (xs ys : List R) (mid new : D) (t n : ℕ) → t ≤ disk.moment mid → n ≤ length xs → HasSince disk holds after s xs mid t n → StepsThrough disk holds after (after_all after s xs) ys mid new → HasSince disk holds after s (xs ++ ys) new t n
  still s xs ys mid new t n le some so_far steps tells below c left =
      let later = steps.moments tells below in
      ⊎_elim
      (λ was.
      let r = so_far tells (omega (arith, later.later, below)) c was in
      let same = take-append-le r.0 xs ys r.2 in
      (r.0, r.1, omega (arith, r.2, length-append xs ys), subst (λ (l : List R). holds (after_all after s l) c) (sym same) r.3))
      (λ is.
      let r = further s xs is in (r.0, omega (arith, r.1, some), r.2, r.3))
      (later.before t c le left)
    where
      further : (s : S) (xs : List R) → HoldsSome holds after (after_all after s xs) ys c → (m : ℕ) × (length xs ≤ m) × (m ≤ length (xs ++ ys)) × holds (after_all after s (take m (xs ++ ys))) c
      further s [] has = (has.0, omega arith, has.1, has.2)
      further s (x ∷ xs) has = let r = further (after s x) xs has in (suc r.0, omega (arith, r.1), omega (arith, r.2), r.3)

-- what is said of a file's bytes may be left out
pub anyhow : (file : ℕ) (step : List ℕ → List ℕ → Type 0) (old new : Files → Type 0) → Follows (AtFile file step) old new → Follows (AtFile file Anyhow) old new
anyhow file step old new follows c is = let r = follows c is in (r.0, r.1, record { here = tt; others = r.2.others })

module _ {D : Type 0} (disk : Ghosts D) where
  -- what a step says of the file's bytes is put in other words
  pub in_words : (file : ℕ) (step words : List ℕ → List ℕ → Type 0) (old new : D) → StepsAt disk file step old new → (disk.tells → (b c : List ℕ) → step b c → words b c) → StepsAt disk file words old new
  in_words file step words old new steps law =
      weakens disk old new (Reaches file step (disk.may_leave old)) (Reaches file words (disk.may_leave old)) steps
      (λ tells c r. (r.0, r.1, record { here = law tells (r.0 file) (c file) r.2.here; others = r.2.others }))

  -- two steps of one file
  pub both_at : (file : ℕ) (f g h : List ℕ → List ℕ → Type 0) (old mid new : D) → StepsAt disk file f old mid → StepsAt disk file g mid new → (disk.tells → (b c : List ℕ) → f b c → h b c) → (disk.tells → (b c e : List ℕ) → f b c → g c e → h b e) → StepsAt disk file h old new
  both_at file f g h old mid new first second one two =
      goes_through disk old mid new (Reaches file f (disk.may_leave old)) (Reaches file g (disk.may_leave mid)) (Reaches file h (disk.may_leave old)) first second
      (λ tells c r. (r.0, r.1, record { here = one tells (r.0 file) (c file) r.2.here; others = r.2.others }))
      (λ tells c r.
      let was = first.now tells r.0 r.1 in
      (was.0, was.1, record { here = two tells (was.0 file) (r.0 file) (c file) was.2.here r.2.here; others = λ other away. r.2.others other away ∙ was.2.others other away }))

  -- before the first of some calls on one file, whatever they do to its bytes
  pub begun_anyhow : (file : ℕ) (old : D) → OnlyNow disk old → StepsAt disk file Anyhow old old
  begun_anyhow file old law = begun disk old (Reaches file Anyhow (disk.may_leave old)) law (λ tells c now. (c, now, record { here = tt; others = λ other away. refl }))

  -- one call on the file more
  pub goes_anyhow : (file : ℕ) (step : List ℕ → List ℕ → Type 0) (old mid new : D) → StepsAt disk file Anyhow old mid → disk.moment new ≡ counted (disk.moment mid) → Passes disk mid new
      → (disk.tells → Follows (AtFile file step) (disk.may_leave mid) (disk.may_leave new)) → StepsAt disk file Anyhow old new
  goes_anyhow file step old mid new so_far counts time follows =
      goes_on disk old mid new (Reaches file Anyhow (disk.may_leave old)) so_far counts time
      (λ tells c now.
      let r = follows tells c now in
      let was = so_far.now tells r.0 r.1 in
      (was.0, was.1, record { here = tt; others = λ other away. r.2.others other away ∙ was.2.others other away }))
