-- Texts that are written one behind another.
use Rattle.std.proofs.Common.{◌≡◌, ◌⊎◌, ℕ, ◌+◌, Bool, true, false, List, [], ◌∷◌, ◌++◌, length, map, take, drop, refl, sym, ap, ◌∙◌, inl, inr, subst, arith, append_assoc, length-append, take-append-drop}
use Rattle.std.proofs.lemmas.List.{map-append, append-nil, nil_from_length}
use Rattle.std.specs.Prelude.{Result, Ok, Err, OnOk, OnErr}
use Rattle.bt_outside.specs.Links.{Adds, AddsPart, LastGoes, Sent}
use Rattle.bt_send.specs.Writes.{AreEnds, IsMarked, Sends, Writes, Wrote, has_failed, notes_at}

-- ---- steps of the last connection

pub goes_then : (first second both : Sent → Sent → Type 0) → ((a b c : Sent) → first a b → second b c → both a c) → (old mid new : List Sent) → LastGoes first old mid → LastGoes second mid new → LastGoes both old new
goes_then first second both join old mid new f g before s is =
    let one = f before s is in
    let two = g before one.0 one.1 in
    (two.0, two.1, join s one.0 two.0 one.2 two.2)

pub goes_as : (step other : Sent → Sent → Type 0) → ((a b : Sent) → step a b → other a b) → (old new : List Sent) → LastGoes step old new → LastGoes other old new
goes_as step other as_other old new f before s is =
    let one = f before s is in
    (one.0, one.1, as_other s one.0 one.2)

-- a list is empty, or has a last one
last_of : (xs : List Sent) → (xs ≡ []) ⊎ ((before : List Sent) × (s : Sent) × (xs ≡ before ++ s ∷ []))
last_of [] = inl refl
last_of (x ∷ xs) = elim (last_of xs) as (λ _. (x ∷ xs ≡ []) ⊎ ((before : List Sent) × (s : Sent) × (x ∷ xs ≡ before ++ s ∷ []))) [
  | inl none ↦ inr ([], x, ap (λ (l : List Sent). x ∷ l) none)
  | inr more ↦ inr (x ∷ more.0, more.1, ap (λ (l : List Sent). x ∷ l) more.2)
]

-- the last of a list is one
last_same : (xs ys : List Sent) (x y : Sent) → xs ++ x ∷ [] ≡ ys ++ y ∷ [] → (xs ≡ ys) × (x ≡ y)
last_same [] [] x y h = (refl, ap (λ (l : List Sent). elim l as (λ _. Sent) [ [] ↦ x | ◌∷◌ a b ↦ a ]) h)
last_same [] (z ∷ []) x y h = absurd (cc)
last_same [] (z ∷ w ∷ ys) x y h = absurd (cc)
last_same (z ∷ []) [] x y h = absurd (cc)
last_same (z ∷ w ∷ xs) [] x y h = absurd (cc)
last_same (a ∷ xs) (b ∷ ys) x y h =
    let front : a ≡ b = cc in
    let more : xs ++ x ∷ [] ≡ ys ++ y ∷ [] = cc in
    let rest = last_same xs ys x y more in
    (cc, rest.1)

none_last : (before : List Sent) (s : Sent) → [] ≡ before ++ s ∷ [] → ⊥
none_last [] s h = cc
none_last (x ∷ xs) s h = cc

-- what holds of the last one for some value holds of it for the value of this list
pub goes_for_some : {A : Type 0} (none : A) (step : A → Sent → Sent → Type 0) (old new : List Sent) → LastGoes (λ a b. (x : A) × step x a b) old new → (x : A) × LastGoes (step x) old new
goes_for_some {A} none step old new h =
    elim (last_of old) as (λ _. (x : A) × LastGoes (step x) old new) [
      | inl is ↦ (none, λ before s at. absurd (none_last before s (sym is ∙ at)))
      | inr one ↦
          let t = h one.0 one.1 one.2 in (
            t.2.0,
            λ before s at.
                let same = last_same one.0 before one.1 s (sym one.2 ∙ at) in
                (t.0, t.1 ∙ ap (λ (l : List Sent). l ++ t.0 ∷ []) same.0, subst (λ (x : Sent). step t.2.0 x t.0) same.1 t.2.1),
          )
    ]

-- ---- ends

abbrev pub further : ℕ → List ℕ → List ℕ
further n ends = map (λ m. n + m) ends

notes_further : (n k m : ℕ) (ends : List ℕ) → notes_at (n + k) m ends ≡ notes_at n m (further k ends)
notes_further n k m [] = refl
notes_further n k m (e ∷ es) =
    let same : (n + k) + e ≡ n + (k + e) = omega arith in
    ap (λ (x : ℕ). (x, m) ∷ notes_at (n + k) m es) same ∙ ap (λ (l : List (ℕ × ℕ)). (n + (k + e), m) ∷ l) (notes_further n k m es)

notes-append : (n m : ℕ) (es fs : List ℕ) → notes_at n m (es ++ fs) ≡ notes_at n m es ++ notes_at n m fs
notes-append n m es fs = map-append (λ (e : ℕ). (n + e, m)) es fs

ends_then : (t1 t2 e1 e2 : List ℕ) → AreEnds t1 e1 → AreEnds t2 e2 → AreEnds (t1 ++ t2) (e1 ++ further (length t1) e2)
ends_then t1 t2 e1 e2 h (inl none) =
    subst (λ (t : List ℕ). AreEnds (t1 ++ t) (e1 ++ further (length t1) e2)) (sym none.0)
    (subst (λ (e : List ℕ). AreEnds (t1 ++ []) (e1 ++ further (length t1) e)) (sym none.1)
    (subst (λ (t : List ℕ). AreEnds t (e1 ++ [])) (sym (append-nil t1)) (subst (λ (e : List ℕ). AreEnds t1 e) (sym (append-nil e1)) h)))
ends_then t1 t2 e1 e2 h (inr some) =
    inr (
      e1 ++ further (length t1) some.0,
      ap (λ (e : List ℕ). e1 ++ further (length t1) e) some.1
          ∙ ap (λ (e : List ℕ). e1 ++ e) (map-append (λ (m : ℕ). length t1 + m) some.0 (length t2 ∷ []))
          ∙ sym (append_assoc e1 (further (length t1) some.0) ((length t1 + length t2) ∷ []))
          ∙ ap (λ (n : ℕ). (e1 ++ further (length t1) some.0) ++ n ∷ []) (sym (length-append t1 t2)),
    )

-- ---- writes

writes_none : (m : ℕ) (a : Sent) → Writes [] [] m false a a
writes_none m a = record { bytes = sym (append-nil a.bytes); notes = sym (append-nil a.notes); failed = refl }

marked_then : (b : Bool) (x y z : Bool) → y ≡ x → IsMarked b y z → IsMarked b x z
marked_then false x y z f g = g ∙ f
marked_then true x y z f g = g

writes_then : (t1 e1 t2 e2 : List ℕ) (m : ℕ) (failed : Bool) (a b c : Sent) → Writes t1 e1 m false a b → Writes t2 e2 m failed b c → Writes (t1 ++ t2) (e1 ++ further (length t1) e2) m failed a c
writes_then t1 e1 t2 e2 m failed a b c f g =
    let size : length b.bytes ≡ length a.bytes + length t1 = ap length f.bytes ∙ length-append a.bytes t1 in
    record {
      bytes = g.bytes ∙ ap (λ (l : List ℕ). l ++ t2) f.bytes ∙ append_assoc a.bytes t1 t2;
      notes = g.notes ∙ ap (λ (l : List (ℕ × ℕ)). l ++ notes_at (length b.bytes) m e2) f.notes
          ∙ append_assoc a.notes (notes_at (length a.bytes) m e1) (notes_at (length b.bytes) m e2)
          ∙ ap (λ (n : ℕ). a.notes ++ (notes_at (length a.bytes) m e1 ++ notes_at n m e2)) size
          ∙ ap (λ (l : List (ℕ × ℕ)). a.notes ++ (notes_at (length a.bytes) m e1 ++ l)) (notes_further (length a.bytes) (length t1) m e2)
          ∙ ap (λ (l : List (ℕ × ℕ)). a.notes ++ l) (sym (notes-append (length a.bytes) m e1 (further (length t1) e2)));
      failed = marked_then failed a.failed b.failed c.failed f.failed g.failed;
    }

-- a piece that was written whole
writes_piece : (text : List ℕ) (m : ℕ) (a b : Sent) → Adds text m a b → Writes text (length text ∷ []) m false a b
writes_piece text m a b h = record {
  bytes = h.bytes;
  notes = h.notes ∙ ap (λ (n : ℕ). a.notes ++ (n, m) ∷ []) (ap length h.bytes ∙ length-append a.bytes text);
  failed = h.failed;
}

-- how much of a piece was written, and how its writes ended
abbrev pub Part : List ℕ → Type 0
Part text = (n : ℕ) × (ends : List ℕ) × AreEnds (take n text) ends

abbrev pub WritesPart : (text : List ℕ) → ℕ → Part text → Sent → Sent → Type 0
WritesPart text m p a b = Writes (take p.0 text) p.1 m true a b

part_noted : (text : List ℕ) (n m : ℕ) (a b : Sent) → b.bytes ≡ a.bytes ++ take n text → b.failed ≡ true → (b.notes ≡ a.notes ++ (length b.bytes, m) ∷ []) ⊎ ((b.bytes ≡ a.bytes) × (b.notes ≡ a.notes)) → (p : Part text) × WritesPart text m p a b
part_noted text n m a b bytes failed (inl noted) = (
  (n, length (take n text) ∷ [], inr ([], refl)),
  record {
    bytes = bytes;
    notes = noted ∙ ap (λ (k : ℕ). a.notes ++ (k, m) ∷ []) (ap length bytes ∙ length-append a.bytes (take n text));
    failed = failed;
  },
)
part_noted text n m a b bytes failed (inr none) = (
  (0, [], inl (refl, refl)),
  record { bytes = none.0 ∙ sym (append-nil a.bytes); notes = none.1 ∙ sym (append-nil a.notes); failed = failed },
)

pub writes_part : (text : List ℕ) (m : ℕ) (old new : List Sent) → LastGoes (AddsPart text m) old new → (p : Part text) × LastGoes (WritesPart text m p) old new
writes_part text m old new h =
    goes_for_some (0, [], inl (refl, refl)) (WritesPart text m) old new
    (goes_as (AddsPart text m) (λ (a b : Sent). (p : Part text) × WritesPart text m p a b) (λ a b part. part_noted text part.part.0 m a b part.part.1 part.failed part.notes) old new h)

-- ---- a reply in one piece

pub sends_one : {T E : Type 0} (w : Result T E) (text : List ℕ) (m : ℕ) (old new : List Sent) → OnOk w (LastGoes (Adds text m) old new) → OnErr w (LastGoes (AddsPart text m) old new) → Sends (λ out. out ≡ text) (has_failed w) m old new
sends_one (Ok x) text m old new wrote part = record {
  out = text;
  rest = [];
  goes_so = append-nil text;
  all = λ fine. refl;
  ends = length text ∷ [];
  are_ends = inr ([], refl);
  written = goes_as (Adds text m) (Writes text (length text ∷ []) m false) (writes_piece text m) old new wrote;
}
sends_one (Err x) text m old new wrote part =
    let one = writes_part text m old new part in
    let p = one.0 in
    record {
      out = take p.0 text;
      rest = drop p.0 text;
      goes_so = take-append-drop p.0 text;
      all = λ fine. absurd cc;
      ends = p.1;
      are_ends = p.2;
      written = one.1;
    }

-- ---- a reply in several pieces

pub wrote_none : (m : ℕ) (now : List Sent) → Wrote [] m now now
wrote_none m now = record { ends = []; are_ends = inl (refl, refl); written = λ before s is. (s, is, writes_none m s) }

-- a text, and then a reply or a part of one
pub sends_then : (goes both : List ℕ → Type 0) (is_cut : Bool) (text : List ℕ) (m : ℕ) (old mid new : List Sent) → ((out : List ℕ) → goes out → both (text ++ out)) → Wrote text m old mid → Sends goes is_cut m mid new → Sends both is_cut m old new
sends_then goes both is_cut text m old mid new join f g = record {
  out = text ++ g.out;
  rest = g.rest;
  goes_so = subst both (sym (append_assoc text g.out g.rest)) (join (g.out ++ g.rest) g.goes_so);
  all = g.all;
  ends = f.ends ++ further (length text) g.ends;
  are_ends = ends_then text g.out f.ends g.ends f.are_ends g.are_ends;
  written = goes_then (Writes text f.ends m false) (Writes g.out g.ends m is_cut) (Writes (text ++ g.out) (f.ends ++ further (length text) g.ends) m is_cut)
      (writes_then text f.ends g.out g.ends m is_cut) old mid new f.written g.written;
}

-- a text was written whole
pub wrote_whole : (is_cut : Bool) (text : List ℕ) (m : ℕ) (old new : List Sent) → is_cut ≡ false → Sends (λ out. out ≡ text) is_cut m old new → Wrote text m old new
wrote_whole true text m old new fine h = absurd cc
wrote_whole false text m old new fine h =
    let same : h.out ≡ text = sym (append-nil h.out) ∙ ap (λ (l : List ℕ). h.out ++ l) (sym (h.all refl)) ∙ h.goes_so in
    subst (λ (t : List ℕ). Wrote t m old new) same (record { ends = h.ends; are_ends = h.are_ends; written = h.written })

-- a reply that was cut is the beginning of a longer one too
pub sends_longer : (goes both : List ℕ → Type 0) (is_cut : Bool) (more : List ℕ) (m : ℕ) (old new : List Sent) → ((out : List ℕ) → goes out → both (out ++ more)) → is_cut ≡ true → Sends goes is_cut m old new → Sends both is_cut m old new
sends_longer goes both false more m old new join cut h = absurd cc
sends_longer goes both true more m old new join cut h = record {
  out = h.out;
  rest = h.rest ++ more;
  goes_so = subst both (append_assoc h.out h.rest more) (join (h.out ++ h.rest) h.goes_so);
  all = λ fine. absurd cc;
  ends = h.ends;
  are_ends = h.are_ends;
  written = h.written;
}
