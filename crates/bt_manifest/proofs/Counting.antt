-- Which slot counts after one was written.
use Rattle.std.proofs.Common.{◌≡◌, ◌≢◌, ◌<◌, ◌≤◌, inl, inr, ℕ, ◌+◌, ◌%◌, List, [], length, None, Some, Ok, Err, refl, sym, ◌∙◌, ap, subst, arith}
use Rattle.std.specs.Prelude.{◌⊎◌}
use Rattle.std.proofs.lemmas.Bool.{cases_eq, cases_lt}
use Rattle.std.proofs.lemmas.Bool.Decides.{nat_tests}
use Rattle.bt_outside.specs.Disk.{Files, AtFile}
use Rattle.bt_gate.specs.Gate.{IsOpened}
use Rattle.bt_manifest.specs.declared.snapshot.Snapshot.{Snapshot}
use Rattle.bt_manifest.specs.Grammar.{IsSnapshot, most_body, most_number}
use Rattle.bt_manifest.specs.Spelling.{snapshot_bytes}
use Rattle.bt_manifest.specs.Slots.{Generation, Slot, slot_at, latest, counting, CanStand, slot_bytes, SlotsSettle}
use Rattle.bt_manifest.specs.Publishing.{IsNext, SlotStep}
use Rattle.bt_manifest.proofs.SlotReads.{parity, slot_again}

abbrev Own : ℕ → Slot → Type 0
Own file slot = (x : Generation) → slot ≡ Ok (Some x) → x.1 % 2 ≡ file

greater : (x y : Generation) → x.1 < y.1 → latest (Ok (Some x)) (Ok (Some y)) ≡ Ok (Some y)
greater x y lt = grind (arith, nat_tests)

not_greater : (x y : Generation) → y.1 ≤ x.1 → latest (Ok (Some x)) (Ok (Some y)) ≡ Ok (Some x)
not_greater x y le = grind (arith, nat_tests)

-- beside the slot that is written: without it the old snapshot counts, and with the new one in it the new one
record Other (with_slot : Slot → Slot) (old : Slot) (said : Generation) : Type 0 where
  closed : with_slot (Ok None) ≡ old
  opened : with_slot (Ok (Some said)) ≡ Ok (Some said)

right : (a b : Slot) (said : Generation) → Own 0 a → Own 1 b → IsNext (latest a b) said.1 → said.1 % 2 ≡ 1 → Other (latest a) (latest a b) said
right (Err f) b said pa pb next odd = absurd next
right (Ok None) (Err f) said pa pb next odd = absurd next
right (Ok (Some x)) (Err f) said pa pb next odd = absurd next
right (Ok None) (Ok None) said pa pb next odd = record { closed = refl; opened = refl }
right (Ok None) (Ok (Some y)) said pa pb next odd = let own = pb y refl in absurd (omega (arith, own, next, odd))
right (Ok (Some x)) (Ok None) said pa pb next odd = record { closed = refl; opened = greater x said (omega (arith, next)) }
right (Ok (Some x)) (Ok (Some y)) said pa pb next odd = elim (cases_lt x.1 y.1) [
  | inl lt ↦
      let own = pb y refl in
      let is : said.1 ≡ y.1 + 1 = subst (λ (s : Slot). IsNext s said.1) (greater x y lt) next in
      absurd (omega (arith, own, is, odd))
  | inr le ↦
      let is : said.1 ≡ x.1 + 1 = subst (λ (s : Slot). IsNext s said.1) (not_greater x y le) next in
      record { closed = sym (not_greater x y le); opened = greater x said (omega (arith, is)) }
]

left : (a b : Slot) (said : Generation) → Own 0 a → Own 1 b → IsNext (latest a b) said.1 → said.1 % 2 ≡ 0 → Other (λ (s : Slot). latest s b) (latest a b) said
left (Err f) b said pa pb next even = absurd next
left (Ok None) (Err f) said pa pb next even = absurd next
left (Ok (Some x)) (Err f) said pa pb next even = absurd next
left (Ok None) (Ok None) said pa pb next even = absurd (omega (arith, next, even))
left (Ok None) (Ok (Some y)) said pa pb next even = record { closed = refl; opened = not_greater said y (omega (arith, next)) }
left (Ok (Some x)) (Ok None) said pa pb next even = let own = pa x refl in absurd (omega (arith, own, next, even))
left (Ok (Some x)) (Ok (Some y)) said pa pb next even = elim (cases_lt x.1 y.1) [
  | inl lt ↦
      let is : said.1 ≡ y.1 + 1 = subst (λ (s : Slot). IsNext s said.1) (greater x y lt) next in
      record { closed = sym (greater x y lt); opened = not_greater said y (omega (arith, is)) }
  | inr le ↦
      let own = pa x refl in
      let is : said.1 ≡ x.1 + 1 = subst (λ (s : Slot). IsNext s said.1) (not_greater x y le) next in
      absurd (omega (arith, own, is, even))
]

apart01 : ◌≢◌ {A = ℕ} 0 1
apart01 e = omega (arith, e)

apart10 : ◌≢◌ {A = ℕ} 1 0
apart10 e = omega (arith, e)

-- the slot says what it said, or nothing, or this
abbrev Says : ℕ → Generation → List ℕ → List ℕ → Type 0
Says file said old new = (slot_at file new ≡ slot_at file old) ⊎ (slot_at file new ≡ Ok None) ⊎ (slot_at file new ≡ Ok (Some said))

module _ (held : Files) (said : Generation) (next : IsNext (counting held) said.1) where
  abbrev at0 : Slot
  at0 = slot_at 0 (held 0)

  abbrev at1 : Slot
  at1 = slot_at 1 (held 1)

  law_right : said.1 % 2 ≡ 1 → Other (latest at0) (counting held) said
  law_right odd = right at0 at1 said (parity 0 (held 0)) (parity 1 (held 1)) next odd

  law_left : said.1 % 2 ≡ 0 → Other (λ (s : Slot). latest s at1) (counting held) said
  law_left even = left at0 at1 said (parity 0 (held 0)) (parity 1 (held 1)) next even

  abbrev Counts : Files → Type 0
  Counts c = (counting c ≡ counting held) ⊎ (counting c ≡ Ok (Some said))

  module _ (c : Files) where
    after_right : said.1 % 2 ≡ 1 → c 0 ≡ held 0 → Says 1 said (held 1) (c 1) → Counts c
    after_right odd same says =
        let front : counting c ≡ latest at0 (slot_at 1 (c 1)) = ap (λ (l : List ℕ). latest (slot_at 0 l) (slot_at 1 (c 1))) same in
        elim says [
          | inl stays ↦ inl (front ∙ ap (latest at0) stays)
          | inr changed ↦
              elim changed [
                | inl none ↦ inl (front ∙ ap (latest at0) none ∙ (law_right odd).closed)
                | inr new ↦ inr (front ∙ ap (latest at0) new ∙ (law_right odd).opened)
              ]
        ]

    after_left : said.1 % 2 ≡ 0 → c 1 ≡ held 1 → Says 0 said (held 0) (c 0) → Counts c
    after_left even same says =
        let front : counting c ≡ latest (slot_at 0 (c 0)) at1 = ap (λ (l : List ℕ). latest (slot_at 0 (c 0)) (slot_at 1 l)) same in
        elim says [
          | inl stays ↦ inl (front ∙ ap (λ (s : Slot). latest s at1) stays)
          | inr changed ↦
              elim changed [
                | inl none ↦ inl (front ∙ ap (λ (s : Slot). latest s at1) none ∙ (law_left even).closed)
                | inr new ↦ inr (front ∙ ap (λ (s : Slot). latest s at1) new ∙ (law_left even).opened)
              ]
        ]

    -- an image in which the slot made its step, and the other slot is as it was
    after_step : (d : Files) → d 0 ≡ held 0 → d 1 ≡ held 1 → AtFile (said.1 % 2) (Says (said.1 % 2) said) d c → Counts c
    after_step d first second step = elim (cases_eq (said.1 % 2) 1) [
      | inl odd ↦
          let at = subst (λ (f : ℕ). AtFile f (Says f said) d c) odd step in
          after_right odd (at.others 0 apart01 ∙ first) (subst (λ (l : List ℕ). Says 1 said l (c 1)) second at.here)
      | inr not_odd ↦
          let even : said.1 % 2 ≡ 0 = omega (arith, not_odd) in
          let at = subst (λ (f : ℕ). AtFile f (Says f said) d c) even step in
          after_left even (at.others 1 apart10 ∙ second) (subst (λ (l : List ℕ). Says 0 said l (c 0)) first at.here)
    ]

    is_new : AtFile (said.1 % 2) (λ _ new. slot_at (said.1 % 2) new ≡ Ok (Some said)) held c → counting c ≡ Ok (Some said)
    is_new step = elim (cases_eq (said.1 % 2) 1) [
      | inl odd ↦
          let at = subst (λ (f : ℕ). AtFile f (λ _ new. slot_at f new ≡ Ok (Some said)) held c) odd step in
          ap (λ (l : List ℕ). latest (slot_at 0 l) (slot_at 1 (c 1))) (at.others 0 apart01) ∙ ap (latest at0) at.here ∙ (law_right odd).opened
      | inr not_odd ↦
          let even : said.1 % 2 ≡ 0 = omega (arith, not_odd) in
          let at = subst (λ (f : ℕ). AtFile f (λ _ new. slot_at f new ≡ Ok (Some said)) held c) even step in
          ap (λ (l : List ℕ). latest (slot_at 0 (c 0)) (slot_at 1 l)) (at.others 1 apart10) ∙ ap (λ (s : Slot). latest s at1) at.here ∙ (law_left even).opened
    ]

module _ (held : Files) (s : Snapshot) (generation : ℕ) (fits : CanStand s generation) (next : IsNext (counting held) generation) where
  abbrev bytes : List ℕ
  bytes = slot_bytes s generation

  says : (file : ℕ) → file ≡ generation % 2 → (old new : List ℕ) → SlotStep file bytes old new → Says file (s, generation) old new
  says file own old new (inl (inl stays)) = inl stays
  says file own old new (inl (inr none)) = inr (inl none)
  says file own old new (inr opened) = inr (inr (slot_again file generation s new fits own opened))

  -- in an image that the slot's step leaves, the old snapshot counts or the new one
  pub old_or_new : (images : Files → Type 0) → SlotsSettle held images → (c d : Files) → images d → AtFile (generation % 2) (SlotStep (generation % 2) bytes) d c → (counting c ≡ counting held) ⊎ (counting c ≡ Ok (Some (s, generation)))
  old_or_new images settle c d now step =
      after_step held (s, generation) next c d (settle.0 d now) (settle.1 d now) (record { here = says (generation % 2) refl (d (generation % 2)) (c (generation % 2)) step.here; others = step.others })

  pub new_counts : (c : Files) → AtFile (generation % 2) (λ _ new. IsOpened [] bytes new) held c → counting c ≡ Ok (Some (s, generation))
  new_counts c step =
      is_new held (s, generation) next c (record { here = slot_again (generation % 2) generation s (c (generation % 2)) fits refl step.here; others = step.others })

-- a generation that is the next one is not 0
next_first : (s : Slot) (generation : ℕ) → IsNext s generation → 1 ≤ generation
next_first (Err file) generation next = absurd next
next_first (Ok None) generation next = omega (arith, next)
next_first (Ok (Some x)) generation next = omega (arith, next)

pub can_stand : (held : Files) (s : Snapshot) (generation : ℕ) → IsSnapshot s → length (snapshot_bytes s) ≤ most_body → generation ≤ most_number → IsNext (counting held) generation → CanStand s generation
can_stand held s generation grammar body most next = record { grammar = grammar; body = body; first = next_first (counting held) generation next; most = most }
