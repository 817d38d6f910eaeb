-- What slots read as.
use Rattle.std.proofs.Common.{◌≡◌, ◌≢◌, ◌<◌, ◌≤◌, inl, inr, ℕ, ◌%◌, ◌^◌, Bool, true, false, ◌&&◌, cond, eqb, List, [], ◌∷◌, ◌++◌, length, None, Some, Result, Ok, Err, refl, sym, ◌∙◌, ap, subst, arith, append_assoc, length-append}
use Rattle.std.specs.Prelude.{nat_le, slice_range, slice_index_or}
use Rattle.std.proofs.lemmas.Bool.{cases_eq, eqb-true, eq-eqb, le-leb}
use Rattle.std.proofs.lemmas.Bool.Decides.{nat_tests}
use Rattle.std.specs.Int.{w32}
use Rattle.bt_codec.specs.Spelling.{text}
use Rattle.bt_codec.specs.Reading.{◌>>=◌, text_at}
use Rattle.bt_codec.proofs.Codecs.{done, bind_ok, ok_is, passed, wide32, text_again}
use Rattle.bt_outside.specs.Disk.{Torn}
use Rattle.bt_gate.specs.Gate.{Gated, IsOpened}
use Rattle.bt_manifest.specs.declared.snapshot.Snapshot.{Snapshot}
use Rattle.bt_manifest.specs.Grammar.{most_number, most_body}
use Rattle.bt_manifest.specs.Spelling.{number, snapshot_bytes}
use Rattle.bt_manifest.specs.Reading.{bounded_at, snapshot_in}
use Rattle.bt_manifest.specs.Slots.{Generation, Slot, generation_at, opened_at, said_by, slot_at, CanStand, slot_bytes}
use Rattle.bt_manifest.specs.Publishing.{SameOrClosed, SlotStep, HasGate, CanClose}
use Rattle.bt_manifest.proofs.Codecs.{bounded_codec}
use Rattle.bt_manifest.proofs.Snapshots.{snapshot_again}

-- ---- closed slots

pub shut_slot : (file gate : ℕ) (rest : List ℕ) → gate ≢ 1 → slot_at file (gate ∷ rest) ≡ Ok None
shut_slot file gate rest shut = grind (arith, nat_tests)

pub short_slot : (file : ℕ) (bytes : List ℕ) → length bytes ≤ 12 → slot_at file bytes ≡ Ok None
short_slot file [] short = refl
short_slot file (gate ∷ rest) short = grind (arith, nat_tests)

-- ---- opened slots

pub open_slot : (file : ℕ) (rest : List ℕ) → 12 ≤ length rest → slot_at file (1 ∷ rest) ≡ said_by file (opened_at file rest)
open_slot file rest long = rw (le-leb 12 (length rest) long) refl

generation_again : (file generation : ℕ) (rest : List ℕ) → 1 ≤ generation → generation ≤ most_number → file ≡ generation % 2 → generation_at file (number generation ++ rest) ≡ Ok (generation, rest)
unfolding generation_at
generation_again file generation rest first most own =
    let same : eqb (generation % 2) file ≡ true = eq-eqb (generation % 2) file (sym own) in
    rw ((bounded_codec 1 most_number (omega arith)).again generation rest (first, most), same) refl

opened_again : (file generation : ℕ) (s : Snapshot) (tail : List ℕ) → CanStand s generation → file ≡ generation % 2 → opened_at file (slot_bytes s generation ++ tail) ≡ Ok (s, generation)
unfolding opened_at
opened_again file generation s tail fits own =
    let body = snapshot_bytes s in
    let parts : slot_bytes s generation ++ tail ≡ number generation ++ (text w32 body ++ tail) = append_assoc (number generation) (text w32 body) tail in
    ap (opened_at file) parts ∙ rw (generation_again file generation (text w32 body ++ tail) fits.first fits.most own, text_again w32 (2 ^ 32) wide32 0 most_body (omega arith) body tail (omega arith) fits.body, snapshot_again s fits.grammar) refl

-- a slot that is written is read
pub slot_again : (file generation : ℕ) (s : Snapshot) (bytes : List ℕ) → CanStand s generation → file ≡ generation % 2 → IsOpened [] (slot_bytes s generation) bytes → slot_at file bytes ≡ Ok (Some (s, generation))
slot_again file generation s bytes fits own opened =
    let body = snapshot_bytes s in
    let tail = opened.0 in
    let long : 12 ≤ length (slot_bytes s generation ++ tail) = omega (arith, length-append (slot_bytes s generation) tail, length-append (number generation) (text w32 body)) in
    ap (slot_at file) opened.1 ∙ open_slot file (slot_bytes s generation ++ tail) long ∙ ap (said_by file) (opened_again file generation s tail fits own)

-- ---- what a crash leaves

-- of a slot that is written
pub gated_slot : (file : ℕ) (bytes old new : List ℕ) → Gated [] bytes old new → SlotStep file bytes old new
gated_slot file bytes old new (inl closed) = inl (inr (ap (slot_at file) closed.is ∙ shut_slot file closed.gate closed.rest closed.shut))
gated_slot file bytes old new (inr whole) = elim (cases_eq whole.gate 1) [
  | inl open_gate ↦ inr (whole.rest, whole.is ∙ ap (λ (g : ℕ). g ∷ (bytes ++ whole.rest)) open_gate)
  | inr shut ↦ inl (inr (ap (slot_at file) whole.is ∙ shut_slot file whole.gate (bytes ++ whole.rest) shut))
]

-- of the first byte of an opened slot
torn_open : (file : ℕ) (rest new : List ℕ) → Torn 0 1 (1 ∷ rest) new → SameOrClosed file (1 ∷ rest) new
torn_open file rest [] torn = inr refl
torn_open file rest (gate ∷ others) torn = elim (cases_eq gate 1) [
  | inl is ↦ inl (ap (slot_at file) (ap (λ (g : ℕ). g ∷ others) is ∙ ap (λ (l : List ℕ). 1 ∷ l) torn.after))
  | inr shut ↦ inr (shut_slot file gate others shut)
]

-- of the first byte of a file
torn_none : (file : ℕ) (new : List ℕ) → Torn 0 1 [] new → SameOrClosed file [] new
torn_none file new torn = inr (short_slot file new (omega (arith, torn.no_longer)))

pub torn_slot : (file : ℕ) (old new : List ℕ) → CanClose old → Torn 0 1 old new → SameOrClosed file old new
torn_slot file old new (inl none) torn = subst (λ (l : List ℕ). SameOrClosed file l new) (sym none) (torn_none file new (subst (λ (l : List ℕ). Torn 0 1 l new) none torn))
torn_slot file old new (inr some) torn = subst (λ (l : List ℕ). SameOrClosed file l new) (sym some.1) (torn_open file some.0 new (subst (λ (l : List ℕ). Torn 0 1 l new) some.1 torn))

-- ---- which file a generation stands in

own_of : (file : ℕ) (bytes : List ℕ) (g : ℕ × List ℕ) → generation_at file bytes ≡ Ok g → g.0 % 2 ≡ file
unfolding generation_at
own_of file bytes g e =
    let a = bind_ok (bounded_at 1 most_number bytes) (λ n. cond (eqb (n.0 % 2) file) (Ok n) (Err (length bytes))) g e in
    let h = passed (eqb (a.0.0 % 2) file) (length bytes) a.0 g a.2 in
    subst (λ (n : ℕ × List ℕ). n.0 % 2 ≡ file) h.1 (eqb-true _ _ h.0)

abbrev made : Snapshot → ℕ → Generation
made s n = (s, n)

second : (x y : Generation) → done x ≡ done y → x.1 ≡ y.1
second x y e = ap (λ (p : Generation). p.1) (ok_is x y e)

own_opened : (file : ℕ) (bytes : List ℕ) (x : Generation) → opened_at file bytes ≡ Ok x → x.1 % 2 ≡ file
unfolding opened_at
own_opened file bytes x e =
    let a = bind_ok (generation_at file bytes) (λ g. text_at w32 0 most_body g.1 >>= λ b. snapshot_in b.0 >>= λ s. Ok (made s g.0)) x e in
    let b = bind_ok (text_at w32 0 most_body a.0.1) (λ b. snapshot_in b.0 >>= λ s. Ok (made s a.0.0)) x a.2 in
    let c = bind_ok (snapshot_in b.0.0) (λ s. Ok (made s a.0.0)) x b.2 in
    subst (λ (n : ℕ). n % 2 ≡ file) (second (made c.0 a.0.0) x c.2) (own_of file bytes a.0 a.1)

said_ok : (file : ℕ) (o : Result Generation ℕ) (x : Generation) → said_by file o ≡ Ok (Some x) → o ≡ Ok x
said_ok file (Ok y) x e = cc
said_ok file (Err left) x e = absurd cc

chosen : (b : Bool) (s : Slot) (x : Generation) → cond b s (Ok None) ≡ Ok (Some x) → s ≡ Ok (Some x)
chosen true s x e = e
chosen false s x e = absurd cc

pub parity : (file : ℕ) (bytes : List ℕ) (x : Generation) → slot_at file bytes ≡ Ok (Some x) → x.1 % 2 ≡ file
parity file [] x is = absurd cc
parity file (gate ∷ rest) x is = own_opened file rest x (said_ok file (opened_at file rest) x (chosen (eqb gate 1 && nat_le 12 (length rest)) (said_by file (opened_at file rest)) x is))

-- ---- the gate that was read

pub first_byte : (bytes into : List ℕ) → 0 < length bytes → into ≡ slice_range bytes 0 1 → HasGate (Some (slice_index_or into 0 0)) bytes
first_byte [] into some is = absurd (omega (arith, some))
first_byte (b ∷ rest) into some is = (rest, ap (λ (x : ℕ). x ∷ rest) (sym (ap (λ (l : List ℕ). slice_index_or l 0 0) is)))
