-- What files stand for is valid.
use Rattle.std.proofs.Common.{◌≡◌, ◌<◌, ◌≤◌, ◌+◌, ◌==◌, ◌&&◌, ℕ, Bool, true, false, cond, List, [], ◌∷◌, length, Option, None, Some, Result, Ok, Err, refl, subst, arith}
use Rattle.std.specs.Prelude.{nat_le, bytes_eq}
use Rattle.std.specs.List.{AllByRecursion}
use Rattle.std.specs.List.Sorted.{IsStrictlySortedBy}
use Rattle.std.proofs.lemmas.Bool.{and_parts, leb-true, eqb-true}
use Rattle.std.proofs.lemmas.List.Elements.{All-nil}
use Rattle.bt_outside.specs.Disk.{Files}
use Rattle.bt_entry.specs.declared.numbered.Numbered.{Numbered}
use Rattle.bt_entry.specs.Grammar.{IsSpellableNumbered, last_moment}
use Rattle.bt_contents.specs.Contents.{Contents}
use Rattle.bt_log.specs.Segment.{segment}
use Rattle.bt_manifest.specs.declared.snapshot.Snapshot.{Snapshot}
use Rattle.bt_manifest.specs.Slots.{Slot, counting}
use Rattle.bt_state.specs.State.{IsLawful, State, after, empty_state, event_of, greatest_sequence, is_allowed}
use Rattle.bt_store.specs.Held.{Place, after_segment, after_snapshot, base_state, follow, has_no_files, may_come, no_tables, only_segment, or_place, segment_of, state_of}
use Rattle.bt_laws.specs.Disks.{AreFilesOfBytes, HeldValid}
use Rattle.bt_laws.specs.States.{IsValid}
use Rattle.bt_laws.proofs.StatesAfter.{empty_valid, valid_after}
use Rattle.bt_laws.proofs.StatesRead.{segment_read}
use Rattle.bt_laws.proofs.StatesRows.{no_rows}
use Rattle.bt_laws.proofs.StatesSlots.{floor_held}

abbrev found : State → Option State
found s = Some s

found_is : (s t : State) → found s ≡ found t → s ≡ t
found_is s t e = cc

taken : (b : Bool) (o : Option State) (t : State) → cond b o None ≡ found t → (b ≡ true) × (o ≡ found t)
taken true o t e = (refl, e)
taken false o t e = absurd cc

-- entries that are followed lead from a valid state to a valid one
follow_valid : (s : State) (ns : List Numbered) (t : State) → IsValid s → AllByRecursion IsSpellableNumbered ns → s.present.last + length ns ≤ greatest_sequence → follow s ns ≡ found t → IsValid t
follow_valid s [] t valid all room e = subst IsValid (found_is s t e) valid
follow_valid s (n ∷ ns) t valid all room e =
    let step = taken (may_come s.present (event_of n)) (follow (after s (event_of n)) ns) t e in
    let two = and_parts (nat_le s.present.floor n.moment) (is_allowed n.entry s.present) step.0 in
    let lawful : IsLawful s.present (event_of n) = record { spellable = all.0.1; not_past = all.0.0; not_before = leb-true s.present.floor n.moment two.0; allowed = two.1 } in
    follow_valid (after s (event_of n)) ns t (valid_after s (event_of n) valid lawful (omega (arith, room))) all.1 (omega (arith, room)) step.1

base_valid : (x : Snapshot) → x.base ≡ 0 → x.floor ≤ last_moment → IsValid (base_state x)
unfolding IsStrictlySortedBy
base_valid x base floor = record {
  numbered = (omega arith, tt);
  timed = tt;
  past = tt;
  spellable = tt;
  sorted = tt;
  apart = tt;
  few = omega arith;
  tables = tt;
  ordered = tt;
  filled = All-nil (λ (rows : Contents). 0 < length rows);
  owned = λ n none. refl;
  rows = λ n. no_rows [];
  lost = tt;
  floor = floor;
  within = omega (arith, base);
}

-- a segment that is named holds every entry
whole_by : (b : Bool) (o : Option ℕ) (file : ℕ) → cond b o None ≡ Some file → b ≡ true
whole_by true o file e = refl
whole_by false o file e = absurd cc

no_base : (x : Snapshot) (file : ℕ) → segment_of x ≡ Some file → x.base ≡ 0
no_base x file e =
    let whole = whole_by (x.base == 0 && has_no_files x.tables && bytes_eq x.schema no_tables) (only_segment x.next_file x.segments) file e in
    let two = and_parts (x.base == 0 && has_no_files x.tables) (bytes_eq x.schema no_tables) whole in
    eqb-true x.base 0 (and_parts (x.base == 0) (has_no_files x.tables) two.0).0

abbrev stood : State → Result State Place
stood s = Ok s

stood_is : (s t : State) → stood s ≡ stood t → s ≡ t
stood_is s t e = cc

module _ (c : Files) (files : AreFilesOfBytes c) (s : State) where
  module _ (x : Snapshot) (floor : x.floor ≤ last_moment) where
    placed_by : (file : ℕ) (entries : List Numbered) (o : Option State) → follow (base_state x) entries ≡ o → ((t : State) → o ≡ found t → IsValid t) → or_place (file, 0) o ≡ stood s → IsValid s
    placed_by file entries None is valid e = absurd cc
    placed_by file entries (Some t) is valid e = subst IsValid (stood_is t s e) (valid t refl)

    entries_by : (file : ℕ) (r : Result (List Numbered) ℕ) → x.base ≡ 0 → segment (x.base + 1) (c file) ≡ r → after_segment file (base_state x) r ≡ stood s → IsValid s
    entries_by file (Err at) base is e = absurd cc
    entries_by file (Ok entries) base is e =
        let read = segment_read (x.base + 1) (c file) entries (files file).0 is in
        let few = read.1 in
        let size = (files file).1 in
        placed_by file entries (follow (base_state x) entries) refl (λ t. follow_valid (base_state x) entries t (base_valid x base floor) read.0 (omega (arith, base, few, size))) e

    segment_by : (generation : ℕ) (o : Option ℕ) → segment_of x ≡ o → after_snapshot c x generation o ≡ stood s → IsValid s
    segment_by generation None is e = absurd cc
    segment_by generation (Some file) is e = entries_by file (segment (x.base + 1) (c file)) (no_base x file is) refl e

  slot_by : (slot : Slot) → counting c ≡ slot → state_of c slot ≡ stood s → IsValid s
  slot_by (Err file) is e = absurd cc
  slot_by (Ok None) is e = subst IsValid (stood_is empty_state s e) empty_valid
  slot_by (Ok (Some x)) is e = segment_by x.0 (floor_held c x is) x.1 (segment_of x.0) refl e

pub held_valid : HeldValid
held_valid s c files holds = slot_by c files s (counting c) refl holds
