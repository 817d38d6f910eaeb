-- What the images of a disk hold, over which a store stands.
use Rattle.std.proofs.Common.{◌≡◌, ◌≢◌, ◌≤◌, ℕ, ◌+◌, ◌==◌, Bool, true, false, ◌&&◌, cond, bytes_eq, List, [], ◌∷◌, Option, None, Some, Ok, Err, refl, ◌∙◌, ap, subst, arith}
use Rattle.std.specs.Prelude.{nat_le, nat_lt}
use Rattle.std.proofs.lemmas.Bool.{and_parts, leb-true, eqb-true}
use Rattle.bt_outside.specs.Disk.{Alike, Files}
use Rattle.bt_entry.specs.declared.numbered.Numbered.{Numbered}
use Rattle.bt_log.specs.Segment.{segment, entries_of}
use Rattle.bt_manifest.specs.declared.snapshot.Segment.{Segment}
use Rattle.bt_manifest.specs.declared.snapshot.Snapshot.{Snapshot}
use Rattle.bt_manifest.specs.Slots.{Slot, slot_at, latest, counting}
use Rattle.bt_state.specs.State.{State}
use Rattle.bt_store.specs.Held.{no_tables, only_segment, has_no_files, segment_of, base_state, follow, or_place, after_segment, after_snapshot, state_of, disk_state, HoldsState}
use Rattle.bt_store.specs.Stands.{Seen, Stands}

-- what counts is read off the slots alone
pub slots_same : (d c : Files) → c 0 ≡ d 0 → c 1 ≡ d 1 → counting c ≡ counting d
slots_same d c zeroth first = ap (λ (l : List ℕ). latest (slot_at 0 l) (slot_at 1 (c 1))) zeroth ∙ ap (λ (l : List ℕ). latest (slot_at 0 (d 0)) (slot_at 1 l)) first

after_same : (d c : Files) → Alike d c → (s : Snapshot) (generation : ℕ) (log : Option ℕ) → after_snapshot c s generation log ≡ after_snapshot d s generation log
after_same d c alike s generation None = refl
after_same d c alike s generation (Some file) = ap (λ (l : List ℕ). after_segment file (base_state s) (segment (s.base + 1) l)) (alike file)

state_same : (d c : Files) → Alike d c → (slot : Slot) → state_of c slot ≡ state_of d slot
state_same d c alike (Err file) = refl
state_same d c alike (Ok None) = refl
state_same d c alike (Ok (Some x)) = after_same d c alike x.0 x.1 (segment_of x.0)

-- files that are no others stand for the same
pub alike_same : (d c : Files) → Alike d c → disk_state c ≡ disk_state d
alike_same d c alike = ap (state_of c) (slots_same d c (alike 0) (alike 1)) ∙ state_same d c alike (counting d)

-- a disk whose manifest names a log, and the log leads to the state
pub holds : (c : Files) (snapshot : Snapshot) (generation file : ℕ) (entries : List Numbered) (s : State) → counting c ≡ Ok (Some (snapshot, generation)) → segment_of snapshot ≡ Some file → segment (snapshot.base + 1) (c file) ≡ Ok entries
    → follow (base_state snapshot) entries ≡ Some s → HoldsState s c
holds c snapshot generation file entries s counts names reads leads =
    ap (state_of c) counts ∙ ap (after_snapshot c snapshot generation) names ∙ ap (after_segment file (base_state snapshot)) reads ∙ ap (or_place (file, 0)) leads

some_is : (m n : ℕ) → (let x : Option ℕ = Some m in x) ≡ Some n → m ≡ n
some_is m n e = cc

tested : (b : Bool) (o : Option ℕ) (file : ℕ) → cond b o None ≡ Some file → (b ≡ true) × (o ≡ Some file)
tested true o file e = (refl, e)
tested false o file e = absurd cc

only_above : (next : ℕ) (segments : List Segment) (file : ℕ) → only_segment next segments ≡ Some file → 2 ≤ file
only_above next [] file e = absurd cc
only_above next (s ∷ []) file e =
    let t = tested (s.first == 1 && nat_le 2 s.file && nat_lt s.file next) (Some s.file) file e in
    let both = and_parts (s.first == 1 && nat_le 2 s.file) (nat_lt s.file next) t.0 in
    let low = and_parts (s.first == 1) (nat_le 2 s.file) both.0 in
    subst (λ (n : ℕ). 2 ≤ n) (some_is s.file file t.1) (leb-true 2 s.file low.1)
only_above next (s ∷ t ∷ more) file e = absurd cc

-- the log that a snapshot names is no slot, and holds every entry
pub named : (s : Snapshot) (file : ℕ) → segment_of s ≡ Some file → (2 ≤ file) × (s.base ≡ 0)
named s file e =
    let t = tested (s.base == 0 && has_no_files s.tables && bytes_eq s.schema no_tables) (only_segment s.next_file s.segments) file e in
    let both = and_parts (s.base == 0 && has_no_files s.tables) (bytes_eq s.schema no_tables) t.0 in
    let low = and_parts (s.base == 0) (has_no_files s.tables) both.0 in
    (only_above s.next_file s.segments file t.1, eqb-true s.base 0 low.0)

module _ (store : Seen) (s : State) (held : Files) (images : Files → Type 0) (is : Stands store s held images) where
  pub reads_log : segment (is.snapshot.base + 1) (held store.log.file) ≡ Ok is.entries
  reads_log = ap entries_of is.is_open.reads

  -- an image with the slots as they read and a log of the same entries
  pub holds_same : (c : Files) → c 0 ≡ held 0 → c 1 ≡ held 1 → segment (is.snapshot.base + 1) (c store.log.file) ≡ Ok is.entries → HoldsState s c
  holds_same c zeroth first reads = holds c is.snapshot is.generation store.log.file is.entries s (slots_same held c zeroth first ∙ is.counts) is.names reads is.leads

  -- every image holds the state
  pub stands_hold : (c : Files) → images c → HoldsState s c
  stands_hold c left = holds_same c (is.slots.0 c left) (is.slots.1 c left) (ap (segment (is.snapshot.base + 1)) (is.is_open.settled c left) ∙ reads_log)

  pub zeroth_apart : ◌≢◌ {A = ℕ} 0 store.log.file
  zeroth_apart e = absurd (omega (arith, e, (named is.snapshot store.log.file is.names).0))

  pub first_apart : ◌≢◌ {A = ℕ} 1 store.log.file
  first_apart e = absurd (omega (arith, e, (named is.snapshot store.log.file is.names).0))
