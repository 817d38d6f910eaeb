-- The floor that a manifest says is a moment.
use Rattle.std.proofs.Common.{◌≡◌, ◌≤◌, ℕ, Bool, true, false, ◌&&◌, ◌==◌, cond, List, [], ◌∷◌, length, None, Some, Result, Ok, Err, refl, subst}
use Rattle.std.specs.Prelude.{nat_le, nat_lt}
use Rattle.std.specs.Int.{w32, w64}
use Rattle.std.proofs.lemmas.Bool.{and_parts, leb-true}
use Rattle.bt_outside.specs.Disk.{Files}
use Rattle.bt_codec.specs.Reading.{◌>>=◌, text_at}
use Rattle.bt_codec.proofs.Codecs.{lies, ok_is, passed, test_passed}
use Rattle.bt_entry.specs.Grammar.{last_moment}
use Rattle.bt_manifest.specs.declared.snapshot.Snapshot.{Snapshot}
use Rattle.bt_manifest.specs.Grammar.{most_body, most_number}
use Rattle.bt_manifest.specs.Reading.{bounded_at, list_at, segments_at, snapshot_in, tables_at}
use Rattle.bt_manifest.specs.Slots.{Generation, Slot, counting, generation_at, latest, opened_at, said_by, slot_at}

abbrev Held : Snapshot → Type 0
Held s = s.floor ≤ last_moment

abbrev HeldBy : Generation → Type 0
HeldBy x = Held x.0

-- a number that is read lies within its bounds
bounded_within : (least most : ℕ) (bytes : List ℕ) (x : ℕ × List ℕ) → bounded_at least most bytes ≡ Ok x → x.0 ≤ most
bounded_within least most bytes x e =
    let o = and_parts (nat_le least x.0) (nat_le x.0 most) (test_passed w64 (lies least most) bytes x e) in
    leb-true x.0 most o.1

-- a step of reading that did not fail
holds : {A B : Type 0} (P : B → Type 0) (r : Result A ℕ) (f : A → Result B ℕ) (y : B) → (r >>= f) ≡ Ok y → ((x : A) → r ≡ Ok x → f x ≡ Ok y → P y) → P y
holds P (Ok x) f y e rest = rest x refl e
holds P (Err left) f y e rest = absurd cc

whole : (b : Bool) (left : ℕ) (x s : Snapshot) → cond b (Ok x) (Err left) ≡ Ok s → Held x → Held s
whole b left x s e held = subst Held (passed b left x s e).1 held

-- a snapshot that is read has a moment as its floor
snapshot_held : (bytes : List ℕ) (s : Snapshot) → snapshot_in bytes ≡ Ok s → Held s
unfolding snapshot_in
snapshot_held bytes s e =
    holds Held (bounded_at 0 most_number bytes) _ s e (λ n read e.
    holds Held (bounded_at 0 last_moment n.1) _ s e (λ f floor e.
    holds Held (bounded_at 0 most_number f.1) _ s e (λ b read e.
    holds Held (list_at segments_at b.1) _ s e (λ ss read e.
    holds Held (list_at tables_at ss.1) _ s e (λ ts read e.
    holds Held (text_at w32 0 4294967295 ts.1) _ s e (λ t read e. whole (length t.1 == 0) (length t.1) _ s e (bounded_within 0 last_moment n.1 f floor)))))))

opened_held : (file : ℕ) (bytes : List ℕ) (x : Generation) → opened_at file bytes ≡ Ok x → Held x.0
unfolding opened_at
opened_held file bytes x e =
    holds HeldBy (generation_at file bytes) _ x e (λ g read e.
    holds HeldBy (text_at w32 0 most_body g.1) _ x e (λ b read e.
    holds HeldBy (snapshot_in b.0) _ x e (λ s read e. subst HeldBy (ok_is (s, g.0) x e) (snapshot_held b.0 s read))))

said_ok : (file : ℕ) (o : Result Generation ℕ) (x : Generation) → said_by file o ≡ Ok (Some x) → o ≡ Ok x
said_ok file (Ok y) x e = cc
said_ok file (Err left) x e = absurd cc

chosen : (b : Bool) (s : Slot) (x : Generation) → cond b s (Ok None) ≡ Ok (Some x) → s ≡ Ok (Some x)
chosen true s x e = e
chosen false s x e = absurd cc

slot_held : (file : ℕ) (bytes : List ℕ) (x : Generation) → slot_at file bytes ≡ Ok (Some x) → Held x.0
slot_held file [] x e = absurd cc
slot_held file (gate ∷ rest) x e =
    opened_held file rest x (said_ok file (opened_at file rest) x (chosen (gate == 1 && nat_le 12 (length rest)) (said_by file (opened_at file rest)) x e))

abbrev AreHeld : Slot → Type 0
AreHeld slot = (x : Generation) → slot ≡ Ok (Some x) → Held x.0

greater_by : (b : Bool) (x y : Generation) → AreHeld (Ok (Some x)) → AreHeld (Ok (Some y)) → AreHeld (cond b (Ok (Some y)) (Ok (Some x)))
greater_by true x y first second = second
greater_by false x y first second = first

latest_held : (a b : Slot) → AreHeld a → AreHeld b → AreHeld (latest a b)
latest_held (Err file) b first second = λ x e. absurd (cc e)
latest_held (Ok a) (Err file) first second = λ x e. absurd (cc e)
latest_held (Ok None) (Ok b) first second = second
latest_held (Ok (Some a)) (Ok None) first second = first
latest_held (Ok (Some a)) (Ok (Some b)) first second = greater_by (nat_lt a.1 b.1) a b first second

-- so does the one that counts
pub floor_held : (c : Files) (x : Generation) → counting c ≡ Ok (Some x) → x.0.floor ≤ last_moment
floor_held c x e = latest_held (slot_at 0 (c 0)) (slot_at 1 (c 1)) (slot_held 0 (c 0)) (slot_held 1 (c 1)) x e
