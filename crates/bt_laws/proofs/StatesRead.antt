-- Entries that are read from a segment can be written, and are not more than its bytes.
use Rattle.std.proofs.Common.{◌≡◌, ◌<◌, ◌≤◌, ◌+◌, ◌==◌, ℕ, zero, suc, Bool, true, false, cond, List, [], ◌∷◌, ◌++◌, length, Option, None, Some, Result, Ok, Err, refl, ap, subst, arith, length-append}
use Rattle.std.specs.List.{AllByRecursion}
use Rattle.bt_entry.specs.declared.numbered.Numbered.{Numbered}
use Rattle.bt_entry.specs.Grammar.{IsSpellableNumbered}
use Rattle.bt_codec.specs.Reading.{placed}
use Rattle.bt_entry.specs.Reading.{batch_at, batch_in}
use Rattle.bt_entry.proofs.Batches.{batch_takes}
use Rattle.bt_codec.proofs.Codecs.{IsBytes}
use Rattle.bt_log.specs.Segment as log
use Rattle.bt_log.proofs.Bodies.{body_takes}
use Rattle.bt_log.proofs.Sizes.{entries_few}
use Rattle.bt_laws.specs.Disks.{AreBytes}

bytes_of : (bytes : List ℕ) → AreBytes bytes → IsBytes bytes
bytes_of [] are i = omega arith
bytes_of (b ∷ bytes) are zero = are.0
bytes_of (b ∷ bytes) are (suc i) = bytes_of bytes are.1 i

parts : {X : Type 0} (P : X → Type 0) (xs ys : List X) → AllByRecursion P (xs ++ ys) → AllByRecursion P xs × AllByRecursion P ys
parts P [] ys all = (tt, all)
parts P (x ∷ xs) ys all = let rest = parts P xs ys all.1 in ((all.0, rest.0), rest.1)

both : {X : Type 0} (P : X → Type 0) (xs ys : List X) → AllByRecursion P xs → AllByRecursion P ys → AllByRecursion P (xs ++ ys)
both P [] ys first second = second
both P (x ∷ xs) ys first second = (first.0, both P xs ys first.1 second)

-- ---- a batch

abbrev done : List Numbered → Result (List Numbered) ℕ
done ns = Ok ns

done_is : (a b : List Numbered) → done a ≡ done b → a ≡ b
done_is a b e = cc

placed_ok : (bytes : List ℕ) (r : Result (List Numbered) ℕ) (ns : List Numbered) → placed bytes r ≡ done ns → r ≡ done ns
placed_ok bytes (Ok x) ns e = e
placed_ok bytes (Err at) ns e = absurd cc

batch_read : (first : ℕ) (bytes : List ℕ) (ns : List Numbered) → AreBytes bytes → batch_in first bytes ≡ done ns → AllByRecursion IsSpellableNumbered ns × (length ns ≤ length bytes)
batch_read first bytes ns are e =
    let takes = batch_takes first bytes ns (bytes_of bytes are) (placed_ok bytes (batch_at first bytes) ns e) in
    let few = entries_few ns in
    let same = ap length takes.2 in
    (takes.0.2, omega (arith, few, same))

-- ---- a record

abbrev Batch : Type 0
Batch = List Numbered × List ℕ

abbrev found : Batch → log.Record
found x = Ok (Some x)

found_is : (x y : Batch) → found x ≡ found y → x ≡ y
found_is x y e = cc

-- what was read of bytes, and what is left of them
abbrev WasRead : List ℕ → Batch → Type 0
WasRead bytes x = AllByRecursion IsSpellableNumbered x.0 × AreBytes x.1 × (length x.0 + length x.1 ≤ length bytes)

module _ (first left : ℕ) (rest : List ℕ) (are : AreBytes rest) (x : Batch) where
  spelled_by : (y : List ℕ × List ℕ) (r : Result (List Numbered) ℕ) → log.body_at rest ≡ Some y → batch_in first y.0 ≡ r → log.spelled left y.1 r ≡ found x → WasRead rest x
  spelled_by y (Ok batch) body is e =
      let takes = body_takes rest y body in
      let split = parts (λ b. b < 256) takes.size (y.0 ++ y.1) (subst AreBytes takes.is are) in
      let two = parts (λ b. b < 256) y.0 y.1 split.1 in
      let own = batch_read first y.0 batch two.0 is in
      let few = own.1 in
      let size = ap length takes.is in
      let long = length-append takes.size (y.0 ++ y.1) in
      let longer = length-append y.0 y.1 in
      subst (WasRead rest) (found_is (batch, y.1) x e) (own.0, two.1, omega (arith, few, size, long, longer))
  spelled_by y (Err at) body is e = absurd cc

  opened_by : (o : Option (List ℕ × List ℕ)) → log.body_at rest ≡ o → log.opened_at first left o ≡ found x → WasRead rest x
  opened_by None body e = absurd cc
  opened_by (Some y) body e = spelled_by y (batch_in first y.0) body refl e

  gate_by : (b : Bool) → cond b (log.opened_at first left (log.body_at rest)) (Ok None) ≡ found x → WasRead rest x
  gate_by true e = opened_by (log.body_at rest) refl e
  gate_by false e = absurd cc

record_read : (first : ℕ) (bytes : List ℕ) (x : Batch) → AreBytes bytes → log.record_at first bytes ≡ found x → WasRead bytes x
record_read first [] x are e = absurd cc
record_read first (gate ∷ rest) x are e =
    let read = gate_by first (suc (length rest)) rest are.1 x (gate == 1) e in
    let few = read.2 in
    (read.0, read.1, omega (arith, few))

-- ---- records

abbrev Entries : Type 0
Entries = List Numbered × ℕ

abbrev ends : Entries → log.Records
ends x = Ok x

ends_is : (x y : Entries) → ends x ≡ ends y → x ≡ y
ends_is x y e = cc

abbrev AreRead : List ℕ → Entries → Type 0
AreRead bytes x = AllByRecursion IsSpellableNumbered x.0 × (length x.0 ≤ length bytes)

module _ (bytes : List ℕ) (x : Entries) where
  behind_by : (y : Batch) (r : log.Records) → WasRead bytes y → ((z : Entries) → r ≡ ends z → AreRead y.1 z) → log.behind y.0 r ≡ ends x → AreRead bytes x
  behind_by y (Ok z) own rest e =
      let later = rest z refl in
      let few = own.2 in
      let fewer = later.1 in
      let long = length-append y.0 z.0 in
      subst (AreRead bytes) (ends_is (y.0 ++ z.0, z.1) x e) (both IsSpellableNumbered y.0 z.0 own.0 later.0, omega (arith, few, fewer, long))
  behind_by y (Err at) own rest e = absurd cc

  follow_by : (first : ℕ) (read : ℕ → List ℕ → log.Records) (r : log.Record) → AreBytes bytes → log.record_at first bytes ≡ r
      → ((k : ℕ) (left : List ℕ) (z : Entries) → AreBytes left → read k left ≡ ends z → AreRead left z) → log.follow first (length bytes) r read ≡ ends x → AreRead bytes x
  follow_by first read (Err at) are is again e = absurd cc
  follow_by first read (Ok None) are is again e = subst (AreRead bytes) (ends_is ([], length bytes) x e) (tt, omega arith)
  follow_by first read (Ok (Some y)) are is again e =
      let own = record_read first bytes y are is in
      behind_by y (read (first + length y.0) y.1) own (λ z same. again (first + length y.0) y.1 z own.1 same) e

records_read : (n first : ℕ) (bytes : List ℕ) (x : Entries) → AreBytes bytes → log.records_at n first bytes ≡ ends x → AreRead bytes x
records_read zero first bytes x are e = absurd cc
records_read (suc n) first bytes x are e = follow_by bytes x first (log.records_at n) (log.record_at first bytes) are refl (records_read n) e

entries_by : (bytes : List ℕ) (r : log.Records) (entries : List Numbered) → ((x : Entries) → r ≡ ends x → AreRead bytes x) → log.entries_of (log.placed bytes r) ≡ done entries → AllByRecursion IsSpellableNumbered entries × (length entries ≤ length bytes)
entries_by bytes (Ok x) entries read e = subst (λ ns. AllByRecursion IsSpellableNumbered ns × (length ns ≤ length bytes)) (done_is x.0 entries e) (read x refl)
entries_by bytes (Err at) entries read e = absurd cc

pub segment_read : (first : ℕ) (bytes : List ℕ) (entries : List Numbered) → AreBytes bytes → log.segment first bytes ≡ Ok entries → AllByRecursion IsSpellableNumbered entries × (length entries ≤ length bytes)
segment_read first bytes entries are e =
    entries_by bytes (log.records_at (suc (length bytes)) first bytes) entries (λ x. records_read (suc (length bytes)) first bytes x are) e
