-- The two laws of a snapshot: what is read is spelled so, and what is spelled so is read.
use Rattle.std.proofs.Common.{◌≡◌, ℕ, ◌^◌, ◌≤◌, cond, eqb, List, [], ◌++◌, length, Ok, Err, refl, sym, ap, subst, ◌∙◌, append_assoc, arith}
use Rattle.std.specs.Int.{w32}
use Rattle.std.proofs.lemmas.Bool.{eqb-true}
use Rattle.std.proofs.lemmas.List.{append-nil, nil_from_length}
use Rattle.bt_codec.specs.Spelling.{text, list}
use Rattle.bt_codec.specs.Reading.{◌>>=◌, text_at, anywhere}
use Rattle.bt_codec.proofs.Codecs.{IsBytes, bind_ok, ok_is, passed, Takes, Takes-then, IsCodec, wide32, text_codec}
use Rattle.bt_codec.proofs.Items.{each_of, of_each}
use Rattle.bt_manifest.specs.declared.snapshot.Segment.{Segment}
use Rattle.bt_manifest.specs.declared.snapshot.TableFiles.{TableFiles}
use Rattle.bt_manifest.specs.declared.snapshot.Snapshot.{Snapshot}
use Rattle.bt_manifest.specs.Grammar.{most_number, last_moment, IsSegment, AreFiles, next_incarnation, IsTable, AreTables, AreSegments, IsSnapshot}
use Rattle.bt_manifest.specs.Spelling.{number, segment, table, snapshot_bytes}
use Rattle.bt_manifest.specs.Reading.{bounded_at, list_at, file_at, files_at, segment_at, segments_at, table_at, tables_at, snapshot_in}
use Rattle.bt_manifest.proofs.Codecs.{bounded_codec, list_codec}

from_codec : (least : ℕ) → IsCodec (bounded_at least most_number) number (λ n. (least ≤ n) × (n ≤ most_number))
from_codec least = bounded_codec least most_number (omega arith)

any_codec : IsCodec (bounded_at 0 most_number) number (λ n. (0 ≤ n) × (n ≤ most_number))
any_codec = bounded_codec 0 most_number (omega arith)

moment_codec : IsCodec (bounded_at 0 last_moment) number (λ n. (0 ≤ n) × (n ≤ last_moment))
moment_codec = bounded_codec 0 last_moment (omega arith)

schema_codec : IsCodec (text_at w32 0 4294967295) (text w32) (λ t. (0 ≤ length t) × (length t ≤ 4294967295))
schema_codec = text_codec w32 (2 ^ 32) wide32 0 4294967295 (omega arith)

-- ---- numbers of files

file_codec : IsCodec file_at number (λ n. n ≤ most_number)
file_codec = record {
  takes = λ bytes n rest fits e. let t = any_codec.takes bytes n rest fits e in (t.0, t.1.1);
  again = λ n rest h. any_codec.again n rest (omega arith, h);
}

files_codec : IsCodec (list_at files_at) (list w32 number) AreFiles
files_codec =
    let c = list_codec (λ _. file_at) anywhere number (λ _ n. n ≤ most_number) (λ _. file_codec) 0 in
    record {
      takes = λ bytes ns rest fits e. let t = c.takes bytes ns rest fits e in (t.0, (t.1.0, each_of (λ n. n ≤ most_number) 0 ns t.1.1));
      again = λ ns rest h. c.again ns rest (h.0, of_each (λ n. n ≤ most_number) 0 ns h.1);
    }

-- ---- segments

segment_takes : (bytes : List ℕ) (x : Segment) (rest : List ℕ) → IsBytes bytes → segment_at bytes ≡ Ok (x, rest) → Takes bytes (segment x) rest × IsSegment x
unfolding segment_at
segment_takes bytes x rest fits e =
    let a = bind_ok (bounded_at 0 most_number bytes) (λ file. bounded_at 0 most_number file.1 >>= λ first. Ok (record { file = file.0; first = first.0 }, first.1)) (x, rest) e in
    let b = bind_ok (bounded_at 0 most_number a.0.1) (λ first. Ok (record { file = a.0.0; first = first.0 }, first.1)) (x, rest) a.2 in
    let t0 = any_codec.takes bytes a.0.0 a.0.1 fits a.1 in
    let t1 = any_codec.takes a.0.1 b.0.0 b.0.1 t0.0.rest_fits b.1 in
    let both = Takes-then bytes (number a.0.0) a.0.1 (number b.0.0) b.0.1 t0.0 t1.0 in
    let made : Segment × List ℕ = (record { file = a.0.0; first = b.0.0 }, b.0.1) in
    subst (λ (y : Segment × List ℕ). Takes bytes (segment y.0) y.1 × IsSegment y.0) (ok_is made (x, rest) b.2) (both, (t0.1.1, t1.1.1))

segment_again : (x : Segment) (rest : List ℕ) → IsSegment x → segment_at (segment x ++ rest) ≡ Ok (x, rest)
unfolding segment_at
segment_again x rest fits =
    let parts : segment x ++ rest ≡ number x.file ++ (number x.first ++ rest) = append_assoc (number x.file) (number x.first) rest in
    ap segment_at parts ∙ rw (any_codec.again x.file (number x.first ++ rest) (omega arith, fits.0), any_codec.again x.first rest (omega arith, fits.1)) refl

segment_codec : IsCodec segment_at segment IsSegment
segment_codec = record { takes = segment_takes; again = segment_again }

segments_codec : IsCodec (list_at segments_at) (list w32 segment) AreSegments
segments_codec =
    let c = list_codec (λ _. segment_at) anywhere segment (λ _. IsSegment) (λ _. segment_codec) 0 in
    record {
      takes = λ bytes xs rest fits e. let t = c.takes bytes xs rest fits e in (t.0, (t.1.0, each_of IsSegment 0 xs t.1.1));
      again = λ xs rest h. c.again xs rest (h.0, of_each IsSegment 0 xs h.1);
    }

-- ---- tables

table_takes : (least : ℕ) (bytes : List ℕ) (x : TableFiles) (rest : List ℕ) → IsBytes bytes → table_at least bytes ≡ Ok (x, rest) → Takes bytes (table x) rest × IsTable least x
unfolding table_at
table_takes least bytes x rest fits e =
    let a = bind_ok (bounded_at least most_number bytes) (λ i. bounded_at 0 most_number i.1 >>= λ l. list_at files_at l.1 >>= λ f. Ok (record { incarnation = i.0; lost = l.0; files = f.0 }, f.1)) (x, rest) e in
    let b = bind_ok (bounded_at 0 most_number a.0.1) (λ l. list_at files_at l.1 >>= λ f. Ok (record { incarnation = a.0.0; lost = l.0; files = f.0 }, f.1)) (x, rest) a.2 in
    let c = bind_ok (list_at files_at b.0.1) (λ f. Ok (record { incarnation = a.0.0; lost = b.0.0; files = f.0 }, f.1)) (x, rest) b.2 in
    let t0 = (from_codec least).takes bytes a.0.0 a.0.1 fits a.1 in
    let t1 = any_codec.takes a.0.1 b.0.0 b.0.1 t0.0.rest_fits b.1 in
    let t2 = files_codec.takes b.0.1 c.0.0 c.0.1 t1.0.rest_fits c.1 in
    let e12 = Takes-then a.0.1 (number b.0.0) b.0.1 (list w32 number c.0.0) c.0.1 t1.0 t2.0 in
    let e02 = Takes-then bytes (number a.0.0) a.0.1 (number b.0.0 ++ list w32 number c.0.0) c.0.1 t0.0 e12 in
    let made : TableFiles × List ℕ = (record { incarnation = a.0.0; lost = b.0.0; files = c.0.0 }, c.0.1) in
    subst (λ (y : TableFiles × List ℕ). Takes bytes (table y.0) y.1 × IsTable least y.0) (ok_is made (x, rest) c.2) (e02, (t0.1.0, t0.1.1, t1.1.1, t2.1))

table_again : (least : ℕ) (x : TableFiles) (rest : List ℕ) → IsTable least x → table_at least (table x ++ rest) ≡ Ok (x, rest)
unfolding table_at
table_again least x rest fits =
    let parts : table x ++ rest ≡ number x.incarnation ++ (number x.lost ++ (list w32 number x.files ++ rest)) =
    append_assoc (number x.incarnation) (number x.lost ++ list w32 number x.files) rest ∙ ap (λ (l : List ℕ). number x.incarnation ++ l) (append_assoc (number x.lost) (list w32 number x.files) rest) in
    ap (table_at least) parts ∙ rw ((from_codec least).again x.incarnation (number x.lost ++ (list w32 number x.files ++ rest)) (fits.0, fits.1), any_codec.again x.lost (list w32 number x.files ++ rest) (omega arith, fits.2), files_codec.again x.files rest fits.3) refl

table_codec : (least : ℕ) → IsCodec (table_at least) table (IsTable least)
table_codec least = record { takes = table_takes least; again = table_again least }

tables_codec : IsCodec (list_at tables_at) (list w32 table) AreTables
tables_codec = list_codec table_at next_incarnation table IsTable table_codec 0

-- ---- snapshots

abbrev made_of : ℕ → ℕ → ℕ → List Segment → List TableFiles → List ℕ → Snapshot
made_of n f b ss ts t = record { next_file = n; floor = f; base = b; segments = ss; tables = ts; schema = t }

-- what is read is spelled so
pub snapshot_takes : (bytes : List ℕ) (s : Snapshot) → IsBytes bytes → snapshot_in bytes ≡ Ok s → IsSnapshot s × (bytes ≡ snapshot_bytes s)
unfolding snapshot_in snapshot_bytes
snapshot_takes bytes s fits e =
    let a = bind_ok (bounded_at 0 most_number bytes) (λ n. bounded_at 0 last_moment n.1 >>= λ f. bounded_at 0 most_number f.1 >>= λ b. list_at segments_at b.1 >>= λ ss. list_at tables_at ss.1 >>= λ ts. text_at w32 0 4294967295 ts.1 >>= λ t. cond (eqb (length t.1) 0) (Ok (made_of n.0 f.0 b.0 ss.0 ts.0 t.0)) (Err (length t.1))) s e in
    let b = bind_ok (bounded_at 0 last_moment a.0.1) (λ f. bounded_at 0 most_number f.1 >>= λ b. list_at segments_at b.1 >>= λ ss. list_at tables_at ss.1 >>= λ ts. text_at w32 0 4294967295 ts.1 >>= λ t. cond (eqb (length t.1) 0) (Ok (made_of a.0.0 f.0 b.0 ss.0 ts.0 t.0)) (Err (length t.1))) s a.2 in
    let c = bind_ok (bounded_at 0 most_number b.0.1) (λ b'. list_at segments_at b'.1 >>= λ ss. list_at tables_at ss.1 >>= λ ts. text_at w32 0 4294967295 ts.1 >>= λ t. cond (eqb (length t.1) 0) (Ok (made_of a.0.0 b.0.0 b'.0 ss.0 ts.0 t.0)) (Err (length t.1))) s b.2 in
    let d = bind_ok (list_at segments_at c.0.1) (λ ss. list_at tables_at ss.1 >>= λ ts. text_at w32 0 4294967295 ts.1 >>= λ t. cond (eqb (length t.1) 0) (Ok (made_of a.0.0 b.0.0 c.0.0 ss.0 ts.0 t.0)) (Err (length t.1))) s c.2 in
    let f = bind_ok (list_at tables_at d.0.1) (λ ts. text_at w32 0 4294967295 ts.1 >>= λ t. cond (eqb (length t.1) 0) (Ok (made_of a.0.0 b.0.0 c.0.0 d.0.0 ts.0 t.0)) (Err (length t.1))) s d.2 in
    let g = bind_ok (text_at w32 0 4294967295 f.0.1) (λ t. cond (eqb (length t.1) 0) (Ok (made_of a.0.0 b.0.0 c.0.0 d.0.0 f.0.0 t.0)) (Err (length t.1))) s f.2 in
    let t0 = any_codec.takes bytes a.0.0 a.0.1 fits a.1 in
    let t1 = moment_codec.takes a.0.1 b.0.0 b.0.1 t0.0.rest_fits b.1 in
    let t2 = any_codec.takes b.0.1 c.0.0 c.0.1 t1.0.rest_fits c.1 in
    let t3 = segments_codec.takes c.0.1 d.0.0 d.0.1 t2.0.rest_fits d.1 in
    let t4 = tables_codec.takes d.0.1 f.0.0 f.0.1 t3.0.rest_fits f.1 in
    let t5 = schema_codec.takes f.0.1 g.0.0 g.0.1 t4.0.rest_fits g.1 in
    let h = passed (eqb (length g.0.1) 0) (length g.0.1) (made_of a.0.0 b.0.0 c.0.0 d.0.0 f.0.0 g.0.0) s g.2 in
    let e45 = Takes-then d.0.1 (list w32 table f.0.0) f.0.1 (text w32 g.0.0) g.0.1 t4.0 t5.0 in
    let e35 = Takes-then c.0.1 (list w32 segment d.0.0) d.0.1 (list w32 table f.0.0 ++ text w32 g.0.0) g.0.1 t3.0 e45 in
    let e25 = Takes-then b.0.1 (number c.0.0) c.0.1 (list w32 segment d.0.0 ++ (list w32 table f.0.0 ++ text w32 g.0.0)) g.0.1 t2.0 e35 in
    let e15 = Takes-then a.0.1 (number b.0.0) b.0.1 (number c.0.0 ++ (list w32 segment d.0.0 ++ (list w32 table f.0.0 ++ text w32 g.0.0))) g.0.1 t1.0 e25 in
    let e05 = Takes-then bytes (number a.0.0) a.0.1 (number b.0.0 ++ (number c.0.0 ++ (list w32 segment d.0.0 ++ (list w32 table f.0.0 ++ text w32 g.0.0)))) g.0.1 t0.0 e15 in
    let spelled : List ℕ = snapshot_bytes (made_of a.0.0 b.0.0 c.0.0 d.0.0 f.0.0 g.0.0) in
    let nothing : g.0.1 ≡ [] = nil_from_length g.0.1 (eqb-true _ _ h.0) in
    let whole : bytes ≡ spelled = e05.parts ∙ ap (λ (r : List ℕ). spelled ++ r) nothing ∙ append-nil spelled in
    let fits : IsSnapshot (made_of a.0.0 b.0.0 c.0.0 d.0.0 f.0.0 g.0.0) = record { next_file = t0.1.1; floor = t1.1.1; base = t2.1.1; segments = t3.1; tables = t4.1; schema = omega (arith, t5.1.1) } in
    subst (λ (v : Snapshot). IsSnapshot v × (bytes ≡ snapshot_bytes v)) h.1 (fits, whole)

-- what is spelled so is read
pub snapshot_again : (s : Snapshot) → IsSnapshot s → snapshot_in (snapshot_bytes s) ≡ Ok s
unfolding snapshot_in snapshot_bytes
snapshot_again s fits =
    let short : length s.schema ≤ 4294967295 = omega (arith, fits.schema) in
    let last : text_at w32 0 4294967295 (text w32 s.schema) ≡ Ok (s.schema, []) = ap (text_at w32 0 4294967295) (sym (append-nil (text w32 s.schema))) ∙ schema_codec.again s.schema [] (omega arith, short) in
    rw (
      any_codec.again s.next_file (number s.floor ++ (number s.base ++ (list w32 segment s.segments ++ (list w32 table s.tables ++ text w32 s.schema)))) (omega arith, fits.next_file),
      moment_codec.again s.floor (number s.base ++ (list w32 segment s.segments ++ (list w32 table s.tables ++ text w32 s.schema))) (omega arith, fits.floor),
      any_codec.again s.base (list w32 segment s.segments ++ (list w32 table s.tables ++ text w32 s.schema)) (omega arith, fits.base),
      segments_codec.again s.segments (list w32 table s.tables ++ text w32 s.schema) fits.segments,
      tables_codec.again s.tables (text w32 s.schema) fits.tables,
      last,
    ) refl
