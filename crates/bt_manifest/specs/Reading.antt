-- Reading from left to right. A fault is the number of bytes that are left where the first bad field begins.
use Rattle.std.specs.Prelude.{ℕ, Bool, true, List, length, Result, Ok, Err, nat_le, ◌==◌, ◌&&◌, if◌then◌else◌}
use Rattle.std.specs.Int.{w32, w64}
use Rattle.bt_codec.specs.Reading.{◌>>=◌, Reads, number_with, text_at, many_at, anywhere, counted_at}
use Rattle.bt_manifest.specs.declared.snapshot.Segment.{Segment}
use Rattle.bt_manifest.specs.declared.snapshot.TableFiles.{TableFiles}
use Rattle.bt_manifest.specs.declared.snapshot.Snapshot.{Snapshot}
use Rattle.bt_manifest.specs.Grammar.{most_number, last_moment, next_incarnation}

-- a number from least to most
abbrev pub bounded_at : ℕ → ℕ → List ℕ → Reads ℕ
bounded_at least most bytes = number_with w64 (λ n. nat_le least n && nat_le n most) bytes

abbrev pub any_count : ℕ → Bool
any_count n = true

-- a count, and so many items
abbrev pub list_at : {A : Type 0} → (ℕ → List ℕ → Reads A) → List ℕ → Reads A
list_at items bytes = counted_at w32 any_count items bytes

abbrev pub file_at : List ℕ → Reads ℕ
file_at bytes = bounded_at 0 most_number bytes

abbrev pub files_at : ℕ → List ℕ → Reads (List ℕ)
files_at count bytes = many_at (λ _. file_at) anywhere 0 count bytes

unfoldable pub segment_at : List ℕ → Reads Segment
segment_at bytes = do
  file ← bounded_at 0 most_number bytes
  first ← bounded_at 0 most_number file.1
  Ok (record { file = file.0; first = first.0 }, first.1)

abbrev pub segments_at : ℕ → List ℕ → Reads (List Segment)
segments_at count bytes = many_at (λ _. segment_at) anywhere 0 count bytes

-- a table whose incarnation is not below the least
unfoldable pub table_at : ℕ → List ℕ → Reads TableFiles
table_at least bytes = do
  incarnation ← bounded_at least most_number bytes
  lost ← bounded_at 0 most_number incarnation.1
  files ← list_at files_at lost.1
  Ok (record { incarnation = incarnation.0; lost = lost.0; files = files.0 }, files.1)

abbrev pub tables_at : ℕ → List ℕ → Reads (List TableFiles)
tables_at count bytes = many_at table_at next_incarnation 0 count bytes

-- the snapshot that all of the bytes spell
unfoldable pub snapshot_in : List ℕ → Result Snapshot ℕ
snapshot_in bytes = do
  next_file ← bounded_at 0 most_number bytes
  floor ← bounded_at 0 last_moment next_file.1
  base ← bounded_at 0 most_number floor.1
  segments ← list_at segments_at base.1
  tables ← list_at tables_at segments.1
  schema ← text_at w32 0 4294967295 tables.1
  if length schema.1 == 0 then Ok (record { next_file = next_file.0; floor = floor.0; base = base.0; segments = segments.0; tables = tables.0; schema = schema.0 }) else Err (length schema.1)
