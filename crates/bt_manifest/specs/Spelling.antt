-- The one spelling of a snapshot. Numbers are big-endian.
use Rattle.std.specs.Prelude.{ℕ, List, ◌++◌}
use Rattle.std.specs.Int.{w32, w64, to_be_bytes}
use Rattle.bt_codec.specs.Spelling.{text, list}
use Rattle.bt_manifest.specs.declared.snapshot.Segment.{Segment}
use Rattle.bt_manifest.specs.declared.snapshot.TableFiles.{TableFiles}
use Rattle.bt_manifest.specs.declared.snapshot.Snapshot.{Snapshot}

abbrev pub number : ℕ → List ℕ
number n = to_be_bytes w64 n

abbrev pub segment : Segment → List ℕ
segment s = number s.file ++ number s.first

abbrev pub table : TableFiles → List ℕ
table t = number t.incarnation ++ (number t.lost ++ list w32 number t.files)

-- the body of a slot
unfoldable pub snapshot_bytes : Snapshot → List ℕ
snapshot_bytes s = number s.next_file ++ (number s.floor ++ (number s.base ++ (list w32 segment s.segments ++ (list w32 table s.tables ++ text w32 s.schema))))
