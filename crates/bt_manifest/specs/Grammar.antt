-- Which snapshots can be written: all else is outside the format.
use Rattle.std.specs.Prelude.{ℕ, ◌+◌, ◌<◌, ◌≤◌, ◌^◌, List, length}
use Rattle.std.specs.List.{AllByRecursion}
use Rattle.bt_codec.specs.Lists.{AllFrom}
use Rattle.bt_manifest.specs.declared.snapshot.Segment.{Segment}
use Rattle.bt_manifest.specs.declared.snapshot.TableFiles.{TableFiles}
use Rattle.bt_manifest.specs.declared.snapshot.Snapshot.{Snapshot}

-- sequences, numbers of files and generations are at most this
abbrev pub most_number : ℕ
most_number = 4611686018427387904

-- 9999-12-31T23:59:59.999999Z in microseconds
abbrev pub last_moment : ℕ
last_moment = 253402300799999999

-- the body of a slot has at most so many bytes
abbrev pub most_body : ℕ
most_body = 1073741824

abbrev pub IsSegment : Segment → Type 0
IsSegment s = (s.file ≤ most_number) × (s.first ≤ most_number)

-- numbers of files, as many as their count can tell
abbrev pub AreFiles : List ℕ → Type 0
AreFiles files = (length files < 2 ^ 32) × AllByRecursion (λ n. n ≤ most_number) files

-- the least incarnation that may stand behind a table
abbrev pub next_incarnation : ℕ → TableFiles → ℕ
next_incarnation least t = t.incarnation + 1

abbrev pub IsTable : ℕ → TableFiles → Type 0
IsTable least t = (least ≤ t.incarnation) × (t.incarnation ≤ most_number) × (t.lost ≤ most_number) × AreFiles t.files

-- incarnations ascend strictly
abbrev pub AreTables : List TableFiles → Type 0
AreTables tables = (length tables < 2 ^ 32) × AllFrom next_incarnation IsTable 0 tables

abbrev pub AreSegments : List Segment → Type 0
AreSegments segments = (length segments < 2 ^ 32) × AllByRecursion IsSegment segments

-- a snapshot whose numbers keep their limits, and whose lists and text are as long as their counts can tell
pub record IsSnapshot (s : Snapshot) : Type 0 where
  pub next_file : s.next_file ≤ most_number
  pub floor : s.floor ≤ last_moment
  pub base : s.base ≤ most_number
  pub segments : AreSegments s.segments
  pub tables : AreTables s.tables
  pub schema : length s.schema < 2 ^ 32
