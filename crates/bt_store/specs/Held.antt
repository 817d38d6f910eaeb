-- What the files of a disk, or of an image that a crash leaves, stand for.
use Rattle.std.specs.Prelude.{◌≡◌, ℕ, ◌+◌, ◌%◌, ◌==◌, ◌&&◌, nat_le, nat_lt, bytes_eq, Bool, true, false, List, [], ◌∷◌, Option, None, Some, Result, Ok, Err, IsOk, if◌then◌else◌}
use Rattle.bt_outside.specs.Disk.{Files, size}
use Rattle.bt_entry.specs.declared.numbered.Numbered.{Numbered}
use Rattle.bt_log.specs.Segment.{segment}
use Rattle.bt_manifest.specs.declared.snapshot.Segment.{Segment}
use Rattle.bt_manifest.specs.declared.snapshot.TableFiles.{TableFiles}
use Rattle.bt_manifest.specs.declared.snapshot.Snapshot.{Snapshot}
use Rattle.bt_manifest.specs.Slots.{Slot, counting}
use Rattle.bt_state.specs.State.{State, Present, Event, empty_state, after, event_of, is_allowed}

-- a file, and a place in it
abbrev pub Place : Type 0
Place = ℕ × ℕ

-- a schema of no tables
abbrev pub no_tables : List ℕ
no_tables = 0 ∷ 0 ∷ 0 ∷ 0 ∷ []

-- the file of the only segment, where it begins with sequence 1 and its number is no slot's and below the next file
abbrev pub only_segment : ℕ → List Segment → Option ℕ
only_segment next [] = None
only_segment next (s ∷ []) = if s.first == 1 && nat_le 2 s.file && nat_lt s.file next then Some s.file else None
only_segment next (s ∷ t ∷ more) = None

abbrev pub has_no_files : List TableFiles → Bool
has_no_files [] = true
has_no_files (t ∷ ts) = false

-- The file of the segment of a snapshot that holds every entry: its base is 0, it has no table and no sorted file.
abbrev pub segment_of : Snapshot → Option ℕ
segment_of s = if s.base == 0 && has_no_files s.tables && bytes_eq s.schema no_tables then only_segment s.next_file s.segments else None

-- what the manifest of a new disk says: an empty log in file 2
abbrev pub first_snapshot : Snapshot
first_snapshot = record { next_file = 3; floor = 0; base = 0; segments = record { file = 2; first = 1 } ∷ []; tables = []; schema = no_tables }

-- the state before the entries past the base
abbrev pub base_state : Snapshot → State
base_state s = record { present = record { schema = []; contents = []; last = s.base; floor = s.floor }; history = []; lost = [] }

-- an entry of the grammar may come next
abbrev pub may_come : Present → Event → Bool
may_come p e = nat_le p.floor e.moment && is_allowed e.entry p

-- the state after these entries, or none where one of them may not come
abbrev pub follow : State → List Numbered → Option State
follow s [] = Some s
follow s (n ∷ ns) = if may_come s.present (event_of n) then follow (after s (event_of n)) ns else None

abbrev pub or_place : Place → Option State → Result State Place
or_place place None = Err place
or_place place (Some s) = Ok s

-- the state after what the segment in a file says
abbrev pub after_segment : ℕ → State → Result (List Numbered) ℕ → Result State Place
after_segment file s (Err at) = Err (file, at)
after_segment file s (Ok entries) = or_place (file, 0) (follow s entries)

abbrev pub after_snapshot : Files → Snapshot → ℕ → Option ℕ → Result State Place
after_snapshot c s generation None = Err (generation % 2, 0)
after_snapshot c s generation (Some file) = after_segment file (base_state s) (segment (s.base + 1) (c file))

abbrev pub state_of : Files → Slot → Result State Place
state_of c (Err file) = Err (file, 0)
state_of c (Ok None) = Ok empty_state
state_of c (Ok (Some x)) = after_snapshot c x.0 x.1 (segment_of x.0)

-- The state that the files stand for: the empty one where no slot is opened, else what the slot that counts names. Or the
-- first place at which they are outside their format.
abbrev pub disk_state : Files → Result State Place
disk_state c = state_of c (counting c)

abbrev pub IsSound : Files → Type 0
IsSound c = IsOk (disk_state c)

-- the files are sound and stand for this state
abbrev pub HoldsState : State → Files → Type 0
HoldsState s c = disk_state c ≡ Ok s

-- the files are outside their format at this place
abbrev pub IsBroken : Files → ℕ → ℕ → Type 0
IsBroken c file at = disk_state c ≡ Err (file, at)

-- the length of the file, or 0 where none is named
abbrev pub size_if_some : Files → Option ℕ → ℕ
size_if_some c None = 0
size_if_some c (Some file) = size c file

abbrev pub named_size : Files → Slot → ℕ
named_size c (Err file) = 0
named_size c (Ok None) = 0
named_size c (Ok (Some x)) = size_if_some c (segment_of x.0)

-- the length of the log that the files name, or 0 where they name none
abbrev pub log_size : Files → ℕ
log_size c = named_size c (counting c)

-- an image stands for what one of these images stands for
abbrev pub LikeSome : (Files → Type 0) → Files → Type 0
LikeSome images c = (d : Files) × images d × (disk_state c ≡ disk_state d)
