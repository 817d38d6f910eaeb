-- The two slots, files 0 and 1: what each says, and which one counts.
use Rattle.std.specs.Prelude.{ℕ, ◌≤◌, ◌%◌, ◌&&◌, ◌==◌, nat_le, nat_lt, if◌then◌else◌, List, [], ◌∷◌, ◌++◌, length, Option, None, Some, Result, Ok, Err}
use Rattle.std.specs.Int.{w32}
use Rattle.bt_codec.specs.Reading.{◌>>=◌, Reads, text_at}
use Rattle.bt_codec.specs.Spelling.{text}
use Rattle.bt_outside.specs.Disk.{Files, Settles}
use Rattle.bt_manifest.specs.declared.snapshot.Snapshot.{Snapshot}
use Rattle.bt_manifest.specs.Grammar.{most_number, most_body, IsSnapshot}
use Rattle.bt_manifest.specs.Spelling.{number, snapshot_bytes}
use Rattle.bt_manifest.specs.Reading.{bounded_at, snapshot_in}

-- a snapshot and its generation
abbrev pub Generation : Type 0
Generation = Snapshot × ℕ

-- what a slot says: nothing where it is closed; an opened one has a snapshot, or is outside the grammar: then its file is named
abbrev pub Slot : Type 0
Slot = Result (Option Generation) ℕ

-- generations begin with 1, and each stands in the file of its parity
unfoldable pub generation_at : ℕ → List ℕ → Reads ℕ
generation_at file bytes = do
  generation ← bounded_at 1 most_number bytes
  if generation.0 % 2 == file then Ok generation else Err (length bytes)

-- what stands behind an opened gate; bytes behind the body are ignored
unfoldable pub opened_at : ℕ → List ℕ → Result Generation ℕ
opened_at file bytes = do
  generation ← generation_at file bytes
  body ← text_at w32 0 most_body generation.1
  snapshot ← snapshot_in body.0
  Ok (snapshot, generation.0)

-- a slot with a fault is told by its file, wherever the fault is
abbrev pub said_by : ℕ → Result Generation ℕ → Slot
said_by file (Ok x) = Ok (Some x)
said_by file (Err left) = Err file

-- a slot is opened where its first byte is 1 and twelve bytes or more stand behind it
abbrev pub slot_at : ℕ → List ℕ → Slot
slot_at file [] = Ok None
slot_at file (gate ∷ rest) = if gate == 1 && nat_le 12 (length rest) then said_by file (opened_at file rest) else Ok None

-- of two opened slots the one with the greater generation counts
abbrev pub latest : Slot → Slot → Slot
latest (Err file) b = Err file
latest (Ok a) (Err file) = Err file
latest (Ok None) (Ok b) = Ok b
latest (Ok (Some a)) (Ok None) = Ok (Some a)
latest (Ok (Some a)) (Ok (Some b)) = if nat_lt a.1 b.1 then Ok (Some b) else Ok (Some a)

-- what counts on a disk: none where no slot is opened, or the file of a slot outside the grammar, 0 before 1
abbrev pub counting : Files → Slot
counting files = latest (slot_at 0 (files 0)) (slot_at 1 (files 1))

-- what can be written as that generation
pub record CanStand (snapshot : Snapshot) (generation : ℕ) : Type 0 where
  pub grammar : IsSnapshot snapshot
  pub body : length (snapshot_bytes snapshot) ≤ most_body
  pub first : 1 ≤ generation
  pub most : generation ≤ most_number

-- what stands behind the gate of a slot
abbrev pub slot_bytes : Snapshot → ℕ → List ℕ
slot_bytes snapshot generation = number generation ++ text w32 (snapshot_bytes snapshot)

-- the slots have nothing pending
abbrev pub SlotsSettle : Files → (Files → Type 0) → Type 0
SlotsSettle held images = Settles 0 (held 0) images × Settles 1 (held 1) images
