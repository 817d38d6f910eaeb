-- Segments of the write-ahead log: records one after another, and then a closed gate. A record is an opened gate, a length
-- in four bytes, and so many bytes that spell a batch. A gate is a byte: 1 is opened, every other value is closed.
use Rattle.std.specs.Prelude.{ℕ, zero, suc, ◌+◌, ◌-◌, List, [], ◌∷◌, ◌++◌, length, take, drop, Option, None, Some, Result, Ok, Err, nat_lt, ◌==◌, if◌then◌else◌}
use Rattle.std.specs.Int.{w32, from_be_bytes}
use Rattle.bt_entry.specs.declared.numbered.Numbered.{Numbered}
use Rattle.bt_entry.specs.Reading.{batch_in}

-- a length, and so many bytes; and the bytes behind them
unfoldable pub body_at : List ℕ → Option (List ℕ × List ℕ)
body_at bytes = if nat_lt (length bytes) 4 then None
    else (if nat_lt (length (drop 4 bytes)) (from_be_bytes w32 (take 4 bytes)) then None
    else Some (take (from_be_bytes w32 (take 4 bytes)) (drop 4 bytes), drop (from_be_bytes w32 (take 4 bytes)) (drop 4 bytes)))

-- a batch that was read and the bytes behind it, or nothing at a closed gate; a fault is the number of bytes that are left
abbrev pub Record : Type 0
Record = Result (Option (List Numbered × List ℕ)) ℕ

abbrev pub spelled : ℕ → List ℕ → Result (List Numbered) ℕ → Record
spelled left rest (Ok batch) = Ok (Some (batch, rest))
spelled left rest (Err at) = Err left

abbrev pub opened_at : ℕ → ℕ → Option (List ℕ × List ℕ) → Record
opened_at first left None = Err left
opened_at first left (Some x) = spelled left x.1 (batch_in first x.0)

-- the record at the front, with entries numbered on from the first
abbrev pub record_at : ℕ → List ℕ → Record
record_at first [] = Err 0
record_at first (gate ∷ rest) = if gate == 1 then opened_at first (suc (length rest)) (body_at rest) else Ok None

-- the entries of the records up to the first closed gate, with the number of bytes that are left there
abbrev pub Records : Type 0
Records = Result (List Numbered × ℕ) ℕ

-- a batch, and what is read behind it
abbrev pub behind : List Numbered → Records → Records
behind batch (Ok x) = Ok (batch ++ x.0, x.1)
behind batch (Err left) = Err left

abbrev pub follow : ℕ → ℕ → Record → (ℕ → List ℕ → Records) → Records
follow first left (Err at) read = Err at
follow first left (Ok None) read = Ok ([], left)
follow first left (Ok (Some x)) read = behind x.0 (read (first + length x.0) x.1)

-- at most so many records
abbrev pub records_at : ℕ → ℕ → List ℕ → Records
records_at zero first bytes = Err (length bytes)
records_at (suc n) first bytes = follow first (length bytes) (record_at first bytes) (records_at n)

-- what is left as a place in all of the bytes
abbrev pub placed : List ℕ → Records → Records
placed bytes (Ok x) = Ok (x.0, length bytes - x.1)
placed bytes (Err left) = Err (length bytes - left)

-- The entries up to the first closed gate and the place of that gate; or the place where an opened record begins that is
-- outside the grammar, or of the end of the bytes where a gate must stand. A record takes a byte, so there are no more of
-- them than bytes.
abbrev pub segment_in : ℕ → List ℕ → Records
segment_in first bytes = placed bytes (records_at (suc (length bytes)) first bytes)

abbrev pub entries_of : Records → Result (List Numbered) ℕ
entries_of (Ok x) = Ok x.0
entries_of (Err at) = Err at

-- the entries of a segment, numbered on from the first, or the place of its fault
abbrev pub segment : ℕ → List ℕ → Result (List Numbered) ℕ
segment first bytes = entries_of (segment_in first bytes)
