-- The keys that begin with some bytes.
use Rattle.std.specs.Prelude.{ℕ, ◌+◌, ◌==◌, List, [], ◌∷◌, Option, Some, None, if◌then◌else◌}
use Rattle.bt_types.specs.declared.row_range.RowRange.{RowRange}

-- with this byte in front; where nothing is behind, the next byte alone, if there is one
abbrev pub successor_from : ℕ → Option (List ℕ) → Option (List ℕ)
successor_from b (Some s) = Some (b ∷ s)
successor_from b None = if b == 255 then None else Some ((b + 1) ∷ [])

-- the least bytes past all that begin with these, if there are any
abbrev pub successor : List ℕ → Option (List ℕ)
successor [] = None
successor (b ∷ bs) = successor_from b (successor bs)

-- the range of the keys that begin with these bytes
abbrev pub prefix_range : List ℕ → RowRange
prefix_range front = record { start = front; end = successor front }
