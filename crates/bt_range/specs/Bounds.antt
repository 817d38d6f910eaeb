-- What ranges hold. Bytes are compared as lists of numbers.
use Rattle.std.specs.Prelude.{ℕ, ◌&&◌, ◌||◌, ◌==◌, ◌++◌, Bool, true, not, nat_lt, nat_le, List, [], ◌∷◌, Option, Some, None}
use Rattle.std.specs.Ordering.{nat_cmp, is_lt}
use Rattle.std.specs.Cmp.Lexicographic.{slice_cmp}
use Rattle.bt_types.specs.declared.row_range.RowRange.{RowRange}
use Rattle.bt_range.specs.declared.bound.Bound.{Bound}
use Rattle.bt_range.specs.declared.bound.Bound.TheVariants.{Unset, Closed, Past}
use Rattle.bt_range.specs.declared.asked_range.AskedRange.{AskedRange}
use Rattle.bt_range.specs.declared.byte_range.ByteRange.{ByteRange}
use Rattle.bt_range.specs.declared.time_range.TimeRange.{TimeRange}

-- a stands before b
abbrev pub is_below : List ℕ → List ℕ → Bool
is_below a b = is_lt (slice_cmp nat_cmp a b)

-- not before the start, and past it where the start is open
abbrev pub is_from : Bound → List ℕ → Bool
is_from Unset b = true
is_from (Closed k) b = not (is_below b k)
is_from (Past k) b = is_below k b

-- not past the end, and before it where the end is open
abbrev pub is_up_to : Bound → List ℕ → Bool
is_up_to Unset b = true
is_up_to (Closed k) b = not (is_below k b)
is_up_to (Past k) b = is_below b k

abbrev pub is_in_bytes : ByteRange → List ℕ → Bool
is_in_bytes r b = is_from r.start b && is_up_to r.end b

-- at or past the start and before the end; end 0 is without bound
abbrev pub is_in_time : TimeRange → ℕ → Bool
is_in_time r at = nat_le r.start at && (r.end == 0 || nat_lt at r.end)

-- this end, or none where there are no bytes
abbrev pub end_unless_empty : Bound → List ℕ → Bound
end_unless_empty b [] = Unset
end_unless_empty b (x ∷ xs) = b

-- an empty end of a range of rows is no bound
abbrev pub row_end : Bound → Bound
row_end Unset = Unset
row_end (Closed k) = end_unless_empty (Closed k) k
row_end (Past k) = end_unless_empty (Past k) k

-- the asked range holds the key
abbrev pub is_asked : AskedRange → List ℕ → Bool
is_asked r k = is_from r.start k && is_up_to (row_end r.end) k

-- ---- ranges from a first key up to an end

-- the least bytes past k
abbrev pub just_past : List ℕ → List ℕ
just_past k = k ++ 0 ∷ []

-- the least row key
abbrev pub least : List ℕ
least = 0 ∷ []

abbrev pub or_least : List ℕ → List ℕ
or_least [] = least
or_least (x ∷ xs) = x ∷ xs

abbrev pub first_key : Bound → List ℕ
first_key Unset = least
first_key (Closed k) = or_least k
first_key (Past k) = just_past k

abbrev pub end_key : Bound → Option (List ℕ)
end_key Unset = None
end_key (Closed k) = Some (just_past k)
end_key (Past k) = Some k

-- the same row keys, from the first up to and without the end
abbrev pub normal : AskedRange → RowRange
normal r = record { start = first_key r.start; end = end_key (row_end r.end) }

-- before the end, or there is none
abbrev pub is_before : Option (List ℕ) → List ℕ → Bool
is_before None k = true
is_before (Some e) k = is_below k e

abbrev pub is_in : RowRange → List ℕ → Bool
is_in r k = not (is_below k r.start) && is_before r.end k
