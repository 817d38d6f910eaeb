-- Which cells an extent covers, by their keys.
use Rattle.std.specs.Prelude.{◌≡◌, ℕ, ◌&&◌, ◌||◌, ◌==◌, Bool, true, false, nat_lt, nat_le, bytes_eq, IsTrue, All, List, []}
use Rattle.std.specs.Ordering.{is_le}
use Rattle.bt_types.specs.Time.{is_micros}
use Rattle.bt_types.specs.Mutations.{is_in_column}
use Rattle.bt_types.specs.declared.mutation.Mutation.{Mutation}
use Rattle.bt_types.specs.declared.mutation.Mutation.TheVariants.{SetCell, DeleteColumn, DeleteFamily, DeleteRow}
use Rattle.bt_row.specs.declared.cell_key.CellKey.{CellKey}
use Rattle.bt_row.specs.declared.extent.Extent.{Extent}
use Rattle.bt_row.specs.declared.extent.Extent.TheVariants.{Family, Column}
use Rattle.bt_row.specs.Keys.{key_cmp, cell_at}

-- the key from which an extent covers others
abbrev pub first_of : Extent → CellKey
first_of (Family from) = from
first_of (Column from start) = from

-- it covers this key, if no key before its first
abbrev pub reaches : Extent → CellKey → Bool
reaches (Family from) k = bytes_eq k.family from.family
reaches (Column from start) k = bytes_eq k.family from.family && bytes_eq k.qualifier from.qualifier && nat_le start k.at

abbrev pub is_covered : Extent → CellKey → Bool
is_covered d k = is_le (key_cmp (first_of d) k) && reaches d k

-- the mutation removes the cell of the key
abbrev pub removes : Mutation → CellKey → Bool
removes (SetCell family qualifier at value) k = false
removes (DeleteColumn family qualifier start end) k = is_in_column family qualifier start end (cell_at k [])
removes (DeleteFamily family) k = bytes_eq k.family family
removes DeleteRow k = true

-- the key has the timestamp of a cell
abbrev pub IsTimed : CellKey → Type 0
IsTimed k = IsTrue (is_micros k.at)

abbrev pub AreTimed : List CellKey → Type 0
AreTimed ks = All IsTimed ks

-- the extent covers the keys that the mutation removes
abbrev pub Covers : Extent → Mutation → Type 0
Covers d m = (k : CellKey) → IsTimed k → is_covered d k ≡ removes m k

-- a timestamp is before the end, where it is not 0, exactly if it is not past this one
abbrev pub IsLatestBefore : ℕ → ℕ → Type 0
IsLatestBefore end at = (t : ℕ) → IsTrue (is_micros t) → nat_le t at ≡ (end == 0 || nat_lt t end)
