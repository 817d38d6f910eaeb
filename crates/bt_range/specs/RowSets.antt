-- Sets of rows, as ranges that stand apart.
use Rattle.std.specs.Prelude.{◌≡◌, ℕ, ◌||◌, Bool, true, false, List, [], ◌∷◌, ◌++◌, Option, Some, None, bytes_eq, if◌then◌else◌, map}
use Rattle.std.specs.List.{list_any, AllByRecursion}
use Rattle.std.specs.declared.cmp.Ordering.{Ordering}
use Rattle.std.specs.declared.cmp.Ordering.TheVariants.{Less, Equal, Greater}
use Rattle.bt_types.specs.declared.row_range.RowRange.{RowRange}
use Rattle.bt_range.specs.declared.asked_range.AskedRange.{AskedRange}
use Rattle.bt_range.specs.Bounds.{is_below, is_before, is_in, is_asked, just_past, least, normal}

-- the range holds something
abbrev pub is_filled : RowRange → Bool
is_filled r = is_before r.end r.start

-- a range with this end stops short of k
abbrev pub stops_before : Option (List ℕ) → List ℕ → Bool
stops_before None k = false
stops_before (Some e) k = is_below e k

-- none of the ranges is empty, and each stops short of the start of each later one
abbrev pub AreApart : List RowRange → Type 0
AreApart [] = Unit {0}
AreApart (r ∷ rs) = (is_filled r ≡ true) × AllByRecursion (λ s. stops_before r.end s.start ≡ true) rs × AreApart rs

-- one of the ranges holds the key
abbrev pub is_in_any : List RowRange → List ℕ → Bool
is_in_any rs k = list_any (λ r. is_in r k) rs

abbrev pub is_nothing_listed : List (List ℕ) → List AskedRange → Bool
is_nothing_listed [] [] = true
is_nothing_listed [] (r ∷ rs) = false
is_nothing_listed (k ∷ ks) rs = false

-- the key is listed, or a listed range holds it, or nothing is listed
abbrev pub is_selected : List (List ℕ) → List AskedRange → List ℕ → Bool
is_selected keys ranges k = is_nothing_listed keys ranges || (list_any (λ other. bytes_eq other k) keys || list_any (λ r. is_asked r k) ranges)

-- ---- how the ranges are made

-- the range that holds this key alone
abbrev pub key_range : List ℕ → RowRange
key_range k = record { start = k; end = Some (just_past k) }

-- the range of all row keys
abbrev pub all_rows : RowRange
all_rows = record { start = least; end = None }

abbrev pub listed : List (List ℕ) → List AskedRange → List RowRange
listed keys ranges = if is_nothing_listed keys ranges then all_rows ∷ [] else map key_range keys ++ map normal ranges

abbrev pub later_end : Option (List ℕ) → Option (List ℕ) → Option (List ℕ)
later_end None e = None
later_end (Some d) None = None
later_end (Some d) (Some e) = if is_below d e then Some e else Some d

-- the range of what either holds, where they touch
abbrev pub joined : RowRange → RowRange → RowRange
joined r s = record { start = r.start; end = later_end r.end s.end }

-- the range ends before the key, holds it, or starts past it
abbrev pub side : RowRange → List ℕ → Ordering
side r k = if is_below k r.start then Greater else (if is_before r.end k then Equal else Less)

-- their starts ascend
abbrev pub AreAscending : List RowRange → Type 0
AreAscending [] = Unit {0}
AreAscending (r ∷ rs) = AllByRecursion (λ s. is_below s.start r.start ≡ false) rs × AreAscending rs

-- none of them starts past k
abbrev pub StartBy : List ℕ → List RowRange → Type 0
StartBy k rs = AllByRecursion (λ r. is_below k r.start ≡ false) rs

-- none of them starts past one of the others
abbrev pub StartFirst : List RowRange → List RowRange → Type 0
StartFirst rs others = AllByRecursion (λ s. StartBy s.start rs) others

abbrev pub AreFilled : List RowRange → Type 0
AreFilled rs = AllByRecursion (λ r. is_filled r ≡ true) rs
