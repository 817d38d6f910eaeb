-- What a value stands for, in the words of serde_json.
use Rattle.std.specs.Prelude.{ℕ, List, [], ◌∷◌, map}
use Rattle.std.specs.Borrow.{Bor}
use Rattle.serde_json.specs.Data.{Num, unsigned, negative, float, Data, null, boolean, number, string, array, object, Items, no_items, item, Members, no_members, member}
use Rattle.bt_json.specs.declared.number.Number.{Number}
use Rattle.bt_json.specs.declared.number.Number.TheVariants.{Unsigned, Negative, Float}
use Rattle.bt_json.specs.declared.value.Value.{Value, fold-Value}
use Rattle.bt_json.specs.declared.value.Value.TheOpen.{Value-F}

abbrev pub number_view : Number → Num
number_view (Unsigned n) = unsigned n
number_view (Negative z) = negative z
number_view (Float x) = float x

abbrev pub items_of : List Data → Items
items_of [] = no_items
items_of (d ∷ ds) = item d (items_of ds)

abbrev pub members_of : List (Bor (List ℕ) × Data) → Members
members_of [] = no_members
members_of (m ∷ ms) = member m.0.now m.1 (members_of ms)

-- one level, where what is inside is seen already
abbrev pub view_step : Value-F Data → Data
view_step Value-F.Null = null
view_step (Value-F.Bool b) = boolean b
view_step (Value-F.Number x) = number (number_view x)
view_step (Value-F.String s) = string s.now
view_step (Value-F.Array v) = array (items_of v.items)
view_step (Value-F.Object m) = object (members_of m.items)

abbrev pub view : Value → Data
view = fold-Value Data view_step

abbrev pub items_view : List Value → Items
items_view vs = items_of (map view vs)

abbrev pub members_view : List (Bor (List ℕ) × Value) → Members
members_view ms = members_of (map (λ m. (m.0, view m.1)) ms)
