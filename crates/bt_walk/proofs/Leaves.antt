-- An array without items, seen in its items.
use Rattle.std.proofs.Common.{◌≡◌, ◌==◌, suc, List, [], ◌∷◌, length, Option, Some, None, Bool, true, false, refl, sym, arith}
use Rattle.std.proofs.lemmas.Bool.{ne_eqb}
use Rattle.serde_json.specs.Data.{Data, null, boolean, number, string, array, object, Items, no_items, item}
use Rattle.serde_json.specs.Find.{as_array}
use Rattle.bt_json.specs.View.{items_view}
use Rattle.bt_json.specs.declared.value.Value.{Value}
use Rattle.bt_walk.specs.Values.{has_nothing}

abbrev pub has_none : Option Items → Bool
has_none None = false
has_none (Some no_items) = true
has_none (Some (item d ds)) = false

pub has_nothing-items : (d : Data) → has_nothing d ≡ has_none (as_array d)
has_nothing-items null = refl
has_nothing-items (boolean b) = refl
has_nothing-items (number n) = refl
has_nothing-items (string s) = refl
has_nothing-items (array no_items) = refl
has_nothing-items (array (item d ds)) = refl
has_nothing-items (object ms) = refl

pub has_none-items_view : (vs : List Value) → has_none (Some (items_view vs)) ≡ (length vs == 0)
has_none-items_view [] = refl
has_none-items_view (v ∷ vs) = sym (ne_eqb (suc (length vs)) 0 (λ e. omega (arith, e)))
