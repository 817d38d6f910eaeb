-- The rows of a set are those that were asked for.
use Rattle.std.proofs.Common.{◌≡◌, ℕ, Bool, true, false, List, [], ◌∷◌, filter, refl, ap, ◌∙◌}
use Rattle.std.specs.Prelude.{IsTrue, if◌then◌else◌}
use Rattle.std.specs.Map.{keys_of}
use Rattle.std.proofs.lemmas.List.Elements.{All-head, All-tail}
use Rattle.bt_types.specs.Grammar.{is_row_key}
use Rattle.bt_types.specs.declared.row_range.RowRange.{RowRange}
use Rattle.bt_range.specs.RowSets.{is_in_any, is_selected}
use Rattle.bt_range.specs.declared.asked_range.AskedRange.{AskedRange}
use Rattle.bt_contents.specs.Contents.{Contents}
use Rattle.bt_state.specs.State.{AreRowKeys}

module _ (set : List RowRange) (keys : List (List ℕ)) (ranges : List AskedRange) (same : (k : List ℕ) → IsTrue (is_row_key k) → is_in_any set k ≡ is_selected keys ranges k) where
  pub selected_rows : (rows : Contents) → AreRowKeys rows → filter (λ r. is_in_any set r.0) rows ≡ filter (λ r. is_selected keys ranges r.0) rows
  selected_rows [] all = refl
  selected_rows (r ∷ rs) all =
      let rest = selected_rows rs (All-tail (λ k. IsTrue (is_row_key k)) r.0 (keys_of rs) all) in
      ap (λ (b : Bool). if b then r ∷ filter (λ r. is_in_any set r.0) rs else filter (λ r. is_in_any set r.0) rs) (same r.0 (All-head (λ k. IsTrue (is_row_key k)) r.0 (keys_of rs) all))
      ∙ ap (λ (l : Contents). if is_selected keys ranges r.0 then r ∷ l else l) rest
