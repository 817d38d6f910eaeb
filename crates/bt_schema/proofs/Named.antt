-- Tables under their own names, also behind a change.
use Rattle.std.proofs.Common.{◌≡◌, ℕ, Bool, true, false, ◌==◌, List, [], ◌∷◌, None, cond, sym, ◌∙◌, if◌then◌else◌}
use Rattle.std.specs.Ordering.{nat_cmp, match_ordering, is_eq}
use Rattle.std.specs.declared.cmp.Ordering.{Ordering}
use Rattle.std.specs.declared.cmp.Ordering.TheVariants.{Less, Equal, Greater}
use Rattle.std.specs.Cmp.Lexicographic.{slice_cmp}
use Rattle.std.specs.Map.{lookup}
use Rattle.std.specs.BTreeMap.{insert_entry}
use Rattle.std.specs.Prelude.{Some}
use Rattle.bt_entry.specs.declared.table_info.TableInfo.{TableInfo}
use Rattle.bt_schema.specs.Schema.{Schema, changed_at, name_is}
use Rattle.bt_schema.specs.Indexed.{AreNamed, HasItsName}

module _ (incarnation : ℕ) (change : TableInfo → TableInfo) (keeps : (t : TableInfo) → (change t).name ≡ t.name) where
  named_by : (t : List ℕ × TableInfo) (b : Bool) → HasItsName t → HasItsName (if b then (t.0, change t.1) else t)
  named_by t true is = is ∙ sym (keeps t.1)
  named_by t false is = is

  -- a change that keeps the name leaves each table under it
  pub named_changed : (ts : Schema) → AreNamed ts → AreNamed (changed_at incarnation change ts)
  named_changed [] all = tt
  named_changed (t ∷ ts) all = (named_by t (t.1.incarnation == incarnation) all.0, named_changed ts all.1)

module _ (name : List ℕ) (info : TableInfo) (is : HasItsName (name, info)) where
  absent_by : (t : List ℕ × TableInfo) (ts : Schema) (r : Ordering) → cond (is_eq r) (Some t.1) (lookup (name_is name) ts) ≡ None → AreNamed (t ∷ ts) → (lookup (name_is name) ts ≡ None → AreNamed (insert_entry (slice_cmp nat_cmp) ts name info)) → AreNamed (match_ordering r ((name, info) ∷ t ∷ ts) ((t.0, info) ∷ ts) (t ∷ insert_entry (slice_cmp nat_cmp) ts name info))
  absent_by t ts Less gone all rest = (is, all)
  absent_by t ts Equal gone all rest = cc gone
  absent_by t ts Greater gone all rest = (all.0, rest gone)

  -- a new table under its name
  pub named_insert : (ts : Schema) → lookup (name_is name) ts ≡ None → AreNamed ts → AreNamed (insert_entry (slice_cmp nat_cmp) ts name info)
  named_insert [] absent all = (is, tt)
  named_insert (t ∷ ts) absent all = absent_by t ts (slice_cmp nat_cmp name t.0) absent all (λ gone. named_insert ts gone all.1)
