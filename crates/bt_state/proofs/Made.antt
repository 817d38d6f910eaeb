-- Tables and the sequences that made them.
use Rattle.std.proofs.Common.{◌≡◌, ◌<◌, ◌≤◌, ◌+◌, ℕ, Bool, true, false, ◌==◌, List, [], ◌∷◌, Some, None, cond, not, refl, arith, subst, sym, if◌then◌else◌, eqb-true}
use Rattle.std.specs.Ordering.{nat_cmp}
use Rattle.std.specs.Cmp.Lexicographic.{slice_cmp}
use Rattle.std.specs.Map.{values_of}
use Rattle.std.proofs.lemmas.List.Elements.{All-head, All-tail, All-cons, All-weaker}
use Rattle.std.proofs.lemmas.Map.Views.{All-values-insert_entry}
use Rattle.bt_entry.specs.declared.entry.Entry.{Entry}
use Rattle.bt_entry.specs.declared.entry.Entry.TheVariants.{Row, Create, Delete, Alter, Stream, Floor}
use Rattle.bt_entry.specs.declared.table_info.TableInfo.{TableInfo}
use Rattle.bt_schema.specs.Schema.{Schema, changed_at, new_table, schema_after, table_at, with_families, with_retention, without}
use Rattle.bt_state.specs.State.{AreMade}

module _ (last : ℕ) where
  abbrev Before : TableInfo → Type 0
  Before i = i.incarnation ≤ last

  module _ (n : ℕ) (later : last < n) where
    past_by : (t : List ℕ × TableInfo) (ts : Schema) (b : Bool) → (t.1.incarnation == n) ≡ b → Before t.1 → table_at n ts ≡ None → (if b then Some t.1 else table_at n ts) ≡ None
    past_by t ts true e le rest = let same : t.1.incarnation ≡ n = eqb-true t.1.incarnation n e in absurd (omega (arith, same, le))
    past_by t ts false e le rest = rest

    -- no table has a later sequence
    pub none_past : (ts : Schema) → AreMade last ts → table_at n ts ≡ None
    none_past [] made = refl
    none_past (t ∷ ts) made = past_by t ts (t.1.incarnation == n) refl (All-head Before t.1 (values_of ts) made) (none_past ts (All-tail Before t.1 (values_of ts) made))

  without_by : (incarnation : ℕ) (t : List ℕ × TableInfo) (ts : Schema) (b : Bool) → Before t.1 → AreMade last (without incarnation ts) → AreMade last (cond b (t ∷ without incarnation ts) (without incarnation ts))
  without_by incarnation t ts true le rest = All-cons Before t.1 (values_of (without incarnation ts)) le rest
  without_by incarnation t ts false le rest = rest

  made_without : (incarnation : ℕ) (ts : Schema) → AreMade last ts → AreMade last (without incarnation ts)
  made_without incarnation [] made = made
  made_without incarnation (t ∷ ts) made =
      without_by incarnation t ts (not (t.1.incarnation == incarnation)) (All-head Before t.1 (values_of ts) made) (made_without incarnation ts (All-tail Before t.1 (values_of ts) made))

  module _ (incarnation : ℕ) (change : TableInfo → TableInfo) (keeps : (t : TableInfo) → (change t).incarnation ≡ t.incarnation) where
    changed_by : (t : List ℕ × TableInfo) (b : Bool) → Before t.1 → Before (if b then (t.0, change t.1) else t).1
    changed_by t true le = subst (λ n. n ≤ last) (sym (keeps t.1)) le
    changed_by t false le = le

    made_changed : (ts : Schema) → AreMade last ts → AreMade last (changed_at incarnation change ts)
    made_changed [] made = made
    made_changed (t ∷ ts) made =
        All-cons Before (if t.1.incarnation == incarnation then (t.0, change t.1) else t).1 (values_of (changed_at incarnation change ts))
        (changed_by t (t.1.incarnation == incarnation) (All-head Before t.1 (values_of ts) made)) (made_changed ts (All-tail Before t.1 (values_of ts) made))

-- each is made before a later sequence too
made_later : (last : ℕ) (ts : Schema) → AreMade last ts → AreMade (last + 1) ts
made_later last ts made = All-weaker (λ (i : TableInfo). i.incarnation ≤ last) (λ (i : TableInfo). i.incarnation ≤ last + 1) (λ i le. omega (arith, le)) (values_of ts) made

-- the entry of the next sequence makes no table of a later one
pub made_after : (last moment : ℕ) (entry : Entry) (ts : Schema) → AreMade last ts → AreMade (last + 1) (schema_after (last + 1) moment entry ts)
made_after last moment (Row incarnation key by_rule mutations) ts made = made_later last ts made
made_after last moment (Create name families retention) ts made =
    All-values-insert_entry (slice_cmp nat_cmp) name (new_table (last + 1) moment name families retention) (λ (i : TableInfo). i.incarnation ≤ last + 1) ts (made_later last ts made) (omega arith)
made_after last moment (Delete incarnation) ts made = made_without (last + 1) incarnation ts (made_later last ts made)
made_after last moment (Alter incarnation families) ts made = made_changed (last + 1) incarnation (with_families families) (λ t. refl) ts (made_later last ts made)
made_after last moment (Stream incarnation retention) ts made = made_changed (last + 1) incarnation (with_retention (last + 1) moment retention) (λ t. refl) ts (made_later last ts made)
made_after last moment Floor ts made = made_later last ts made
