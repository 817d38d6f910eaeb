-- Mutations that a table takes.
use Rattle.std.proofs.Common.{◌≡◌, ◌≤◌, ℕ, ◌+◌, Bool, true, false, List, [], ◌∷◌, length, Option, Some, None, refl, ap, ◌∙◌, cond, ◌&&◌, ◌==◌}
use Rattle.std.specs.Prelude.{nat_lt, option_map}
use Rattle.std.specs.List.{list_all}
use Rattle.std.specs.Option.{option_or}
use Rattle.bt_types.specs.Grammar.{is_row_key}
use Rattle.bt_entry.specs.Grammar.{IsSpellableEntry, last_moment}
use Rattle.bt_entry.specs.declared.entry.Entry.TheVariants.{Row}
use Rattle.bt_entry.specs.declared.table_info.TableInfo.{TableInfo}
use Rattle.bt_mutation.specs.Checks.{column_refusal, family_refusal, first_refusal, has_family, list_refusal, mutation_refusal}
use Rattle.bt_mutation.specs.Resolution.{resolved, resolved_mutation}
use Rattle.bt_mutation.specs.declared.asked.AskedMutation.{AskedMutation}
use Rattle.bt_mutation.specs.declared.asked.AskedMutation.TheVariants.{SetCell, DeleteColumn, DeleteFamily, DeleteRow, Missing}
use Rattle.bt_mutation.specs.declared.refusal.MutationRefusal.{MutationRefusal}
use Rattle.bt_mutation.specs.declared.refusal.MutationRefusal.TheVariants.{NoMutations, TooMany, UnknownFamily}
use Rattle.bt_messages.specs.declared.refusal.Refusal.TheVariants.{BadRowKey}
use Rattle.bt_plans.proofs.InTurn.{MayCome}
use Rattle.bt_plans.specs.RowEntries.{most_mutations, mutate_refusal, refusal_for}
use Rattle.bt_schema.specs.Schema.{is_of_family}

abbrev no_refusal : Option MutationRefusal
no_refusal = None

-- neither of two refusals is there
both_none : (a b : Option MutationRefusal) → option_or a b ≡ no_refusal → (a ≡ no_refusal) × (b ≡ no_refusal)
both_none None b none = (refl, none)
both_none (Some e) b none = absurd cc

-- a test that refuses came out well
passes : (b : Bool) (e : MutationRefusal) → cond b no_refusal (Some e) ≡ no_refusal → b ≡ true
passes true e none = refl
passes false e none = absurd cc

module _ (t : TableInfo) where
  known : (index : ℕ) (family : List ℕ) → family_refusal t.families index family ≡ no_refusal → has_family t.families family ≡ true
  known index family none = passes (has_family t.families family) (UnknownFamily index) none

  known_column : (index : ℕ) (family qualifier : List ℕ) (rest : Option MutationRefusal) → option_or (column_refusal t.families index family qualifier) rest ≡ no_refusal → has_family t.families family ≡ true
  known_column index family qualifier rest none =
      known index family (both_none (family_refusal t.families index family) _ (both_none (column_refusal t.families index family qualifier) rest none).0).0

  -- a mutation that is not refused names a family of the table, or none
  of_family : (index m : ℕ) (a : AskedMutation) → mutation_refusal t.families index a ≡ no_refusal → is_of_family t (resolved_mutation m a) ≡ true
  of_family index m (SetCell family qualifier at value) none = known_column index family qualifier _ none
  of_family index m (DeleteColumn family qualifier start end) none = known_column index family qualifier _ none
  of_family index m (DeleteFamily family) none = known index family none
  of_family index m DeleteRow none = refl
  of_family index m Missing none = absurd cc

  all_of_families : (index m : ℕ) (ms : List AskedMutation) → first_refusal t.families index ms ≡ no_refusal → list_all (is_of_family t) (resolved m ms) ≡ true
  all_of_families index m [] none = refl
  all_of_families index m (a ∷ ms) none =
      let both = both_none (mutation_refusal t.families index a) (first_refusal t.families (index + 1) ms) none in
      ap (λ (b : Bool). b && list_all (is_of_family t) (resolved m ms)) (of_family index m a both.0) ∙ all_of_families (index + 1) m ms both.1

  -- a list that is not refused has no refused mutation
  each_passes : (b c : Bool) (rest : Option MutationRefusal) → cond b (Some NoMutations) (cond c (Some TooMany) rest) ≡ no_refusal → rest ≡ no_refusal
  each_passes true c rest none = absurd cc
  each_passes false true rest none = absurd cc
  each_passes false false rest none = none

  -- what is not refused has no refused mutation
  passed_by : (b : Bool) (o : Option MutationRefusal) → cond b (option_map refusal_for o) (Some BadRowKey) ≡ None → o ≡ no_refusal
  passed_by true None none = refl
  passed_by true (Some e) none = absurd cc
  passed_by false o none = absurd cc

  -- the table takes the entry of a row that is not refused
  pub may_come : (m : ℕ) (key : List ℕ) (ms : List AskedMutation) → mutate_refusal key ms t ≡ None → IsSpellableEntry (Row t.incarnation key false (resolved m ms)) → m ≤ last_moment
      → MayCome t m (Row t.incarnation key false (resolved m ms))
  may_come m key ms none spellable not_past =
      let passed = passed_by (is_row_key key) (list_refusal t.families most_mutations ms) none in
      let first = each_passes (length ms == 0) (nat_lt most_mutations (length ms)) (first_refusal t.families 0 ms) passed in
      let all : list_all (is_of_family t) (resolved m ms) ≡ true = all_of_families 0 m ms first in
      record {
        of_row = tt;
        lawful = λ p found before. record { spellable = spellable; not_past = not_past; not_before = before; allowed = rw (found, all) refl };
      }
