-- Conditional changes: from what was checked to the reply.
use Rattle.std.proofs.Common.{◌≡◌, ◌≤◌, ◌<◌, ◌^◌, ℕ, zero, suc, Bool, true, false, List, [], ◌∷◌, length, ◌==◌, Option, Some, None, refl, inl, inr, ap, arith, cond}
use Rattle.std.specs.Prelude.{Result, Ok, Err, IfOk}
use Rattle.std.specs.List.{AllByRecursion}
use Rattle.std.specs.Option.{option_or}
use Rattle.bt_types.specs.Grammar.{is_row_key}
use Rattle.bt_cond.specs.Conditions.{is_met}
use Rattle.bt_contents.specs.Contents.{Contents}
use Rattle.bt_contents.specs.Ranges.{row_with}
use Rattle.bt_entry.specs.Grammar.{IsSpellableMutation, last_moment}
use Rattle.bt_entry.specs.declared.entry.Entry.TheVariants.{Row}
use Rattle.bt_entry.specs.declared.table_info.TableInfo.{TableInfo}
use Rattle.bt_filter.specs.declared.asked.AskedFilter.{AskedFilter}
use Rattle.bt_filter.specs.declared.filter.Filter.{Filter}
use Rattle.bt_messages.specs.declared.refusal.Refusal.{Refusal}
use Rattle.bt_mutation.specs.Resolution.{resolved}
use Rattle.bt_mutation.specs.declared.asked.AskedMutation.{AskedMutation}
use Rattle.bt_plans.proofs.Mutates.{may_come}
use Rattle.bt_plans.specs.Comings.{MayCome}
use Rattle.bt_plans.specs.Plans.{IsPlan, IsPlanOf}
use Rattle.bt_plans.specs.Replies.{Reply, refused}
use Rattle.bt_plans.specs.RowEntries.{most_mutations, mutate_refusal}
use Rattle.bt_plans.specs.declared.no_plan.NoPlan.{NoPlan}
use Rattle.bt_plans.specs.declared.no_plan.NoPlan.TheVariants.{OutOfMemory, Refused}
use Rattle.bt_plans.specs.declared.plan.Plan.{Plan}
use Rattle.bt_state.specs.State.{Present}
use Rattle.bt_read_write_replies.specs.CheckAndMutate.{IsBuilt, IsCheckedReply, IsConditionReply, LeadsTo, branch_refusal, branches_refusal, check_refusal, chosen_reply, entry_of, met_reply}
use Rattle.bt_read_write_replies.specs.declared.check_and_mutate_row.Check.{Check}

module _ (m : ℕ) (t : TableInfo) (c : Check) (rows : Contents) where
  -- the filter is refused
  by_filter : (f : Option AskedFilter) (why : Refusal) → IsBuilt f (Err (Refused why)) → IsConditionReply m t c rows f (refused why)
  by_filter None why bad = absurd bad
  by_filter (Some f) why bad = inr (bad.0, bad.1, bad.2, ap refused bad.3)

  -- what is chosen is what the definition chooses
  by_choice : (f : Option AskedFilter) (ready : Option Filter) → IsBuilt f (Ok ready) → IsConditionReply m t c rows f (met_reply m t c (is_met ready c.key (row_with c.key rows)))
  by_choice None ready built = ap (λ (n : Option Filter). met_reply m t c (is_met n c.key (row_with c.key rows))) built
  by_choice (Some f) ready built = inl (built.0, ap (λ (n : Option Filter). met_reply m t c (is_met n c.key (row_with c.key rows))) built.1)

  pub refused_by_check : (why : Refusal) → check_refusal c ≡ Some why → IsCheckedReply m t c rows (refused why)
  refused_by_check why is = rw is refl

  pub refused_by_filter : (why : Refusal) → check_refusal c ≡ None → IsBuilt c.predicate (Err (Refused why)) → IsCheckedReply m t c rows (refused why)
  refused_by_filter why fine bad = rw fine (by_filter c.predicate why bad)

  pub refused_by_lists : (why : Refusal) (ready : Option Filter) → check_refusal c ≡ None → IsBuilt c.predicate (Ok ready) → branches_refusal t.families c.yes c.no ≡ Some why → IsCheckedReply m t c rows (refused why)
  refused_by_lists why ready fine built is =
      let met = is_met ready c.key (row_with c.key rows) in
      let same : met_reply m t c met ≡ refused why = rw is refl in
      rw (fine, ← same) (by_choice c.predicate ready built)

  pub replied : (ready : Option Filter) → check_refusal c ≡ None → IsBuilt c.predicate (Ok ready) → branches_refusal t.families c.yes c.no ≡ None → (met : Bool) → met ≡ is_met ready c.key (row_with c.key rows) → IsCheckedReply m t c rows (chosen_reply m met (entry_of m t c.key (cond met c.yes c.no)))
  replied ready fine built none met is =
      let same : met_reply m t c (is_met ready c.key (row_with c.key rows)) ≡ chosen_reply m met (entry_of m t c.key (cond met c.yes c.no)) = rw (none, is) refl in
      rw (fine, ← same) (by_choice c.predicate ready built)

  pub built_fails : (e : NoPlan) → check_refusal c ≡ None → IsBuilt c.predicate (Err e) → LeadsTo m (IsCheckedReply m t c rows) (Err e)
  built_fails (Refused why) fine bad = refused_by_filter why fine bad
  built_fails OutOfMemory fine bad = tt

-- ---- the chosen list

-- of both lists nothing is wrong with either
pub each_fine : (a b : Option Refusal) → option_or a b ≡ None → (a ≡ None) × (b ≡ None)
each_fine None b none = (refl, none)
each_fine (Some e) b none = absurd cc

pub fine_chosen : (t : TableInfo) (trues falses : List AskedMutation) (met : Bool) → branches_refusal t.families trues falses ≡ None → branch_refusal t.families (cond met trues falses) ≡ None
fine_chosen t trues falses true none = (each_fine (branch_refusal t.families trues) (branch_refusal t.families falses) none).0
fine_chosen t trues falses false none = (each_fine (branch_refusal t.families trues) (branch_refusal t.families falses) none).1

-- a list with mutations has an entry
pub has_entry : (m : ℕ) (t : TableInfo) (key : List ℕ) (ms : List AskedMutation) → (length ms == 0) ≡ false → entry_of m t key ms ≡ Some (Row t.incarnation key false (resolved m ms))
has_entry m t key [] some = absurd cc
has_entry m t key (a ∷ ms) some = refl

-- nothing is wrong with it as a list of MutateRow
pub fine_alone : (t : TableInfo) (key : List ℕ) (ms : List AskedMutation) → (length ms == 0) ≡ false → is_row_key key ≡ true → branch_refusal t.families ms ≡ None → mutate_refusal key ms t ≡ None
fine_alone t key [] some lawful none = absurd cc
fine_alone t key (a ∷ ms) some lawful none = rw lawful none

at_least_one : (n : ℕ) → (n == 0) ≡ false → 1 ≤ n
at_least_one zero is = absurd cc
at_least_one (suc n) is = omega arith

-- the table takes its entry
pub chosen_may_come : (t : TableInfo) (m : ℕ) (key : List ℕ) (ms : List AskedMutation) → t.incarnation < 2 ^ 64 → is_row_key key ≡ true → (length ms == 0) ≡ false → length ms ≤ most_mutations
    → branch_refusal t.families ms ≡ None → AllByRecursion IsSpellableMutation (resolved m ms) → length (resolved m ms) ≡ length ms → m ≤ last_moment
    → MayCome t m (Row t.incarnation key false (resolved m ms))
chosen_may_come t m key ms small lawful some few none spellable same not_past =
    let more : 1 ≤ length (resolved m ms) = rw same (at_least_one (length ms) some) in
    let less : length (resolved m ms) < 2 ^ 32 = omega (arith, same, few) in
    may_come t m key ms (fine_alone t key ms some lawful none) (small, lawful, (more, less, spellable)) not_past

-- ---- plans

-- a plan of a reply that is one of these
pub plan_of_some : {E : Type 0} (p : Present) (Replies : Reply → Type 0) (r : Reply) (result : Result Plan E) → Replies r → IfOk result (λ plan. IsPlan plan p r) → IfOk result (λ plan. IsPlanOf plan p Replies)
plan_of_some p Replies r (Ok plan) is made = (r, is, made)
plan_of_some p Replies r (Err e) is made = tt
