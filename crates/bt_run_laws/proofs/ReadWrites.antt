-- Replies to requests that read a row before they write it: their records may come.
use Rattle.std.proofs.Common.{◌≡◌, ◌≤◌, ◌==◌, ◌-◌, ◌%◌, ◌+◌, ◌++◌, ℕ, suc, max, Bool, true, false, List, [], ◌∷◌, length, map, Option, Some, None, Ordering, Less, Equal, Greater, refl, inl, inr, subst, sym, ap, cond, nat_cmp, arith, leb-true, ltb-false}
use Rattle.std.specs.Prelude.{ℤ, nat_le, nat_lt, is_none, option_map, unwrap_or, Result, Ok, Err, ◌+ℤ◌}
use Rattle.std.proofs.lemmas.Bool.{cases_lt}
use Rattle.std.specs.Cmp.Lexicographic.{slice_cmp}
use Rattle.std.specs.Int.{w64, cast_unsigned}
use Rattle.std.specs.List.{AllByRecursion, find}
use Rattle.std.specs.Map.{lookup}
use Rattle.std.specs.Option.{option_or}
use Rattle.std.specs.Ordering.{match_ordering}
use Rattle.std.specs.BTreeMap.{is_at}
use Rattle.bt_types.specs.Grammar.{is_qualifier, is_row_key}
use Rattle.bt_types.specs.Mutations.{is_in_column}
use Rattle.bt_types.specs.Time.{is_micros}
use Rattle.bt_types.specs.declared.cell.Cell.{Cell}
use Rattle.bt_cond.specs.Conditions.{is_met}
use Rattle.bt_contents.specs.Contents.{Contents, row_at}
use Rattle.bt_contents.specs.Ranges.{row_with}
use Rattle.bt_codec.proofs.Codecs.{wide64}
use Rattle.bt_entry.specs.Grammar.{IsSpellableMutation, last_moment, most_of_value}
use Rattle.bt_entry.specs.declared.table_info.TableInfo.{TableInfo}
use Rattle.bt_filter.specs.Building.{filter_of}
use Rattle.bt_filter.specs.declared.asked.AskedFilter.{AskedFilter}
use Rattle.bt_messages.specs.declared.refusal.Refusal.{Refusal}
use Rattle.bt_messages.specs.declared.refusal.Refusal.TheVariants.{BadRowKey}
use Rattle.bt_mutation.specs.Checks.{has_family}
use Rattle.bt_mutation.specs.declared.asked.AskedMutation.{AskedMutation}
use Rattle.bt_plans.specs.Replies.{Reply}
use Rattle.bt_plans.specs.RowEntries.{mutate_refusal}
use Rattle.bt_read_write_replies.proofs.Checking.{fine_chosen}
use Rattle.bt_read_write_replies.proofs.Modifying.{sets_may_come}
use Rattle.bt_read_write_replies.specs.CheckAndMutate.{IsCheckReply, IsConditionReply, IsUnlessRefused, branch_refusal, branches_refusal, check_refusal, chosen_reply, counts_refusal, entry_of, met_reply}
use Rattle.bt_read_write_replies.specs.ReadModifyWrite.{modified_reply, modify_refusal, modify_row_reply, most_rules, refusal_for_rules}
use Rattle.bt_read_write_replies.specs.declared.check_and_mutate_row.Check.{Check}
use Rattle.bt_rmw.proofs.Laws.{count, families_pass}
use Rattle.bt_rmw.specs.Modified.{bytes_of, cell_after, cell_before, cell_of, column_cmp, go_on, is_int64, latest_in, made_by, modified, new_cell, number_in, put_cell, set_of, time_after, value_after}
use Rattle.bt_rmw.specs.Rules.{first_refusal, rule_refusal, rules_of, rules_refusal, with_action}
use Rattle.bt_rmw.specs.declared.asked.AskedRule.{AskedRule}
use Rattle.bt_rmw.specs.declared.refusal.ModifyRefusal.{ModifyRefusal}
use Rattle.bt_rmw.specs.declared.refusal.RulesRefusal.TheVariants.{NoRules, TooMany, Kind, UnknownFamily, LongQualifier}
use Rattle.bt_rmw.specs.declared.rule.Action.{Action}
use Rattle.bt_rmw.specs.declared.rule.Action.TheVariants.{Append, Increment}
use Rattle.bt_rmw.specs.declared.rule.ModifyRule.{ModifyRule}
use Rattle.bt_state.specs.State.{Present, rows_of}
use Rattle.bt_laws.specs.Tables.{HasLawfulNames, IsLawfulRow}
use Rattle.bt_run_laws.proofs.Asked.{AreSoundMutations}
use Rattle.bt_run_laws.proofs.Refusals.{both_none, key_and_list, not_refused, passes, some_of}
use Rattle.bt_run_laws.proofs.Rows.{lawful_name, row_comes, whole_millis}
use Rattle.bt_run_laws.proofs.Turning.{Comes, IsOwn, one, unless}

-- ---- new cells

-- a cell of a lawful column, with a lawful timestamp and a short value
pub record IsNewCell (t : TableInfo) (c : Cell) : Type 0 where
  pub family : has_family t.families c.family ≡ true
  pub qualifier : is_qualifier c.qualifier ≡ true
  pub at : is_micros c.at ≡ true
  pub short : length c.value ≤ most_of_value

abbrev IsTimed : Cell → Type 0
IsTimed c = is_micros c.at ≡ true

abbrev IfTimed : Option Cell → Type 0
IfTimed None = Unit {0}
IfTimed (Some c) = IsTimed c

abbrev IsLawfulRule : TableInfo → ModifyRule → Type 0
IsLawfulRule t rule = (has_family t.families rule.family ≡ true) × (is_qualifier rule.qualifier ≡ true)

greater_of : (P : ℕ → Type 0) (a b : ℕ) → P a → P b → P (max a b)
greater_of P a b first second = elim (cases_lt a b) as (λ _. P (max a b)) [
  | inl below ↦ (let is : b ≡ max a b = omega (arith, below) in subst P is second)
  | inr above ↦ (let is : a ≡ max a b = omega (arith, above) in subst P is first)
]

found_timed : (q : Cell → Bool) (cs : List Cell) → AllByRecursion IsTimed cs → IfTimed (find q cs)
found_timed q [] all = tt
found_timed q (c ∷ cs) all = by (q c) (found_timed q cs all.1)
  where
    by : (b : Bool) → IfTimed (find q cs) → IfTimed (cond b (Some c) (find q cs))
    by true rest = all.0
    by false rest = rest

or_timed : (a b : Option Cell) → IfTimed a → IfTimed b → IfTimed (option_or a b)
or_timed None b first second = second
or_timed (Some c) b first second = first

new_timed : (m : ℕ) (o : Option Cell) → m ≤ last_moment → IfTimed o → is_micros (time_after m (option_map (λ c. c.at) o)) ≡ true
new_timed m None not_past is = greater_of (λ n. is_micros n ≡ true) (m - m % 1000) 0 (whole_millis m not_past) refl
new_timed m (Some c) not_past is = greater_of (λ n. is_micros n ≡ true) (m - m % 1000) c.at (whole_millis m not_past) is

-- a value, or a refusal
abbrev Value : Type 0
Value = Result (List ℕ) ModifyRefusal

abbrev made : List ℕ → Value
made v = Ok v

bytes_short : (z : ℤ) → length (bytes_of z) ≤ most_of_value
bytes_short z = let eight = wide64.len (cast_unsigned w64 z) in omega (arith, eight)

short_by : (x v : List ℕ) (why : ModifyRefusal) (b : Bool) → (b ≡ true → length x ≤ most_of_value) → cond b (made x) (Err why) ≡ made v → length v ≤ most_of_value
short_by x v why true short e = let same : x ≡ v = cc in subst (λ y. length y ≤ most_of_value) same (short refl)
short_by x v why false short e = absurd cc

eight_by : (z : ℤ) (v : List ℕ) (why other : ModifyRefusal) (b c : Bool) → cond b (cond c (made (bytes_of z)) (Err why)) (Err other) ≡ made v → length v ≤ most_of_value
eight_by z v why other true c e = short_by (bytes_of z) v why c (λ is. bytes_short z) e
eight_by z v why other false c e = absurd cc

value_short : (index : ℕ) (action : Action) (before : Option (List ℕ)) (v : List ℕ) → value_after index action before ≡ made v → length v ≤ most_of_value
value_short index (Append more) before v e =
    short_by (unwrap_or before [] ++ more) v _ (nat_le (length (unwrap_or before [] ++ more)) most_of_value) (λ is. leb-true (length (unwrap_or before [] ++ more)) most_of_value is) e
value_short index (Increment amount) None v e = let same : bytes_of amount ≡ v = cc in subst (λ y. length y ≤ most_of_value) same (bytes_short amount)
value_short index (Increment amount) (Some value) v e = eight_by (number_in value +ℤ amount) v _ _ (length value == 8) (is_int64 (number_in value +ℤ amount)) e

abbrev Outcome : Type 0
Outcome = Result (List Cell) ModifyRefusal

module _ (t : TableInfo) (m : ℕ) (not_past : m ≤ last_moment) (cells : List Cell) (timed : AllByRecursion IsTimed cells) where
  cell_by : (rule : ModifyRule) (before : Option Cell) (r : Value) (c : Cell) → IsLawfulRule t rule → IfTimed before → ((v : List ℕ) → r ≡ made v → length v ≤ most_of_value) → cell_of m rule before r ≡ Ok c → IsNewCell t c
  cell_by rule before (Err why) c lawful is short e = absurd cc
  cell_by rule before (Ok v) c lawful is short e =
      let same : new_cell m rule before v ≡ c = cc in
      subst (IsNewCell t) same (record { family = lawful.0; qualifier = lawful.1; at = new_timed m before not_past is; short = short v refl })

  new_timed_cells : (cs : List Cell) → AllByRecursion (IsNewCell t) cs → AllByRecursion IsTimed cs
  new_timed_cells [] all = tt
  new_timed_cells (c ∷ cs) all = (all.0.at, new_timed_cells cs all.1)

  all_put : (c : Cell) (ds : List Cell) → IsNewCell t c → AllByRecursion (IsNewCell t) ds → AllByRecursion (IsNewCell t) (put_cell c ds)
  all_put c [] here all = (here, tt)
  all_put c (d ∷ ds) here all = by (column_cmp c d) (all_put c ds here all.1)
    where
      by : (o : Ordering) → AllByRecursion (IsNewCell t) (put_cell c ds) → AllByRecursion (IsNewCell t) (match_ordering o (c ∷ d ∷ ds) (c ∷ ds) (d ∷ put_cell c ds))
      by Less rest = (here, all)
      by Equal rest = (here, all.1)
      by Greater rest = (all.0, rest)

  go_by : (r : Result Cell ModifyRefusal) (next : Cell → Outcome) (new : List Cell) → ((c : Cell) → r ≡ Ok c → next c ≡ Ok new → AllByRecursion (IsNewCell t) new) → go_on r next ≡ Ok new → AllByRecursion (IsNewCell t) new
  go_by (Ok c) next new then e = then c refl e
  go_by (Err why) next new then e = absurd cc

  all_made : (index : ℕ) (rules : List ModifyRule) (old new : List Cell) → AllByRecursion (IsLawfulRule t) rules → AllByRecursion (IsNewCell t) old → made_by m cells index rules old ≡ Ok new → AllByRecursion (IsNewCell t) new
  all_made index [] old new lawful all e = let same : old ≡ new = cc in subst (AllByRecursion (IsNewCell t)) same all
  all_made index (rule ∷ rules) old new lawful all e =
      let before = cell_before rule old cells in
      let is = or_timed (latest_in rule.family rule.qualifier old) (latest_in rule.family rule.qualifier cells)
      (found_timed (is_in_column rule.family rule.qualifier 0 0) old (new_timed_cells old all)) (found_timed (is_in_column rule.family rule.qualifier 0 0) cells timed) in
      go_by (cell_after m index rule before) (λ c. made_by m cells (index + 1) rules (put_cell c old)) new
      (λ c here then.
      all_made (index + 1) rules (put_cell c old) new lawful.1
      (all_put c old (cell_by rule before (value_after index rule.action (option_map (λ d. d.value) before)) c lawful.0 is (λ v is. value_short index rule.action (option_map (λ d. d.value) before) v is) here) all) then) e

-- ---- rules

-- as many rules as were asked for, each lawful
abbrev AreRulesOf : TableInfo → ℕ → List ModifyRule → Type 0
AreRulesOf t n rules = (length rules ≡ n) × AllByRecursion (IsLawfulRule t) rules

module _ (t : TableInfo) where
  with_kind : (rule : AskedRule) (o : Option Action) (n : ℕ) (rules : List ModifyRule) → is_none o ≡ false → has_family t.families rule.family ≡ true → is_qualifier rule.qualifier ≡ true → AreRulesOf t n rules → AreRulesOf t (suc n) (with_action rule o rules)
  with_kind rule None n rules some family qualifier rest = absurd cc
  with_kind rule (Some action) n rules some family qualifier rest = (ap suc rest.0, ((family, qualifier), rest.1))

  rules_lawful : (index : ℕ) (asked : List AskedRule) → first_refusal t.families index asked ≡ None → AreRulesOf t (length asked) (rules_of asked)
  rules_lawful index [] none = (refl, tt)
  rules_lawful index (rule ∷ asked) none =
      let both = both_none (rule_refusal t.families index rule) (first_refusal t.families (index + 1) asked) none in
      let first = both_none (cond (is_none rule.action) (Some (Kind index)) None) _ both.0 in
      let second = both_none (cond (has_family t.families rule.family) None (Some (UnknownFamily index))) _ first.1 in
      let kind = not_refused (is_none rule.action) (Kind index) None first.0 in
      with_kind rule rule.action (length asked) (rules_of asked) kind.0 (passes (has_family t.families rule.family) (UnknownFamily index) second.0) (passes (is_qualifier rule.qualifier) (LongQualifier index) second.1)
      (rules_lawful (index + 1) asked both.1)

  list_lawful : (asked : List AskedRule) → rules_refusal t.families most_rules asked ≡ None → (1 ≤ length (rules_of asked)) × (length (rules_of asked) ≤ most_rules) × AllByRecursion (IsLawfulRule t) (rules_of asked)
  list_lawful asked none =
      let some = not_refused (length asked == 0) NoRules _ none in
      let few = not_refused (nat_lt most_rules (length asked)) TooMany _ some.1 in
      let rules = rules_lawful 0 asked few.1 in
      (rw rules.0 (some_of (length asked) some.0), rw rules.0 (ltb-false most_rules (length asked) few.0), rules.1)

key_is : (b : Bool) (o : Option Refusal) → cond b o (Some BadRowKey) ≡ None → b ≡ true
key_is true o none = refl
key_is false o none = absurd cc

-- ---- replies

row_timed : (cs : List Cell) → AllByRecursion HasLawfulNames cs → AllByRecursion IsTimed cs
row_timed [] all = tt
row_timed (c ∷ cs) all = (all.0.at, row_timed cs all.1)

found_row : (key : List ℕ) (rows : Contents) → AllByRecursion IsLawfulRow rows → AllByRecursion IsTimed (row_at key rows)
found_row key [] all = tt
found_row key (r ∷ rows) all = by (is_at (slice_cmp nat_cmp key) r.0) (found_row key rows all.1)
  where
    by : (b : Bool) → AllByRecursion IsTimed (row_at key rows) → AllByRecursion IsTimed (unwrap_or (cond b (Some r.1) (lookup (is_at (slice_cmp nat_cmp key)) rows)) [])
    by true rest = row_timed r.1 all.0.named
    by false rest = rest

module _ (p : Present) (m : ℕ) (before : p.floor ≤ m) (not_past : m ≤ last_moment) where
  module _ (t : TableInfo) (is : IsOwn p t) (key : List ℕ) where
    sets_spellable : (cs : List Cell) → AllByRecursion (IsNewCell t) cs → AllByRecursion IsSpellableMutation (map set_of cs)
    sets_spellable [] all = tt
    sets_spellable (c ∷ cs) all = ((lawful_name t is.families m not_past c.family all.0.family, all.0.qualifier, all.0.at, all.0.short), sets_spellable cs all.1)

    rule_families : (rules : List ModifyRule) → AllByRecursion (IsLawfulRule t) rules → AllByRecursion (λ rule. has_family t.families rule.family ≡ true) rules
    rule_families [] all = tt
    rule_families (rule ∷ rules) all = (all.0.0, rule_families rules all.1)

    -- the new cells that lawful rules make may come
    modified_comes : (asked : List AskedRule) (r : Outcome) → modify_refusal key asked t ≡ None → modified m (rules_of asked) (row_at key (rows_of t.incarnation p.contents)) ≡ r → Comes p (modified_reply m key t r)
    modified_comes asked (Err why) none e = tt
    modified_comes asked (Ok cells) none e =
        let row = row_at key (rows_of t.incarnation p.contents) in
        let both = key_and_list refusal_for_rules (is_row_key key) (rules_refusal t.families most_rules asked) none in
        let rules = list_lawful t asked both.1 in
        let counted = count m row (rules_of asked) cells rules.0 e in
        let few = counted.1 in
        let fewer = rules.1 in
        let new = all_made t m not_past row (found_row key (rows_of t.incarnation p.contents) is.rows.lawful.each) 0 (rules_of asked) [] cells rules.2 tt e in
        let families = families_pass m row (has_family t.families) (rules_of asked) cells (rule_families (rules_of asked) rules.2) e in
        one p _ ((sets_may_come t m key cells is.small both.0 counted.0 (omega (arith, few, fewer)) (sets_spellable cells new) families not_past).lawful p is.own before)

  pub modify_row_comes : (key : List ℕ) (asked : List AskedRule) (o : Option TableInfo) → ((t : TableInfo) → o ≡ Some t → IsOwn p t) → Comes p (modify_row_reply p m key asked o)
  modify_row_comes key asked None is = tt
  modify_row_comes key asked (Some t) is =
      unless p (modify_refusal key asked t) _ (λ none. modified_comes t (is t refl) key asked (modified m (rules_of asked) (row_at key (rows_of t.incarnation p.contents))) none refl)

  -- ---- CheckAndMutateRow

  module _ (t : TableInfo) (is : IsOwn p t) (c : Check) (sound : AreSoundMutations c.yes × AreSoundMutations c.no) where
    chosen_comes : (met : Bool) (ms : List AskedMutation) → AreSoundMutations ms → is_row_key c.key ≡ true → branch_refusal t.families ms ≡ None → Comes p (chosen_reply m met (entry_of m t c.key ms))
    chosen_comes met [] fit lawful none = tt
    chosen_comes met (a ∷ ms) fit lawful none =
        let fine : mutate_refusal c.key (a ∷ ms) t ≡ None = rw lawful none in
        one p _ ((row_comes p m before not_past t is c.key (a ∷ ms) fit fine).lawful p is.own before)

    chosen_sound : (met : Bool) → AreSoundMutations (cond met c.yes c.no)
    chosen_sound true = sound.0
    chosen_sound false = sound.1

    met_comes : (met : Bool) → is_row_key c.key ≡ true → Comes p (met_reply m t c met)
    met_comes met lawful =
        unless p (branches_refusal t.families c.yes c.no) _ (λ none. chosen_comes met (cond met c.yes c.no) (chosen_sound met) lawful (fine_chosen t c.yes c.no met none))

    condition_comes : (rows : Contents) (f : Option AskedFilter) (r : Reply) → is_row_key c.key ≡ true → IsConditionReply m t c rows f r → Comes p r
    condition_comes rows None r lawful e = subst (Comes p) (sym e) (met_comes _ lawful)
    condition_comes rows (Some f) r lawful e = elim e as (λ _. Comes p r) [
      | inl valid ↦ subst (Comes p) (sym valid.1) (met_comes (is_met (Some (filter_of f)) c.key (row_with c.key rows)) lawful)
      | inr bad ↦ subst (Comes p) (sym bad.3) tt
    ]

    unless_comes : (why : Option Refusal) (rows : Contents) (r : Reply) → (why ≡ None → is_row_key c.key ≡ true) → IsUnlessRefused why (IsConditionReply m t c rows c.predicate) r → Comes p r
    unless_comes None rows r lawful e = condition_comes rows c.predicate r (lawful refl) e
    unless_comes (Some why) rows r lawful e = subst (Comes p) (sym e) tt

  pub check_comes : (c : Check) (o : Option TableInfo) (r : Reply) → ((t : TableInfo) → o ≡ Some t → IsOwn p t) → AreSoundMutations c.yes × AreSoundMutations c.no → IsCheckReply p m c o r → Comes p r
  check_comes c None r is sound e = subst (Comes p) (sym e) tt
  check_comes c (Some t) r is sound e =
      unless_comes t (is t refl) c sound (check_refusal c) (rows_of t.incarnation p.contents) r (λ none. key_is (is_row_key c.key) (counts_refusal c.yes c.no) none) e
