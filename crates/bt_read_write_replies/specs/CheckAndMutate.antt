-- CheckAndMutateRow (google.bigtable.v2): one of two lists of mutations of a row, by whether the row meets a condition.
use Rattle.std.specs.Prelude.{◌≡◌, ◌⊎◌, ℕ, ◌==◌, ◌&&◌, ◌||◌, nat_lt, Bool, false, List, [], ◌∷◌, length, Option, Some, None, option_map, Result, Ok, Err, if◌then◌else◌}
use Rattle.std.specs.Option.{option_or}
use Rattle.bt_types.specs.Grammar.{is_row_key}
use Rattle.bt_entry.specs.declared.entry.Entry.{Entry}
use Rattle.bt_entry.specs.declared.entry.Entry.TheVariants.{Row}
use Rattle.bt_entry.specs.declared.table_info.TableInfo.{TableInfo}
use Rattle.bt_cond.specs.Conditions.{is_met}
use Rattle.bt_contents.specs.Contents.{Contents}
use Rattle.bt_contents.specs.Ranges.{row_with}
use Rattle.bt_filter.specs.Building.{filter_of}
use Rattle.bt_filter.specs.Flaws.{IsRefusedFor, IsValidFilter}
use Rattle.bt_filter.specs.declared.asked.AskedFilter.{AskedFilter}
use Rattle.bt_filter.specs.declared.filter.Filter.{Filter}
use Rattle.bt_filter.specs.declared.refusal.FilterRefusal.TheVariants.{BadFilter}
use Rattle.bt_filter.specs.declared.refusal.Why.{Why}
use Rattle.bt_messages.specs.declared.refusal.Refusal.{Refusal}
use Rattle.bt_messages.specs.declared.refusal.Refusal.TheVariants as refusal
use Rattle.bt_messages.specs.declared.response.Response.TheVariants.{CheckAndMutateRow}
use Rattle.bt_mutation.specs.Checks.{list_refusal}
use Rattle.bt_mutation.specs.Resolution.{resolved}
use Rattle.bt_mutation.specs.declared.asked.AskedMutation.{AskedMutation}
use Rattle.bt_rules.specs.declared.family.Family.{Family}
use Rattle.bt_state.specs.State.{Present, rows_of}
use Rattle.bt_plans.specs.Replies.{Reply, answers, changes, refused, refused_if, unless_refused}
use Rattle.bt_plans.specs.RowEntries.{most_mutations, refusal_for}
use Rattle.bt_plans.specs.FilterRefusals.{refusal_for_filter}
use Rattle.bt_plans.specs.declared.no_plan.NoPlan.{NoPlan}
use Rattle.bt_plans.specs.declared.no_plan.NoPlan.TheVariants.{Refused, OutOfMemory}
use Rattle.bt_read_write_replies.specs.declared.check_and_mutate_row.Check.{Check}
use Rattle.bt_read_write_replies.specs.declared.check_and_mutate_row.Choice.{Choice}

-- what is wrong with how many mutations there are
abbrev pub counts_refusal : List AskedMutation → List AskedMutation → Option Refusal
counts_refusal trues falses =
    if length trues == 0 && length falses == 0 then Some refusal.NoMutations
    else refused_if (nat_lt most_mutations (length trues) || nat_lt most_mutations (length falses)) refusal.TooManyMutations

-- what is wrong with the request, whatever its filter and its mutations are
abbrev pub check_refusal : Check → Option Refusal
check_refusal c = if is_row_key c.key then counts_refusal c.yes c.no else Some refusal.BadRowKey

-- what is wrong with the mutations of a list, which may be empty
abbrev pub branch_refusal : List Family → List AskedMutation → Option Refusal
branch_refusal families [] = None
branch_refusal families (a ∷ ms) = option_map refusal_for (list_refusal families most_mutations (a ∷ ms))

-- of both, the true one first
abbrev pub branches_refusal : List Family → List AskedMutation → List AskedMutation → Option Refusal
branches_refusal families trues falses = option_or (branch_refusal families trues) (branch_refusal families falses)

-- the entry of the list that is chosen; an empty one has none
abbrev pub entry_of : ℕ → TableInfo → List ℕ → List AskedMutation → Option Entry
entry_of m t key [] = None
entry_of m t key (a ∷ ms) = Some (Row t.incarnation key false (resolved m (a ∷ ms)))

-- the reply: whether the condition is met, and a record of the entry, if there is one
abbrev pub chosen_reply : ℕ → Bool → Option Entry → Reply
chosen_reply m met None = answers (CheckAndMutateRow met)
chosen_reply m met (Some e) = changes (CheckAndMutateRow met) m e

-- the reply by whether the condition is met; both lists are checked
abbrev pub met_reply : ℕ → TableInfo → Check → Bool → Reply
met_reply m t c met = unless_refused (branches_refusal t.families c.yes c.no) (chosen_reply m met (entry_of m t c.key (if met then c.yes else c.no)))

-- Over these rows, by the filter: the reply, where nothing is against it, or the refusal for what is against it.
abbrev pub IsConditionReply : ℕ → TableInfo → Check → Contents → Option AskedFilter → Reply → Type 0
IsConditionReply m t c rows None r = r ≡ met_reply m t c (is_met None c.key (row_with c.key rows))
IsConditionReply m t c rows (Some f) r =
    (IsValidFilter f × (r ≡ met_reply m t c (is_met (Some (filter_of f)) c.key (row_with c.key rows))))
    ⊎ ((cause : Why) × (node : ℕ) × IsRefusedFor f (BadFilter cause node) × (r ≡ refused (refusal_for_filter cause)))

-- the refusal, or else such a reply
abbrev pub IsUnlessRefused : Option Refusal → (Reply → Type 0) → Reply → Type 0
IsUnlessRefused None Replies r = Replies r
IsUnlessRefused (Some why) Replies r = r ≡ refused why

-- Over these rows: the replies to a request. Its filter is checked before its mutations, and both before the row is looked at.
abbrev pub IsCheckedReply : ℕ → TableInfo → Check → Contents → Reply → Type 0
IsCheckedReply m t c rows r = IsUnlessRefused (check_refusal c) (IsConditionReply m t c rows c.predicate) r

abbrev pub IsCheckReply : Present → ℕ → Check → Option TableInfo → Reply → Type 0
IsCheckReply p m c None r = r ≡ refused refusal.TableNotFound
IsCheckReply p m c (Some t) r = IsCheckedReply m t c (rows_of t.incarnation p.contents) r

-- ---- how the code comes to it

-- the filter as it is run, or why it is refused
abbrev pub IsBuilt : Option AskedFilter → Result (Option Filter) NoPlan → Type 0
IsBuilt None (Ok node) = node ≡ None
IsBuilt None (Err (Refused why)) = ⊥
IsBuilt None (Err OutOfMemory) = Unit {0}
IsBuilt (Some f) (Ok node) = IsValidFilter f × (node ≡ Some (filter_of f))
IsBuilt (Some f) (Err (Refused why)) = (cause : Why) × (node : ℕ) × IsRefusedFor f (BadFilter cause node) × (why ≡ refusal_for_filter cause)
IsBuilt (Some f) (Err OutOfMemory) = Unit {0}

-- the choice, or the refusal, leads to one of these replies
abbrev pub LeadsTo : ℕ → (Reply → Type 0) → Result Choice NoPlan → Type 0
LeadsTo m Replies (Ok c) = Replies (chosen_reply m c.met c.entry)
LeadsTo m Replies (Err (Refused why)) = Replies (refused why)
LeadsTo m Replies (Err OutOfMemory) = Unit {0}
