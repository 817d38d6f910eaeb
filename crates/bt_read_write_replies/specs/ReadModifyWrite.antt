-- ReadModifyWriteRow (google.bigtable.v2): rules over the latest cells of a row.
use Rattle.std.specs.Prelude.{◌≡◌, ℕ, false, List, map, Option, Some, None, option_map, Result, Ok, Err, if◌then◌else◌}
use Rattle.bt_types.specs.Grammar.{is_row_key}
use Rattle.bt_types.specs.declared.cell.Cell.{Cell}
use Rattle.bt_entry.specs.declared.entry.Entry.TheVariants.{Row}
use Rattle.bt_entry.specs.declared.table_info.TableInfo.{TableInfo}
use Rattle.bt_contents.specs.Contents.{row_at}
use Rattle.bt_messages.specs.declared.refusal.Refusal.{Refusal}
use Rattle.bt_messages.specs.declared.refusal.Refusal.TheVariants as refusal
use Rattle.bt_messages.specs.declared.response.Response.TheVariants.{ReadModifyWriteRow}
use Rattle.bt_rmw.specs.Modified.{modified, set_of}
use Rattle.bt_rmw.specs.Rules.{rules_of, rules_refusal}
use Rattle.bt_rmw.specs.declared.asked.AskedRule.{AskedRule}
use Rattle.bt_rmw.specs.declared.refusal.ModifyRefusal.{ModifyRefusal}
use Rattle.bt_rmw.specs.declared.refusal.ModifyRefusal.TheVariants as modify
use Rattle.bt_rmw.specs.declared.refusal.RulesRefusal.{RulesRefusal}
use Rattle.bt_rmw.specs.declared.refusal.RulesRefusal.TheVariants as rules
use Rattle.bt_state.specs.State.{Present, rows_of}
use Rattle.bt_plans.specs.Replies.{Reply, changes, refused, unless_refused}
use Rattle.bt_plans.specs.declared.no_plan.NoPlan.{NoPlan}
use Rattle.bt_plans.specs.declared.no_plan.NoPlan.TheVariants.{Refused, OutOfMemory}
use Rattle.bt_read_write_replies.specs.declared.read_modify_write_row.Modified.{Modified}

-- a request has at most 100,000 rules
abbrev pub most_rules : ℕ
most_rules = 100000

-- the refusal of a request for its rules
abbrev pub refusal_for_rules : RulesRefusal → Refusal
refusal_for_rules rules.NoRules = refusal.NoRules
refusal_for_rules rules.TooMany = refusal.TooManyRules
refusal_for_rules (rules.Kind index) = refusal.RuleWithoutKind
refusal_for_rules (rules.UnknownFamily index) = refusal.FamilyNotFound
refusal_for_rules (rules.LongQualifier index) = refusal.QualifierTooLong
-- (rules are never refused for this by their definition)
refusal_for_rules rules.OutOfMemory = refusal.OutOfMemory

-- the refusal of a request for what the row has
abbrev pub refusal_for_row : ModifyRefusal → Refusal
refusal_for_row (modify.NotEightBytes index) = refusal.NotEightBytes
refusal_for_row (modify.IncrementRange index) = refusal.IncrementOutOfRange
refusal_for_row (modify.ValueTooLarge index) = refusal.ValueTooLarge
-- (nor are new cells)
refusal_for_row modify.OutOfMemory = refusal.OutOfMemory

-- what is wrong with the request, whatever the row has
abbrev pub modify_refusal : List ℕ → List AskedRule → TableInfo → Option Refusal
modify_refusal key asked t =
    if is_row_key key then option_map refusal_for_rules (rules_refusal t.families most_rules asked)
    else Some refusal.BadRowKey

-- the new cells, and one record that sets them; or the refusal of the first rule that cannot be carried out, and no change
abbrev pub modified_reply : ℕ → List ℕ → TableInfo → Result (List Cell) ModifyRefusal → Reply
modified_reply m key t (Ok cells) = changes (ReadModifyWriteRow key cells) m (Row t.incarnation key false (map set_of cells))
modified_reply m key t (Err why) = refused (refusal_for_row why)

abbrev pub modify_row_reply : Present → ℕ → List ℕ → List AskedRule → Option TableInfo → Reply
modify_row_reply p m key asked None = refused refusal.TableNotFound
modify_row_reply p m key asked (Some t) =
    unless_refused (modify_refusal key asked t) (modified_reply m key t (modified m (rules_of asked) (row_at key (rows_of t.incarnation p.contents))))

-- ---- how the code comes to it

-- the rules cannot be carried out for that, or there is no memory
abbrev pub IsRefusedForRow : Result (List Cell) ModifyRefusal → NoPlan → Type 0
IsRefusedForRow made (Refused refusal) = (e : ModifyRefusal) × (made ≡ Err e) × (refusal ≡ refusal_for_row e)
IsRefusedForRow made OutOfMemory = Unit {0}

-- what a row is to become: its key, its new cells and their entry; or why it is not
abbrev pub IsModified : Option Refusal → TableInfo → List ℕ → Result (List Cell) ModifyRefusal → Result Modified NoPlan → Type 0
IsModified why t key made (Ok x) = (why ≡ None) × (made ≡ Ok x.cells) × (x.key ≡ key) × (x.entry ≡ Row t.incarnation key false (map set_of x.cells))
IsModified why t key made (Err OutOfMemory) = Unit {0}
IsModified None t key made (Err (Refused refusal)) = IsRefusedForRow made (Refused refusal)
IsModified (Some why) t key made (Err (Refused refusal)) = refusal ≡ why
