-- What rules make of a row, as an entry that may come.
use Rattle.std.proofs.Common.{◌≡◌, ◌≤◌, ◌<◌, ◌^◌, ℕ, true, false, List, [], ◌∷◌, length, map, Option, Some, None, refl, subst, sym, ap, ◌∙◌}
use Rattle.std.specs.Prelude.{Result, Ok, Err, IfOk}
use Rattle.std.specs.List.{AllByRecursion, list_all}
use Rattle.std.proofs.lemmas.Bool.{and_from, and_parts}
use Rattle.bt_types.specs.Grammar.{is_row_key}
use Rattle.bt_types.specs.declared.cell.Cell.{Cell}
use Rattle.bt_entry.specs.Grammar.{IsSpellableMutation, last_moment}
use Rattle.bt_contents.specs.Contents.{Contents, row_at}
use Rattle.bt_entry.specs.declared.entry.Entry.{Entry}
use Rattle.bt_entry.specs.declared.entry.Entry.TheVariants.{Row}
use Rattle.bt_entry.specs.declared.table_info.TableInfo.{TableInfo}
use Rattle.bt_mutation.specs.Checks.{has_family}
use Rattle.bt_messages.specs.declared.refusal.Refusal.{Refusal}
use Rattle.bt_plans.specs.Comings.{MayCome}
use Rattle.bt_messages.specs.declared.response.Response.TheVariants.{ReadModifyWriteRow}
use Rattle.bt_plans.specs.Replies.{changes, refused, unless_refused}
use Rattle.bt_plans.specs.declared.no_plan.NoPlan.{NoPlan}
use Rattle.bt_plans.specs.declared.no_plan.NoPlan.TheVariants.{OutOfMemory, Refused}
use Rattle.bt_read_write_replies.specs.ReadModifyWrite.{IsModified, IsRefusedForRow, modified_reply, modify_refusal, modify_row_reply}
use Rattle.bt_rmw.proofs.Laws.{IsAlike, all_found}
use Rattle.bt_rmw.specs.Columns.{has_column, latest_of_each}
use Rattle.bt_rmw.specs.Modified.{modified, set_of}
use Rattle.bt_rmw.specs.Rules.{column_of, rules_of}
use Rattle.bt_rmw.specs.declared.asked.AskedRule.{AskedRule}
use Rattle.bt_rmw.specs.declared.column.Column.{Column}
use Rattle.bt_rmw.specs.declared.refusal.ModifyRefusal.{ModifyRefusal}
use Rattle.bt_rmw.specs.declared.rule.ModifyRule.{ModifyRule}
use Rattle.bt_schema.specs.Schema.{is_of_family}
use Rattle.bt_state.specs.State.{Present, rows_of}

pub alike_itself : (cells : List Cell) (rules : List ModifyRule) → AllByRecursion (IsAlike cells cells) rules
alike_itself cells [] = tt
alike_itself cells (rule ∷ rules) = (refl, alike_itself cells rules)

-- the latest cells of all columns that are named stand for the row
pub stand_for : {E : Type 0} (row : List Cell) (columns : List Column) (rules : List ModifyRule) (r : Result (List Cell) E) → AllByRecursion (λ rule. has_column columns (column_of rule) ≡ true) rules
    → IfOk r (λ latest. latest ≡ latest_of_each row columns) → IfOk r (λ latest. AllByRecursion (IsAlike latest row) rules)
stand_for row columns rules (Ok latest) among is = subst (λ (l : List Cell). AllByRecursion (IsAlike l row) rules) (sym is) (all_found row columns rules among)
stand_for row columns rules (Err e) among is = tt

of_table : (t : TableInfo) (cells : List Cell) → list_all (λ c. has_family t.families c.family) cells ≡ true → list_all (is_of_family t) (map set_of cells) ≡ true
of_table t [] all = refl
of_table t (c ∷ cs) all =
    let parts = and_parts (has_family t.families c.family) (list_all (λ d. has_family t.families d.family) cs) all in
    and_from (is_of_family t (set_of c)) (list_all (is_of_family t) (map set_of cs)) parts.0 (of_table t cs parts.1)

length_map : (cells : List Cell) → length (map set_of cells) ≡ length cells
length_map [] = refl
length_map (c ∷ cs) = rw (length_map cs) refl

module _ (t : TableInfo) (m : ℕ) (key : List ℕ) (cells : List Cell) where
  -- the table takes the entry that sets new cells
  pub sets_may_come : t.incarnation < 2 ^ 64 → is_row_key key ≡ true → 1 ≤ length cells → length cells < 2 ^ 32 → AllByRecursion IsSpellableMutation (map set_of cells)
      → list_all (λ c. has_family t.families c.family) cells ≡ true → m ≤ last_moment → MayCome t m (Row t.incarnation key false (map set_of cells))
  sets_may_come small lawful some few spellable families not_past =
      let all : list_all (is_of_family t) (map set_of cells) ≡ true = of_table t cells families in
      record {
        of_row = tt;
        lawful = λ p found before. record {
          spellable = (small, lawful, (rw (length_map cells) some, rw (length_map cells) few, spellable));
          not_past = not_past;
          not_before = before;
          allowed = rw (found, all) refl;
        };
      }

-- ---- refusals

pub refused_by_row : (why : Option Refusal) (t : TableInfo) (key : List ℕ) (made : Result (List Cell) ModifyRefusal) (e : NoPlan) → why ≡ None → IsRefusedForRow made e → IsModified why t key made (Err e)
refused_by_row None t key made (Refused refusal) none is = is
refused_by_row None t key made OutOfMemory none is = tt
refused_by_row (Some why) t key made e none is = absurd cc

pub refused_reply : (why : Option Refusal) (m : ℕ) (t : TableInfo) (key : List ℕ) (made : Result (List Cell) ModifyRefusal) (refusal : Refusal) → IsModified why t key made (Err (Refused refusal))
    → unless_refused why (modified_reply m key t made) ≡ refused refusal
refused_reply None m t key made refusal is = rw (is.1, is.2) refl
refused_reply (Some why) m t key made refusal is = rw is refl

-- ---- replies

module _ (p : Present) (m : ℕ) (t : TableInfo) (key : List ℕ) (asked : List AskedRule) (rows : Contents) (held : rows ≡ rows_of t.incarnation p.contents) where
  abbrev made_of : Result (List Cell) ModifyRefusal
  made_of = modified m (rules_of asked) (row_at key rows)

  -- what the reply rests on
  over_rows : unless_refused (modify_refusal key asked t) (modified_reply m key t made_of) ≡ modify_row_reply p m key asked (Some t)
  over_rows = ap (λ (rs : Contents). unless_refused (modify_refusal key asked t) (modified_reply m key t (modified m (rules_of asked) (row_at key rs)))) held

  pub reply_made : (cells : List Cell) (k : List ℕ) (e : Entry) → modify_refusal key asked t ≡ None → modified m (rules_of asked) (row_at key rows) ≡ Ok cells → k ≡ key → e ≡ Row t.incarnation key false (map set_of cells)
      → changes (ReadModifyWriteRow k cells) m e ≡ modify_row_reply p m key asked (Some t)
  reply_made cells k e none made same is = rw (none, made, same, is) refl ∙ over_rows

  pub reply_refused : (refusal : Refusal) → IsModified (modify_refusal key asked t) t key (modified m (rules_of asked) (row_at key rows)) (Err (Refused refusal)) → refused refusal ≡ modify_row_reply p m key asked (Some t)
  reply_refused refusal is = sym (refused_reply (modify_refusal key asked t) m t key made_of refusal is) ∙ over_rows
