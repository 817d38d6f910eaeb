use Rattle.std.proofs.Common.{◌≡◌, ◌<◌, ◌^◌, [], Ok, Some, rules}
use Rattle.std.specs.Result.{result_err}
use Rattle.bt_entry.specs.Grammar.{AreSpellableFamilies}
use Rattle.bt_table_replies.proofs.Losing.{names_of}
use Rattle.bt_table_replies.proofs.Modifying.{modify_plan, refused_plan}
use Rattle.bt_table_replies.specs.Modifications.{after_changes, dropped}
use Rattle.bt_plans.specs.declared.answer.Answer.TheVariants.{Refused}
use Rattle.bt_plans.specs.declared.plan.Plan.TheVariants.{Says}
use Rattle.bt_schema.specs.Schema.{table_at, table_of}
use Rattle.bt_table_replies.proofs.modify_column_families.modify_column_families.Goals as goal

pub returns-in-Ok : goal.returns-in-Ok
returns-in-Ok c =
    let p = c.args.present.now in
    let t = c.in-Some.table.now in
    let ms = c.args.changes in
    let gs = c.change_families.new.families in
    let found : table_of c.args.name.now p.schema ≡ Some t = search rules in
    let own : table_at t.incarnation p.schema ≡ Some t = search rules in
    let spellable : AreSpellableFamilies t.families = search rules in
    let some : ms ≡ [] → ⊥ = search rules in
    let small : t.incarnation < 2 ^ 64 = search rules in
    let same : c.in_ok-changed.changed ≡ t = search rules in
    let names : c.in_ok-dropped.dropped ≡ names_of (dropped ms t) = search rules in
    let changed : after_changes ms t.families ≡ Ok gs = search rules in
    rw found (modify_plan p c.args.moment ms t gs c.modification.result some changed spellable small c.requires.not_past c.requires.not_before own
    (rw (names, same) at c.modification.ensures.found) (rw (names, same) at c.modification.ensures.plan))

pub returns-in-Err-Refused : goal.returns-in-Err-Refused
returns-in-Err-Refused c =
    let p = c.args.present.now in
    let t = c.in-Some.table.now in
    let ms = c.args.changes in
    let found : table_of c.args.name.now p.schema ≡ Some t = search rules in
    let some : ms ≡ [] → ⊥ = search rules in
    let why : result_err (after_changes ms t.families) ≡ Some c.in-Err-Refused.refusal = search rules in
    let is : c.refuses-in-Err-Refused.result ≡ Says (Refused c.in-Err-Refused.refusal) = search rules in
    rw (found, is) (refused_plan p c.args.moment ms t c.in-Err-Refused.refusal some why)
