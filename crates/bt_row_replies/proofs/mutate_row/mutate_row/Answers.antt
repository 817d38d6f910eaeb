use Rattle.std.proofs.Common.{◌≡◌, false, None, Some, refl, rules, subst, sym}
use Rattle.bt_entry.specs.Grammar.{IsSpellableEntry}
use Rattle.bt_entry.specs.declared.entry.Entry.{Entry}
use Rattle.bt_entry.specs.declared.entry.Entry.TheVariants.{Row}
use Rattle.bt_messages.specs.declared.response.Response.TheVariants.{MutateRow}
use Rattle.bt_mutation.specs.Resolution.{resolved}
use Rattle.bt_plans.proofs.Mutates.{may_come}
use Rattle.bt_plans.specs.Replies.{event}
use Rattle.bt_plans.specs.RowEntries.{mutate_refusal}
use Rattle.bt_schema.specs.Schema.{table_at, table_of}
use Rattle.bt_state.specs.State.{IsLawful}
use Rattle.bt_row_replies.proofs.mutate_row.mutate_row.Goals as goal

pub changes-requires : goal.changes-requires
changes-requires c =
    let t = c.in-Some.table.now in
    let m = c.args.moment in
    let none : mutate_refusal c.args.key c.args.mutations t ≡ None = search rules in
    let is : c.in-Ok.entry ≡ Row t.incarnation c.args.key false (resolved m c.args.mutations) = search rules in
    let own : table_at t.incarnation c.args.present.now.schema ≡ Some t = search rules in
    let spellable : IsSpellableEntry c.in-Ok.entry = search rules in
    let came = may_come t m c.args.key c.args.mutations none (subst IsSpellableEntry is spellable) c.requires.not_past in
    subst (λ (e : Entry). IsLawful c.args.present.now (event m e)) (sym is) (came.lawful c.args.present.now own c.requires.not_before)

pub returns-in-Ok : goal.returns-in-Ok
returns-in-Ok c =
    let t = c.in-Some.table.now in
    let none : mutate_refusal c.args.key c.args.mutations t ≡ None = search rules in
    let is : c.in-Ok.entry ≡ Row t.incarnation c.args.key false (resolved c.args.moment c.args.mutations) = search rules in
    let found : table_of c.args.name.now c.args.present.now.schema ≡ Some t = search rules in
    rw (found, none, ← is) (c.changes.ensures.reply MutateRow refl)
