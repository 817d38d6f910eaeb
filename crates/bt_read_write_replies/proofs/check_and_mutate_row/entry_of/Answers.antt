use Rattle.std.proofs.Common.{◌≡◌, ◌<◌, ◌^◌, length, ◌==◌, true, false, rules, subst, sym, refl}
use Rattle.bt_types.specs.Grammar.{is_row_key}
use Rattle.bt_entry.specs.declared.entry.Entry.{Entry}
use Rattle.bt_entry.specs.declared.entry.Entry.TheVariants.{Row}
use Rattle.bt_mutation.specs.Resolution.{resolved}
use Rattle.bt_plans.specs.Comings.{MayCome}
use Rattle.bt_read_write_replies.proofs.Checking.{chosen_may_come}
use Rattle.bt_read_write_replies.proofs.check_and_mutate_row.entry_of.Goals as goal

pub returns-clause-may_come : goal.returns-clause-may_come
returns-clause-may_come c =
    let t = c.args.table.now in
    let m = c.args.moment in
    let asked = c.args.mutations in
    let made = c.in_ok-mutations.ensures in
    let lawful : is_row_key c.args.key ≡ true = search rules in
    let some : (length asked == 0) ≡ false = search rules in
    let small : t.incarnation < 2 ^ 64 = rw (← c.incarnation_of.ensures) c.incarnation_of.type_inv in
    let is : Row c.incarnation_of.result c.args.key false c.in_ok-mutations.mutations ≡ Row t.incarnation c.args.key false (resolved m asked) = rw (c.incarnation_of.ensures, made.exact) refl in
    let came = chosen_may_come t m c.args.key asked small lawful some c.requires.few c.requires.lawful (rw (← made.exact) made.spellable) (rw (← made.exact) made.length) c.requires.moment in
    subst (λ (e : Entry). MayCome t m e) (sym is) came
