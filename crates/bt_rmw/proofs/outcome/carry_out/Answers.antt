use Rattle.std.proofs.Common.{◌≡◌, ◌≤◌, Ok, length, sym, ap, rules}
use Rattle.std.specs.Map.{remove_entry}
use Rattle.std.specs.BTreeMap.{insert_entry, is_at}
use Rattle.std.specs.Option.{option_or}
use Rattle.std.proofs.lemmas.Map.Views.{All-map-remove_entry, All-values-insert_entry}
use Rattle.bt_entry.specs.Grammar.{most_of_value}
use Rattle.bt_rmw.specs.Columns.{column_order}
use Rattle.bt_rmw.specs.Held.{Stamped, held_at, stamped_after}
use Rattle.bt_rmw.specs.Rules.{column_of}
use Rattle.bt_rmw.proofs.Held.{put_again}
use Rattle.bt_rmw.proofs.outcome.carry_out.Goals as goal

pub returns-in-Ok-clause-made : goal.returns-in-Ok-clause-made
returns-in-Ok-clause-made c =
    let k = column_of c.args.rule in
    let es = c.args.made.now.entries in
    let after = c.in_ok-after.after in
    let held : stamped_after c.args.moment c.args.index c.args.rule.action (option_or (held_at es k) (held_at c.args.latest.now.entries k)) ≡ Ok after = search rules in
    let entries : c.insert.new.self.entries ≡ insert_entry column_order (remove_entry (is_at (column_order k)) es) k after = search rules in
    rw (held, entries) (ap Ok (sym (put_again k after es c.requires.sorted)))

pub returns-in-Ok-clause-short : goal.returns-in-Ok-clause-short
returns-in-Ok-clause-short c =
    let k = column_of c.args.rule in
    let es = c.args.made.now.entries in
    let after = c.in_ok-after.after in
    let entries : c.insert.new.self.entries ≡ insert_entry column_order (remove_entry (is_at (column_order k)) es) k after = search rules in
    let IsShort : Stamped → Type 0 = λ s. length s.1 ≤ most_of_value in
    rw entries (All-values-insert_entry column_order k after IsShort (remove_entry (is_at (column_order k)) es) (All-map-remove_entry (is_at (column_order k)) (λ e. e.1) IsShort es c.requires.short) c.in_ok-after.ensures.short)
