use Rattle.std.proofs.lemmas.Cmp.{nat_list_cmp_total}
use Rattle.bt_schema.proofs.Copies.{one_more}
use Rattle.bt_schema.proofs.schema.copies.copy_tables.Goals as goal

-- the table is copied to the end
pub loop-name-preserved-in_ok-insert : goal.loop-name-preserved-in_ok-insert
loop-name-preserved-in_ok-insert c =
    one_more nat_list_cmp_total (c.in-Some.name.now, c.in-Some.table.now) c.in_ok-copy.field-0 c.in_ok-copy-2.field-0 c.args.tables.now.entries c.insert.new.self.entries c.loop-name.copy.entries
    c.loop-name.name-iterator c.next.new.self c.loop-name.invariant c.in-Some.ensures.steps c.in_ok-copy.ensures c.in_ok-copy-2.ensures c.in_ok-insert.ensures.entries

pub loop-name-preserved : goal.loop-name-preserved
loop-name-preserved c =
    one_more nat_list_cmp_total (c.in-Some.name.now, c.in-Some.table.now) c.in_ok-copy.field-0 c.in_ok-copy-2.field-0 c.args.tables.now.entries c.insert.new.self.entries c.loop-name.copy.entries
    c.loop-name.name-iterator c.next.new.self c.loop-name.invariant c.in-Some.ensures.steps c.in_ok-copy.ensures c.in_ok-copy-2.ensures c.in_ok-insert.ensures.entries
