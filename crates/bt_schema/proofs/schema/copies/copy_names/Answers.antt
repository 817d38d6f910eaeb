use Rattle.std.proofs.Common.{refl}
use Rattle.std.proofs.lemmas.Cmp.{nat_cmp_total}
use Rattle.bt_schema.proofs.Copies.{one_more}
use Rattle.bt_schema.proofs.schema.copies.copy_names.Goals as goal

-- the name is copied to the end
pub loop-incarnation-preserved-in_ok-insert : goal.loop-incarnation-preserved-in_ok-insert
loop-incarnation-preserved-in_ok-insert c =
    one_more nat_cmp_total (c.in-Some.incarnation.now, c.in-Some.name.now) c.in-Some.incarnation.now c.in_ok-copy.field-0 c.args.names.now.entries c.insert.new.self.entries c.loop-incarnation.copy.entries
    c.loop-incarnation.incarnation-iterator c.next.new.self c.loop-incarnation.invariant c.in-Some.ensures.steps refl c.in_ok-copy.ensures c.in_ok-insert.ensures.entries

pub loop-incarnation-preserved : goal.loop-incarnation-preserved
loop-incarnation-preserved c =
    one_more nat_cmp_total (c.in-Some.incarnation.now, c.in-Some.name.now) c.in-Some.incarnation.now c.in_ok-copy.field-0 c.args.names.now.entries c.insert.new.self.entries c.loop-incarnation.copy.entries
    c.loop-incarnation.incarnation-iterator c.next.new.self c.loop-incarnation.invariant c.in-Some.ensures.steps refl c.in_ok-copy.ensures c.in_ok-insert.ensures.entries
