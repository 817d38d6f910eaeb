use Rattle.std.proofs.Common.{rules}
use Rattle.std.proofs.lemmas.Map.Views.{All-keys-insert_entry}
use Rattle.bt_row.specs.Extents.{IsTimed}
use Rattle.bt_row.specs.Keys.{key_cmp}
use Rattle.bt_row.proofs.Plans.{put_planned, put_fresh, put_short}
use Rattle.bt_row.proofs.plan.Plan.put.Goals as goal

pub returns-clause-ok : goal.returns-clause-ok
returns-clause-ok c =
    put_planned c.args.key _ c.args.self.now.outcomes.entries c.insert.new.self.entries c.in_ok-insert.ensures.updates.0 c.args.self.now.clears c.args.cells.now.entries

pub returns-clause-plan : goal.returns-clause-plan
returns-clause-plan c = record {
  fresh = put_fresh c.args.key _ c.args.self.now.outcomes.entries c.insert.new.self.entries c.in_ok-insert.ensures.updates.0 c.args.cells.now.entries (search rules) c.requires.plan.fresh;
  lawful = record {
    timed = rw c.in_ok-insert.ensures.entries (All-keys-insert_entry key_cmp c.args.key _ IsTimed c.args.self.now.outcomes.entries c.requires.plan.lawful.timed c.requires.timed);
    short = put_short c.args.key _ c.args.self.now.outcomes.entries c.insert.new.self.entries c.in_ok-insert.ensures.updates.0 c.requires.short c.requires.plan.lawful.short;
  };
}
