use Rattle.std.proofs.Common.{rules}
use Rattle.bt_table_replies.proofs.Altering.{place_or_end}
use Rattle.bt_table_replies.proofs.family_changes.place_of.Goals as goal

pub returns : goal.returns
returns c = search (rules, place_or_end c.args.name.now c.args.families.now)
