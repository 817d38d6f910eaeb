use Rattle.bt_row.proofs.Sound.{settled_sound}
use Rattle.bt_row.proofs.row.Row.settle.Goals as goal

pub returns-clause-sound : goal.returns-clause-sound
returns-clause-sound c = settled_sound c.args.ending c.args.plan c.requires.lawful c.args.self.now.cells.entries c.settle.new.cells.entries c.requires.sound c.settle.ensures.sorted c.settle.ensures.values
