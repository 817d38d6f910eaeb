use Rattle.bt_send.proofs.Sending.{sends_one}
use Rattle.bt_send.proofs.whole.send.Goals as goal

pub returns-clause-sends : goal.returns-clause-sends
returns-clause-sends g c tells = sends_one c.write.result c.args.bytes.now (g.D.Disk.moment c.args.disk.now) (g.L.Links.sent c.args.links.now) (g.L.Links.sent c.write.new.self) (c.write.ensures.ok tells) (c.write.ensures.err tells)
