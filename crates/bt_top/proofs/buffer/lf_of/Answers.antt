use Rattle.bt_top.proofs.Searches.{first_lf}
use Rattle.bt_top.proofs.buffer.lf_of.Goals as goal

pub returns : goal.returns
returns c = first_lf c.args.text.now c.memchr.result c.memchr.ensures
