use Rattle.std.proofs.Common.{◌≡◌, length, arith, rules}
use Rattle.bt_top.proofs.Buffers.{read_in}
use Rattle.bt_top.proofs.buffer.read_at.Goals as goal

pub returns-clause-bytes : goal.returns-clause-bytes
returns-clause-bytes g c tells =
    let size : length c.read.new.into ≡ c.args.count = search rules in
    read_in _ _ c.args.bytes.now c.read.new.into _ c.args.at c.args.count c.read.result (omega (arith, c.requires.within)) size (search rules) (c.read.ensures.bytes tells)
