use Rattle.std.proofs.Common.{refl, arith}
use Rattle.bt_outside.specs.Disk.{TornCut}
use Rattle.bt_outside.specs.History.{states_of}
use Rattle.bt_outside.specs.declared.calls.Kind.TheVariants.{Cut}
use Rattle.bt_outside.proofs.Steps.{write_follows, cut_image}
use Rattle.bt_outside.proofs.memory_disk.cut.Goals as goal

pub returns-then-is_ok-clause-crash : goal.returns-then-is_ok-clause-crash
returns-then-is_ok-clause-crash c =
    write_follows c.args.file (Cut c.args.n) c.args.failed (states_of c.args.core.now) (states_of c.make.new.self) c.make.result c.make.ensures.kept c.make.ensures.stayed (TornCut c.args.n)
    (λ b. record { before = refl; no_longer = omega arith })
    (λ b may. cut_image c.args.n c.args.failed (states_of c.args.core.now c.args.file) b (c.make.ensures.bounded c.args.file) c.requires may)
