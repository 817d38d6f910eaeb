use Rattle.std.proofs.Common.{rules, ◌≡◌, List, ℕ, subst, length}
use Rattle.bt_outside.specs.Disk.{Torn}
use Rattle.bt_outside.specs.Model.{after_write, MayBe}
use Rattle.bt_outside.specs.History.{states_of}
use Rattle.bt_outside.specs.declared.calls.Kind.TheVariants.{Write}
use Rattle.bt_outside.proofs.Steps.{write_follows, write_image, same_torn}
use Rattle.bt_outside.proofs.memory_disk.write.Goals as goal

pub returns-then-is_ok-clause-crash : goal.returns-then-is_ok-clause-crash
returns-then-is_ok-clause-crash c =
    let copied : c.in-Ok.copy.items ≡ c.args.bytes.now = search rules in
    let state = states_of c.args.core.now c.args.file in
    write_follows c.args.file (Write c.args.at c.in-Ok.copy) c.args.failed (states_of c.args.core.now) (states_of c.make.new.self) c.make.result c.make.ensures.kept c.make.ensures.stayed (Torn c.args.at (length c.args.bytes.now))
    (λ b. same_torn c.args.at (length c.args.bytes.now) b)
    (λ b may. write_image c.args.at c.args.bytes.now c.args.failed state b (c.make.ensures.bounded c.args.file) c.requires (subst (λ (l : List ℕ). MayBe (after_write c.args.at l c.args.failed state) b) copied may))
