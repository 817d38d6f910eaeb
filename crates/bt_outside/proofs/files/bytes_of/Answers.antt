use Rattle.std.proofs.Common.{ap, ◌∙◌}
use Rattle.bt_outside.specs.Model.{State}
use Rattle.bt_outside.specs.DiskImage.{start_of}
use Rattle.bt_outside.proofs.Places.{lookup_at}
use Rattle.bt_outside.proofs.files.bytes_of.Goals as goal

pub returns-in-Some : goal.returns-in-Some
returns-in-Some c = c.bytes.ensures ∙ ap (λ (s : State). s.bytes) (lookup_at (start_of c.args.base.now) c.args.files.now c.args.number c.in-Some.place c.index-files-place.result c.in-Some.ensures.found c.index-files-place.is).1
