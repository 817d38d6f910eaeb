use Rattle.std.proofs.Common.{◌∙◌, ap, sym}
use Rattle.std.specs.Prelude.{is_some}
use Rattle.bt_row.specs.Extents.{is_covered}
use Rattle.bt_row.proofs.Covering.{found_any, some_mapped}
use Rattle.bt_row.proofs.extent.Extent.has_any.Goals as goal

pub returns : goal.returns
returns g c = c.is_some.ensures ∙ sym (some_mapped _ c.first_in.result) ∙ ap is_some c.first_in.ensures ∙ found_any (is_covered c.args.self.now) c.args.cells.now.entries
