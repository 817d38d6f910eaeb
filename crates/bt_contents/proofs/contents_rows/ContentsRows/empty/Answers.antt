use Rattle.bt_contents.proofs.Rows.{none_held}
use Rattle.bt_contents.proofs.contents_rows.ContentsRows.empty.Goals as goal

pub new-requires : goal.new-requires
new-requires c = none_held
