use Rattle.std.proofs.Common.{append_assoc}
use Rattle.bt_manifest.specs.Spelling.{snapshot_bytes}
use Rattle.bt_manifest.proofs.writing.put_snapshot.Goals as goal

pub returns : goal.returns
unfolding snapshot_bytes
returns c =
    rw (c.in_ok-put_text.ensures, c.in_ok-put_tables.ensures, c.in_ok-put_segments.ensures, c.in_ok-put_u64-3.ensures, c.in_ok-put_u64-2.ensures, c.in_ok-put_u64.ensures)
    (simp append_assoc)
