use Rattle.std.proofs.Common.{append_assoc}
use Rattle.bt_entry.proofs.writing.put_row.Goals as goal

pub returns-clause-spelled : goal.returns-clause-spelled
returns-clause-spelled c =
    rw (c.in_ok-put_mutations.ensures.spelled, c.in_ok-put_key.ensures.spelled, c.in_ok-put_u64.ensures, c.in_ok-push.ensures.items, c.row_tag-tag.ensures)
    (simp append_assoc)
