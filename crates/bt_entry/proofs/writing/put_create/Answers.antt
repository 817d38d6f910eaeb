use Rattle.std.proofs.Common.{append_assoc}
use Rattle.bt_entry.proofs.writing.put_create.Goals as goal

pub returns-clause-spelled : goal.returns-clause-spelled
returns-clause-spelled c =
    rw (c.in_ok-put_u64.ensures, c.in_ok-put_families.ensures.spelled, c.in_ok-put_table_name.ensures.spelled, c.in_ok-push.ensures.items)
    (simp append_assoc)
