use Rattle.std.proofs.Common.{append_assoc}
use Rattle.bt_schema.proofs.schema.writing.put_table.Goals as goal

pub returns-clause-spelled : goal.returns-clause-spelled
returns-clause-spelled c =
    rw (c.in_ok-put_families.ensures.spelled, c.in_ok-put_u64-4.ensures, c.in_ok-put_u64-3.ensures, c.in_ok-put_u64-2.ensures, c.in_ok-put_u64.ensures, c.in_ok-put_table_name.ensures.spelled)
    (simp append_assoc)
