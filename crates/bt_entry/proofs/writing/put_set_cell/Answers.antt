use Rattle.std.proofs.Common.{append_assoc}
use Rattle.bt_entry.proofs.writing.put_set_cell.Goals as goal

pub returns-clause-spelled : goal.returns-clause-spelled
returns-clause-spelled c =
    rw (c.in_ok-put_value.ensures, c.in_ok-put_micros.ensures.spelled, c.in_ok-put_qualifier.ensures.spelled, c.in_ok-put_family_name.ensures.spelled, c.in_ok-push.ensures.items)
    (simp append_assoc)
