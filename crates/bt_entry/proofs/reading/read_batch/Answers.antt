use Rattle.std.proofs.Common.{arith, ap, sym, ◌∙◌}
use Rattle.bt_entry.specs.Reading.{batch_at}
use Rattle.bt_entry.proofs.Batches.{batch_takes, batch_again, is_not_refused}
use Rattle.bt_entry.proofs.Places.{place_in}
use Rattle.bt_entry.proofs.reading.read_batch.Goals as goal

pub returns-in-Ok-clause-found : goal.returns-in-Ok-clause-found
returns-in-Ok-clause-found c = batch_takes c.args.first c.args.bytes.now c.in-Ok.batch (λ i. omega (arith, c.type_inv.bytes i)) c.in-Ok.ensures

pub returns-in-Ok-clause-only : goal.returns-in-Ok-clause-only
returns-in-Ok-clause-only c = λ batch fits own e. sym (ap (batch_at c.args.first) e ∙ batch_again c.args.first batch fits own) ∙ c.in-Ok.ensures

pub returns-in-Err-Bad-clause-only : goal.returns-in-Err-Bad-clause-only
returns-in-Err-Bad-clause-only c = λ batch fits own e.
    is_not_refused _ batch c.in-Err-Bad.left _ (ap (batch_at c.args.first) e ∙ batch_again c.args.first batch fits own) (rw c.in-Err-Bad.field-0-is at c.in-Err-Bad.ensures)

pub overflow_sub-result : goal.overflow_sub-result
overflow_sub-result c = place_in c.args.first c.args.bytes.now c.in-Err-Bad.left (rw c.in-Err-Bad.field-0-is at c.in-Err-Bad.ensures)
