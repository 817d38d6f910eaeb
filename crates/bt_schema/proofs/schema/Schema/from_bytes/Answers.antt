use Rattle.std.proofs.Common.{arith, ap, sym, ◌∙◌}
use Rattle.bt_schema.specs.Reading.{schema_at}
use Rattle.bt_schema.proofs.Places.{place_in}
use Rattle.bt_schema.proofs.Spelled.{is_not_refused, schema_again, schema_takes}
use Rattle.bt_schema.proofs.schema.Schema.from_bytes.Goals as goal

pub returns-in-Ok-clause-found : goal.returns-in-Ok-clause-found
returns-in-Ok-clause-found c = schema_takes c.args.bytes.now c.in-Ok.schema (λ i. omega (arith, c.type_inv.bytes i)) c.in-Ok.ensures

pub returns-in-Ok-clause-only : goal.returns-in-Ok-clause-only
returns-in-Ok-clause-only c = λ s fits e. sym (ap schema_at e ∙ schema_again s fits) ∙ c.in-Ok.ensures

pub returns-in-Err-Bad-clause-only : goal.returns-in-Err-Bad-clause-only
returns-in-Err-Bad-clause-only c = λ s fits e. is_not_refused _ s c.in-Err-Bad.left _ (ap schema_at e ∙ schema_again s fits) (rw c.in-Err-Bad.field-0-is at c.in-Err-Bad.ensures)

pub overflow_sub-result : goal.overflow_sub-result
overflow_sub-result c = place_in c.args.bytes.now c.in-Err-Bad.left (rw c.in-Err-Bad.field-0-is at c.in-Err-Bad.ensures)
