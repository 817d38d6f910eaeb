use Rattle.std.proofs.Common.{◌≡◌, [], length, Some, sym, ◌∙◌}
use Rattle.std.specs.Prelude.{◌-◌, slice_get}
use Rattle.bt_schema.proofs.Ends.{last_from}
use Rattle.bt_schema.proofs.reading.last_name.Goals as goal

pub returns-in-Some : goal.returns-in-Some
returns-in-Some c =
    let there : slice_get c.args.schema.now (length c.args.schema.now - 1) ≡ Some (c.in-Some.name.now, c.in-Some.field-0-1.now) = rw (← c.tables.ensures) c.in-Some.ensures.last in
    c.bytes.ensures.value ∙ sym (last_from [] c.args.schema.now (c.in-Some.name.now, c.in-Some.field-0-1.now) there)
