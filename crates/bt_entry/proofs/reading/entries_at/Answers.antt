use Rattle.std.proofs.Common.{◌≡◌, ◌+◌, Ok, arith}
use Rattle.std.proofs.lemmas.Result.{err_from_is_err_and}
use Rattle.bt_entry.specs.Grammar.{next_sequence}
use Rattle.bt_entry.specs.Reading.{numbered_at, entries_at}
use Rattle.bt_codec.proofs.Many.{goes_on, ends, is_done, Fails}
use Rattle.bt_entry.proofs.reading.entries_at.Goals as goal

pub returns-in_err-numbered : goal.returns-in_err-numbered
returns-in_err-numbered c =
    let p = err_from_is_err_and c.from_residual.result c.from_residual.ensures.1 in
    let fails : Fails c.in_err-numbered.field-0.0 (numbered_at (c.args.first + c.loop-i.i) c.loop-i.rest.now) = rw (← c.from.ensures) c.in_err-numbered.ensures in
    rw (p.1, p.2) (ends numbered_at next_sequence (c.args.first + c.loop-i.i) c.in_err-numbered.field-0.0 c.loop-i.batch c.args.count c.loop-i.i c.loop-i.rest.now (entries_at c.args.first c.args.count c.args.bytes.now) c.loop-i-test.true fails c.loop-i.invariant)

pub loop-i-preserved : goal.loop-i-preserved
loop-i-preserved c =
    let n = c.in_ok-numbered.numbered in
    let reads : numbered_at (c.args.first + c.loop-i.i) c.loop-i.rest.now ≡ Ok (n, c.in_ok-numbered.after.now) = rw (← c.from.ensures) c.in_ok-numbered.ensures in
    let next : c.args.first + (c.loop-i.i + 1) ≡ c.args.first + c.loop-i.i + 1 = omega arith in
    rw (c.in_ok-push.ensures.ok, next)
    (goes_on numbered_at next_sequence (c.args.first + c.loop-i.i) c.loop-i.batch c.args.count c.loop-i.i c.loop-i.rest.now n c.in_ok-numbered.after.now (entries_at c.args.first c.args.count c.args.bytes.now) c.loop-i-test.true reads c.loop-i.invariant)

pub returns : goal.returns
returns c = is_done numbered_at next_sequence (c.args.first + c.loop-i.i) c.loop-i.batch c.args.count c.loop-i.i c.loop-i.rest.now (entries_at c.args.first c.args.count c.args.bytes.now) c.loop-i-test.false c.loop-i.invariant
