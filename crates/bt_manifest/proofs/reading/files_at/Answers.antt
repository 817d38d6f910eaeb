use Rattle.std.proofs.lemmas.Result.{err_from_is_err_and}
use Rattle.bt_codec.specs.Reading.{anywhere}
use Rattle.bt_manifest.specs.Reading.{file_at, files_at}
use Rattle.bt_codec.proofs.Many.{goes_on, ends, is_done}
use Rattle.bt_manifest.proofs.reading.files_at.Goals as goal

pub returns-in_err-file : goal.returns-in_err-file
returns-in_err-file c =
    let p = err_from_is_err_and c.from_residual.result c.from_residual.ensures.1 in
    rw (p.1, p.2) (ends (λ _. file_at) anywhere 0 c.in_err-file.field-0.0 c.loop.files c.args.count c.loop.counter c.loop.rest.now (files_at c.args.count c.args.bytes.now) c.loop-test.true c.in_err-file.ensures.read c.loop.invariant)

pub loop-preserved : goal.loop-preserved
loop-preserved c =
    rw c.in_ok-push.ensures.ok (goes_on (λ _. file_at) anywhere 0 c.loop.files c.args.count c.loop.counter c.loop.rest.now c.in_ok-file.file c.in_ok-file.after.now (files_at c.args.count c.args.bytes.now) c.loop-test.true c.in_ok-file.ensures.read c.loop.invariant)

pub returns : goal.returns
returns c = is_done (λ _. file_at) anywhere 0 c.loop.files c.args.count c.loop.counter c.loop.rest.now (files_at c.args.count c.args.bytes.now) c.loop-test.false c.loop.invariant
