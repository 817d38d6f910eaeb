use Rattle.std.proofs.lemmas.Result.{err_from_is_err_and}
use Rattle.bt_codec.specs.Reading.{anywhere}
use Rattle.bt_entry.specs.Reading.{mutation_at, mutations_at}
use Rattle.bt_codec.proofs.Many.{goes_on, ends, is_done}
use Rattle.bt_entry.proofs.mutations.mutations_at.Goals as goal

pub returns-in_err-mutation : goal.returns-in_err-mutation
returns-in_err-mutation c =
    let p = err_from_is_err_and c.from_residual.result c.from_residual.ensures.1 in
    rw (p.1, p.2) (ends (λ _. mutation_at) anywhere 0 c.in_err-mutation.field-0.0 c.loop.mutations c.args.count c.loop.counter c.loop.rest.now (mutations_at c.args.count c.args.bytes.now) c.loop-test.true c.in_err-mutation.ensures c.loop.invariant)

pub loop-preserved : goal.loop-preserved
loop-preserved c =
    rw c.in_ok-push.ensures.ok (goes_on (λ _. mutation_at) anywhere 0 c.loop.mutations c.args.count c.loop.counter c.loop.rest.now c.in_ok-mutation.mutation c.in_ok-mutation.after.now (mutations_at c.args.count c.args.bytes.now) c.loop-test.true c.in_ok-mutation.ensures c.loop.invariant)

pub returns : goal.returns
returns c = is_done (λ _. mutation_at) anywhere 0 c.loop.mutations c.args.count c.loop.counter c.loop.rest.now (mutations_at c.args.count c.args.bytes.now) c.loop-test.false c.loop.invariant
