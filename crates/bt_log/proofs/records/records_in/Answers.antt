use Rattle.std.proofs.Common.{◌≡◌, ◌+◌, length, Ok, arith}
use Rattle.std.specs.Prelude.{IfSome}
use Rattle.std.proofs.lemmas.Result.{err_from_is_err_and}
use Rattle.bt_entry.specs.Grammar.{AreNumbered}
use Rattle.bt_log.specs.Reads.{Fails, option_map}
use Rattle.bt_log.specs.Segment.{record_at}
use Rattle.bt_log.proofs.Walks.{fails, ends, goes_on}
use Rattle.bt_log.proofs.records.records_in.Goals as goal

pub returns-in_err-batch-clause-exact : goal.returns-in_err-batch-clause-exact
returns-in_err-batch-clause-exact c =
    let p = err_from_is_err_and c.from_residual.result c.from_residual.ensures.1 in
    let at : Fails c.in_err-batch.field-0.0 (record_at (c.args.first + length c.loop-entries.entries) c.loop-entries.rest.now) = rw (← c.items.ensures) c.in_err-batch.ensures.exact in
    rw (p.1, p.2) (fails c.args.first c.loop-entries.entries c.args.bytes.now c.loop-entries.rest.now c.loop-entries.invariant c.in_err-batch.field-0.0 at)

pub loop-entries-preserved : goal.loop-entries-preserved
loop-entries-preserved c =
    let first = c.args.first in
    let entries = c.loop-entries.entries in
    let rest = c.loop-entries.rest.now in
    let o = c.in_ok-batch.field-0 in
    let at : record_at (first + length entries) rest ≡ Ok (option_map (λ x. (x.0, x.1.now)) o) = rw (← c.items.ensures) c.in_ok-batch.ensures.exact in
    let numbered : IfSome o (λ x. AreNumbered (first + length entries) x.0) = rw (← c.items.ensures) c.in_ok-batch.ensures.numbered in
    rw c.in_ok-append.ensures.ok (goes_on first entries c.args.bytes.now rest c.loop-entries.invariant o (λ x. (x.0, x.1.now)) at numbered c.in_ok-batch.ensures.spellable c.in_ok-batch.ensures.shorter (c.in-Some.batch, c.in-Some.after) c.in-Some.is)

pub returns-clause-exact : goal.returns-clause-exact
returns-clause-exact c =
    let first = c.args.first in
    let entries = c.loop-entries.entries in
    let rest = c.loop-entries.rest.now in
    let o = c.in_ok-batch.field-0 in
    let at : record_at (first + length entries) rest ≡ Ok (option_map (λ x. (x.0, x.1.now)) o) = rw (← c.items.ensures) c.in_ok-batch.ensures.exact in
    ends first entries c.args.bytes.now rest c.loop-entries.invariant o (λ x. (x.0, x.1.now)) at c.in_default.is

pub returns-clause-few : goal.returns-clause-few
returns-clause-few c = omega (arith, c.loop-entries.invariant.few)
