use Rattle.std.proofs.Common.{◌≢◌, ◌∙◌}
use Rattle.bt_outside.proofs.Places.{found_further, same_further, apart_further}
use Rattle.bt_outside.proofs.files.place_of.Goals as goal

pub loop-i-preserved : goal.loop-i-preserved
loop-i-preserved c =
    let x = c.index-files-i.result in
    let files = c.args.files.now in
    let file = c.args.number in
    let apart : x.number ≢ file = λ e. c.if-number.false (c.number.ensures ∙ e) in
    record {
      none = λ start. same_further files file c.loop-i.i x c.loop-i-test.true c.index-files-i.is start (c.loop-i.invariant.none start) apart;
      found = found_further files file c.loop-i.i x c.loop-i-test.true c.index-files-i.is c.loop-i.invariant.found apart;
      apart = apart_further files file c.loop-i.i x c.loop-i-test.true c.index-files-i.is c.loop-i.invariant.apart apart;
    }
