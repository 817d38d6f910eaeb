use Rattle.std.proofs.Common.{List, ◌≡◌, ◌<◌, ◌∙◌, [], ◌++◌, length, get_or, ap, arith, Vec, Global}
use Rattle.bt_outside.specs.declared.image.FileBytes.{FileBytes}
use Rattle.bt_outside.specs.DiskImage.{files_of}
use Rattle.bt_outside.proofs.ImageLists.{unchanged_put, unchanged_skip, unchanged_all}
use Rattle.bt_outside.proofs.files.unchanged_of.Goals as goal
use Rattle.bt_outside.proofs.files.unchanged_of.Goals.{then-is_none+in_ok-copy+in_ok-push, else-is_none}

pub loop-file-preserved : goal.loop-file-preserved
loop-file-preserved c =
    let base = c.args.base.now in
    let i = c.loop-file.file-index in
    let b = c.file-item.result in
    let long : length c.items-file-items.result.now ≡ length base = ap length c.items-file-items.ensures in
    let within : i < length base = omega (arith, long, c.loop-file-test.true) in
    let read : b ≡ get_or base i b = c.file-item.is ∙ ap (λ (l : List FileBytes). get_or l i b) c.items-file-items.ensures in
    elim c.if-is_none.branch [
      | then-is_none+in_ok-copy+in_ok-push w ↦
          unchanged_put c.args.files.now base c.loop-file.rest.items i b within read c.loop-file.invariant c.if-is_none.rest.items w.in_ok-copy.field-0
          (ap (λ (v : Vec FileBytes Global). v.items) w.rest-is ∙ w.in_ok-push.ensures.items) w.in_ok-copy.ensures
      | else-is_none w ↦ λ n more none.
          ap (λ (v : Vec FileBytes Global). files_of (v.items ++ more) n) w.rest-is
          ∙ unchanged_skip c.args.files.now base c.loop-file.rest.items i b within read c.loop-file.invariant c.place_of.result c.place_of.ensures.found w.if-is_none.ensures n more none
    ]

pub returns : goal.returns
returns c = λ n none.
    let long : length c.items-file-items.result.now ≡ length c.args.base.now = ap length c.items-file-items.ensures in
    unchanged_all c.args.base.now c.loop-file.rest.items c.loop-file.file-index n (omega (arith, long, c.loop-file-test.false)) (c.loop-file.invariant n [] none)
