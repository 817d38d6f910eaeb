use Rattle.std.proofs.Common.{◌≡◌, ◌+◌, ◌-◌, List, [], ◌∷◌, ◌++◌, length, sym, ◌∙◌, ap, subst, arith, length-append, refl}
use Rattle.bt_outside.specs.Model.{settled}
use Rattle.bt_outside.specs.FileStates.{OfFile, lookup, IsPlace}
use Rattle.bt_outside.specs.DiskImage.{start_of}
use Rattle.bt_outside.proofs.Places.{added_place, lookup_added}
use Rattle.bt_outside.proofs.files.place_or_load.Goals as goal

pub returns-in_ok-push-in-None-clause-place : goal.returns-in_ok-push-in-None-clause-place
returns-in_ok-push-in-None-clause-place c =
    let files = c.args.files.now.items in
    let file = c.in_ok-file-in-None.file in
    let pushed : c.push.new.self.items ≡ files ++ file ∷ [] = c.in_ok-push-in-None.ensures.items in
    let long : length c.push.new.self.items ≡ length files + 1 = ap length pushed ∙ length-append files (file ∷ []) in
    let size : c.len.result - 1 + 1 ≡ length c.push.new.self.items = omega (arith, long, c.len.ensures, c.push.new.self.ok.0) in
    added_place files c.push.new.self.items file c.args.number _ (ap (λ (z : OfFile). z.number) c.in_ok-file-in-None.ensures) pushed size
    (λ k there. c.in-None.ensures.none refl k (subst (λ (l : List OfFile). IsPlace l c.args.number k) (sym c.deref.ensures.value) there))

pub returns-in_ok-push-in-None-clause-same : goal.returns-in_ok-push-in-None-clause-same
returns-in_ok-push-in-None-clause-same c = λ other.
    let start = start_of c.args.base.now in
    let file = c.in_ok-file-in-None.file in
    let is = c.in_ok-file-in-None.ensures in
    let state : file.state ≡ start file.number = ap (λ (z : OfFile). z.state) is ∙ ap settled c.find_bytes.ensures ∙ ap start (sym (ap (λ (z : OfFile). z.number) is)) in
    ap (λ (l : List OfFile). lookup start l other) c.in_ok-push-in-None.ensures.items ∙ lookup_added start c.args.files.now.items file other state
