use Rattle.std.proofs.Common.{subst, sym, ℕ, List}
use Rattle.std.specs.Prelude.{IfOk}
use Rattle.bt_outside.specs.Model.{IsBounded}
use Rattle.bt_outside.specs.FileStates.{OfFile, lookup}
use Rattle.bt_outside.specs.DiskImage.{files_of, start_of}
use Rattle.bt_outside.specs.History.{Core, Images, states_of}
use Rattle.bt_outside.proofs.ImageLists.{image_possible}
use Rattle.bt_outside.proofs.disk_core.DiskCore.image.Goals as goal

pub returns-clause-possible : goal.returns-clause-possible
returns-clause-possible c =
    let start = start_of c.self.inside.base in
    let files = c.deref.result.now in
    let bounded = subst (λ (l : List OfFile). (n : ℕ) → IsBounded (lookup start l n)) (sym c.deref.ensures.value) c.self.invariant.bounded in
    let possible = image_possible c.args.choice c.image_of.result (lookup start files) bounded (c.image_of.ensures bounded) in
    subst (λ (o : Core). IfOk c.image_of.result (λ v. Images (states_of o) (files_of v.items))) c.self.view_is
    (subst (λ (l : List OfFile). IfOk c.image_of.result (λ v. Images (lookup start l) (files_of v.items))) c.deref.ensures.value possible)
