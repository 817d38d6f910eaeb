use Rattle.std.proofs.Common.{◌≡◌, ℕ, ◌+◌, List, [], ◌∷◌, ◌++◌, take, sym, ◌∙◌, ap, subst}
use Rattle.std.proofs.lemmas.List.{take_more}
use Rattle.bt_outside.specs.declared.image.FileBytes.{FileBytes}
use Rattle.bt_outside.specs.Model.{Chosen}
use Rattle.bt_outside.specs.FileStates.{OfFile}
use Rattle.bt_outside.specs.DiskImage.{IsImageOf}
use Rattle.bt_outside.proofs.ImageLists.{image_push}
use Rattle.bt_outside.proofs.files.changed_of.Goals as goal

pub loop-file-preserved : goal.loop-file-preserved
loop-file-preserved c =
    let files = c.args.files.now in
    let i = c.loop-file.file-index in
    let x = c.file-item.result in
    let b : FileBytes = record { number = c.number.result; bytes = c.from_vec-bytes.result } in
    let more : take (i + 1) files ≡ take i files ++ x ∷ [] = take_more files i x c.loop-file-test.true ∙ ap (λ (y : OfFile). take i files ++ y ∷ []) (sym c.file-item.is) in
    let pushed : IsImageOf c.args.choice (c.loop-file.image.items ++ b ∷ []) (take i files ++ x ∷ []) =
    image_push c.args.choice c.loop-file.image.items (take i files) b x c.loop-file.invariant c.number.ensures (λ bounded. subst (λ (l : List ℕ). Chosen c.args.choice x.state l) (sym c.from_vec-bytes.ensures) (c.in_ok-image.ensures bounded)) in
    subst (λ (l : List OfFile). IsImageOf c.args.choice c.push.new.self.items l) (sym more) (subst (λ (l : List FileBytes). IsImageOf c.args.choice l (take i files ++ x ∷ [])) (sym c.in_ok-push.ensures.items) pushed)
