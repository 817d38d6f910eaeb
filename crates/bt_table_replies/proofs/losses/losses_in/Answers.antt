use Rattle.std.proofs.Common.{◌≡◌, ◌++◌, ◌+◌, ◌∙◌, [], ◌∷◌, ap, sym, take, rules}
use Rattle.std.specs.Prelude.{fold}
use Rattle.std.specs.Cmp.Lexicographic.{slice_cmp}
use Rattle.std.specs.List.Sorted.{IsStrictlySortedBy}
use Rattle.std.specs.Map.{keys_of}
use Rattle.std.specs.Ordering.{nat_cmp}
use Rattle.std.proofs.lemmas.List.{take_more}
use Rattle.bt_contents.specs.Contents.{keys_with}
use Rattle.bt_table_replies.proofs.Losing.{losses-none, losses_push}
use Rattle.bt_table_replies.specs.Losses.{losses, with_loss}
use Rattle.bt_table_replies.proofs.losses.losses_in.Goals as goal

pub loop-family-init : goal.loop-family-init
loop-family-init c = c.new-all.ensures.empty ∙ sym (losses-none c.args.rows.now)

-- the rows lose one more family
pub loop-family-preserved : goal.loop-family-preserved
loop-family-preserved c =
    let rows = c.args.rows.now in
    let families = c.args.families.now in
    let i = c.loop-family.family-index in
    let f = c.family-item.result in
    let sorted : IsStrictlySortedBy (slice_cmp nat_cmp) (keys_of rows) = c.is_empty.ensures.table.sorted in
    let added : c.add_losses.new.all.entries ≡ fold (with_loss f) c.loop-family.all.entries (keys_with f rows) = search rules in
    let more : take (i + 1) families ≡ take i families ++ f ∷ [] = search (rules, take_more families i f) in
    added ∙ ap (λ ls. fold (with_loss f) ls (keys_with f rows)) c.loop-family.invariant ∙ losses_push f (take i families) rows sorted ∙ ap (λ ns. losses ns rows) (sym more)
