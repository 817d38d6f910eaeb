use Rattle.std.proofs.Common.{◌≡◌, ◌++◌, ◌+◌, ◌-◌, [], ◌∷◌, length, true, false, rules, arith, sym, ap, ◌∙◌, get_or, slice_set, vec_len}
use Rattle.std.proofs.lemmas.Result.{on_ok_weaker}
use Rattle.bt_row_replies.proofs.Cutting.{some_piece, with_item-last, with_item-new}
use Rattle.bt_row_replies.specs.Drops.{is_full}
use Rattle.bt_row_replies.proofs.drop_row_range.put.Goals as goal

pub returns-then-is_full : goal.returns-then-is_full
returns-then-is_full c =
    let items = c.args.records.now.items in
    let made : c.push-then-is_full.new.self.items ≡ items ++ (c.args.entry ∷ []) ∷ [] = search rules in
    let full : is_full 1000 items ≡ true = search rules in
    made ∙ sym (with_item-new 1000 c.args.entry items full)

pub returns : goal.returns
returns c =
    let items = c.args.records.now.items in
    let place = vec_len c.args.records.now - 1 in
    let last = c.in-Some.record.now in
    let room : is_full 1000 items ≡ false = search rules in
    let long : vec_len c.args.records.now ≡ length items = search rules in
    let at : place + 1 ≡ length items = omega (arith, long, some_piece 1000 items room) in
    let is : get_or items place last ≡ last = search rules in
    on_ok_weaker c.push-in-Some.result
    (λ (e : c.push-in-Some.new.self ≡ last ++ c.args.entry ∷ []). ap (slice_set items place) e ∙ sym (with_item-last 1000 c.args.entry items place last room at is)) c.push-in-Some.ensures.ok
