use Rattle.std.proofs.Common.{◌≡◌, ◌≤◌, ◌-◌, length, get_or, rules, arith, ap, sym, ◌∙◌}
use Rattle.std.specs.Prelude.{nat_le, nat_lt, not}
use Rattle.std.proofs.lemmas.Bool.Decides.{nat_tests}
use Rattle.bt_row_replies.proofs.Cutting.{is_full-at}
use Rattle.bt_row_replies.proofs.drop_row_range.is_full.Goals as goal

pub returns-in-Some : goal.returns-in-Some
returns-in-Some c =
    let records = c.args.records.now in
    let last = c.in-Some.record.now in
    let some : 1 ≤ length records = search rules in
    let is : get_or records (length records - 1) last ≡ last = search rules in
    let held : length c.items.result.now ≡ length last = search rules in
    let test : nat_le 1000 (length last) ≡ not (nat_lt (length last) 1000) = grind (arith, nat_tests) in
    ap (nat_le 1000) held ∙ test ∙ sym (is_full-at 1000 records (length records - 1) last (omega (arith, some)) is)
