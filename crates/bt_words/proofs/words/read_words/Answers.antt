use Rattle.std.proofs.Common.{◌≡◌, ◌∙◌, sym, true}
use Rattle.std.specs.List.{list_all}
use Rattle.std.proofs.lemmas.Result.{err_from_is_err_and}
use Rattle.clap.specs.Walk.{texts}
use Rattle.bt_words.specs.Words.{is_operand}
use Rattle.bt_words.proofs.Verdicts.{refused, taken}
use Rattle.bt_words.proofs.words.read_words.Goals as goal

pub returns-in_err-matches : goal.returns-in_err-matches
returns-in_err-matches c =
    let all : list_all is_operand c.args.words.now ≡ true = rw c.items.ensures at (sym c.are_operands.ensures ∙ c.if-not-are_operands.false) in
    let words : texts c.as_slice.result.now ≡ c.args.words.now = rw c.as_slice.ensures.value (c.in_ok-texts.ensures ∙ c.items-2.ensures) in
    let usage = rw words at c.in_err-matches.ensures.usage in
    let p = err_from_is_err_and c.from_residual-in_err-matches.result c.from_residual-in_err-matches.ensures.1 in
    rw (p.1, p.2) (refused c.in_err-matches.field-0.0 c.args.words.now all usage)

pub returns : goal.returns
returns c =
    let all : list_all is_operand c.args.words.now ≡ true = rw c.items.ensures at (sym c.are_operands.ensures ∙ c.if-not-are_operands.false) in
    let words : texts c.as_slice.result.now ≡ c.args.words.now = rw c.as_slice.ensures.value (c.in_ok-texts.ensures ∙ c.items-2.ensures) in
    let takes = rw words at c.in_ok-matches.ensures.takes in
    let found = rw words at c.in_ok-matches.ensures.found in
    taken c.command_in.result c.args.words.now all takes (rw found at c.command_in.ensures)
