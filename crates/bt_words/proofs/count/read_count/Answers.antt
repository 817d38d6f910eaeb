use Rattle.std.proofs.Common.{◌≡◌, ◌∙◌, true, ap, sym}
use Rattle.bt_words.specs.Words.{is_numeral}
use Rattle.bt_words.proofs.Numerals.{is_read}
use Rattle.bt_words.proofs.count.read_count.Goals as goal

pub returns-in_err-count : goal.returns-in_err-count
returns-in_err-count c =
    let numeral : is_numeral c.args.word.now ≡ true = sym (ap is_numeral c.as_bytes.ensures.value) ∙ sym c.is_numeral.ensures ∙ c.if-not-is_numeral.false in
    absurd (is_read c.args.word.now c.parse.result c.parse.ensures.value.0 numeral (sym c.ok.ensures.value ∙ c.in_err-count.was))
