use Rattle.std.proofs.Common.{ℕ, [], ◌∷◌, ap, sym, ◌∙◌, arith, length-append}
use Rattle.std.proofs.lemmas.Result.{err_from_is_err_and}
use Rattle.std.proofs.lemmas.List.Sums.{fold-append}
use Rattle.bt_codec.specs.Reading.{many_at}
use Rattle.bt_entry.specs.Reading.{rule_at, left_behind}
use Rattle.bt_codec.proofs.Many.{goes_on, ends, is_done}
use Rattle.bt_entry.proofs.RuleTrees.{left_behind_all, no_level, a_level}
use Rattle.bt_entry.proofs.rules.+rule_at.Goals as goal

pub rules_at-returns-in_err-rule-clause-read : goal.rules_at-returns-in_err-rule-clause-read
rules_at-returns-in_err-rule-clause-read t c =
    let p = err_from_is_err_and c.from_residual.result c.from_residual.ensures.1 in
    rw (p.1, p.2) (ends (rule_at c.args.levels) left_behind c.loop.nodes c.in_err-rule.field-0.0 c.loop.rules c.args.count c.loop.counter c.loop.rest.now (many_at (rule_at c.args.levels) left_behind c.args.left c.args.count c.args.bytes.now) c.loop-test.true c.in_err-rule.ensures.read c.loop.invariant.read)

pub rules_at-loop-preserved : goal.rules_at-loop-preserved
rules_at-loop-preserved t c =
    rw (c.in_ok-push.ensures.ok, c.in_ok-rule.ensures.left)
    (record {
      read = goes_on (rule_at c.args.levels) left_behind c.loop.nodes c.loop.rules c.args.count c.loop.counter c.loop.rest.now c.in_ok-rule.rule c.in_ok-rule.after.now (many_at (rule_at c.args.levels) left_behind c.args.left c.args.count c.args.bytes.now) c.loop-test.true c.in_ok-rule.ensures.read c.loop.invariant.read;
      nodes = ap (λ (n : ℕ). left_behind n c.in_ok-rule.rule) c.loop.invariant.nodes ∙ sym (fold-append left_behind c.args.left c.loop.rules (c.in_ok-rule.rule ∷ []));
      counted = omega (arith, length-append c.loop.rules (c.in_ok-rule.rule ∷ []));
    })

pub rules_at-returns-clause-read : goal.rules_at-returns-clause-read
rules_at-returns-clause-read t c = is_done (rule_at c.args.levels) left_behind c.loop.nodes c.loop.rules c.args.count c.loop.counter c.loop.rest.now (many_at (rule_at c.args.levels) left_behind c.args.left c.args.count c.args.bytes.now) c.loop-test.false c.loop.invariant.read

pub rules_at-returns-clause-left : goal.rules_at-returns-clause-left
rules_at-returns-clause-left t c = omega (arith, left_behind_all c.loop.rules c.args.left)

pub rule_at-returns-then-levels-eq0-clause-read : goal.rule_at-returns-then-levels-eq0-clause-read
rule_at-returns-then-levels-eq0-clause-read t c = no_level c.args.levels c.args.left c.args.bytes.now (omega arith)

pub rule_at-returns-clause-read : goal.rule_at-returns-clause-read
rule_at-returns-clause-read t c = rw (a_level c.args.levels c.args.left c.args.bytes.now (omega arith)) c.node_at.ensures.read
