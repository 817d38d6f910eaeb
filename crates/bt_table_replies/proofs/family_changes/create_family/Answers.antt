use Rattle.std.proofs.Common.{◌≡◌, true, false, Some, rules}
use Rattle.std.specs.Prelude.{not}
use Rattle.bt_messages.specs.declared.refusal.Refusal.TheVariants.{BadGcRule}
use Rattle.bt_table_replies.proofs.Altering.{unlawful}
use Rattle.bt_plans.specs.Replies.{refused_if}
use Rattle.bt_rules.specs.Rules.{is_lawful_or_none}
use Rattle.bt_schema.specs.Schema.{is_family_of}
use Rattle.bt_types.specs.Grammar.{is_family_name}
use Rattle.bt_table_replies.proofs.family_changes.create_family.Goals as goal

pub returns-in_err-rule-clause-refusal : goal.returns-in_err-rule-clause-refusal
returns-in_err-rule-clause-refusal c =
    let named : is_family_name c.args.name.now ≡ true = search rules in
    let new : is_family_of c.args.families.now c.args.name.now ≡ false = search rules in
    let fault : refused_if (not (is_lawful_or_none c.args.rule)) BadGcRule ≡ Some c.in_err-rule.field-0.0 = search rules in
    let bad = unlawful (is_lawful_or_none c.args.rule) BadGcRule c.in_err-rule.field-0.0 fault in
    let same : BadGcRule ≡ c.in_err-rule.field-0.0 = bad.1 in
    rw (named, new, bad.0) (search rules)
