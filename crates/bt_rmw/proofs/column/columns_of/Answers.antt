use Rattle.std.proofs.Common.{◌≤◌, arith, length, List, get_or, sym, take, rules}
use Rattle.std.specs.Prelude.{All, IsTrue}
use Rattle.std.specs.List.{AllByRecursion}
use Rattle.std.specs.List.Sorted.{IsStrictlySortedBy}
use Rattle.std.proofs.lemmas.List.{take_all}
use Rattle.std.proofs.lemmas.List.Elements.{All-more, All-same, All-weaker, recursion_from_All}
use Rattle.bt_rmw.specs.declared.column.Column.{Column}
use Rattle.bt_rmw.specs.declared.rule.ModifyRule.{ModifyRule}
use Rattle.bt_rmw.specs.Columns.{column_order, has_column}
use Rattle.bt_rmw.specs.Rules.{column_of}
use Rattle.bt_rmw.proofs.Keys.{of_list, still_has}
use Rattle.bt_rmw.proofs.column.columns_of.Goals as goal

abbrev Has : List Column → ModifyRule → Type 0
Has columns rule = IsTrue (has_column columns (column_of rule))

pub loop-rule-preserved : goal.loop-rule-preserved
loop-rule-preserved c =
    let old = c.loop-rule.columns.keys in
    let new = c.insert.new.self.keys in
    let rules_now = c.args.rules.now in
    let i = c.loop-rule.rule-index in
    let here : Has new (get_or rules_now i c.rule-item.result) = search rules in
    let before : All (Has new) (take i rules_now) = All-weaker (Has old) (Has new) (λ r has. still_has _ old new c.in_ok-insert.ensures.updates.0 (column_of r) has) (take i rules_now) c.loop-rule.invariant.0 in
    (All-more (Has new) rules_now i c.rule-item.result (search rules) before here, search rules, search rules, search rules)

pub returns-clause-all : goal.returns-clause-all
returns-clause-all c =
    let columns = c.loop-rule.columns.keys in
    let whole = take_all c.loop-rule.rule-index c.args.rules.now c.loop-rule-test.false in
    let all = All-same (Has columns) c.args.rules.now _ (sym whole) c.loop-rule.invariant.0 in
    of_list (λ cs. AllByRecursion (Has cs) c.args.rules.now) columns c.list_of.result c.list_of.ensures (recursion_from_All (Has columns) c.args.rules.now all)

pub returns-clause-ascending : goal.returns-clause-ascending
returns-clause-ascending c = of_list (λ cs. IsStrictlySortedBy column_order cs) c.loop-rule.columns.keys c.list_of.result c.list_of.ensures c.loop-rule.invariant.1

pub returns-clause-few : goal.returns-clause-few
returns-clause-few c =
    let few : length c.loop-rule.columns.keys ≤ length c.args.rules.now = omega (arith, c.loop-rule.invariant.2, c.loop-rule.invariant.3) in
    of_list (λ cs. length cs ≤ length c.args.rules.now) c.loop-rule.columns.keys c.list_of.result c.list_of.ensures few
