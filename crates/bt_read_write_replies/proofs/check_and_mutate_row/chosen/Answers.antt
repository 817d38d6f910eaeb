use Rattle.std.proofs.Common.{◌≡◌, None, Some, Err, Ok, rules}
use Rattle.bt_plans.specs.declared.no_plan.NoPlan.TheVariants.{Refused}
use Rattle.bt_read_write_replies.proofs.Checking.{built_fails, refused_by_lists}
use Rattle.bt_read_write_replies.specs.CheckAndMutate.{IsBuilt, branches_refusal, check_refusal}
use Rattle.bt_read_write_replies.proofs.check_and_mutate_row.chosen.Goals as goal

pub returns-in_err-predicate-clause-reply : goal.returns-in_err-predicate-clause-reply
returns-in_err-predicate-clause-reply c =
    let e = c.in_err-predicate.field-0.0 in
    let fine : check_refusal c.args.check ≡ None = search rules in
    let bad : IsBuilt c.args.check.predicate (Err e) = search rules in
    let is : c.from_residual-in_err-predicate.result ≡ Err e = search rules in
    rw is (built_fails c.args.moment c.args.table.now c.args.check _ e fine bad)

pub returns-in_err-check_branches-clause-reply : goal.returns-in_err-check_branches-clause-reply
returns-in_err-check_branches-clause-reply c =
    let t = c.args.table.now in
    let why = c.in_err-check_branches.field-0.0 in
    let fine : check_refusal c.args.check ≡ None = search rules in
    let built : IsBuilt c.args.check.predicate (Ok c.in_ok-predicate.predicate) = search rules in
    let some : branches_refusal t.families c.args.check.yes c.args.check.no ≡ Some why = search rules in
    let is : c.from_residual-in_err-check_branches.result ≡ Err (Refused why) = search rules in
    rw is (refused_by_lists c.args.moment t c.args.check _ why c.in_ok-predicate.predicate fine built some)
