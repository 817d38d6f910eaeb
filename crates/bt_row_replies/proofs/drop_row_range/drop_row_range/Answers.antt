use Rattle.std.proofs.Common.{◌≡◌, ◌<◌, ◌^◌, ◌+◌, map, None, Some, rules}
use Rattle.std.specs.List.{AllByRecursion}
use Rattle.std.specs.Map.{keys_of}
use Rattle.bt_contents.specs.Ranges.{rows_within}
use Rattle.bt_row_replies.proofs.Dropping.{drop-plan, none_dropped}
use Rattle.bt_row_replies.specs.Drops.{IsKey, cut_every, deletion_of, target_range, target_refusal}
use Rattle.bt_plans.specs.Records.{numbered_on, plan_of}
use Rattle.bt_plans.specs.declared.answer.Answer.TheVariants.{Empty}
use Rattle.bt_schema.specs.Schema.{table_at, table_of}
use Rattle.bt_state.specs.State.{rows_of}
use Rattle.bt_row_replies.proofs.drop_row_range.drop_row_range.Goals as goal

pub returns-in_default-2 : goal.returns-in_default-2
returns-in_default-2 c =
    let p = c.args.present.now in
    let t = c.in-Some.table.now in
    let target = c.in-Ok.target in
    let found : table_of c.args.name.now p.schema ≡ Some t = search rules in
    let asked : c.args.target ≡ Some target = search rules in
    let lawful : target_refusal c.args.target ≡ None = search rules in
    let none : target_range target ≡ None = search rules in
    rw (found, asked) (none_dropped t c.args.moment p target (rw asked at lawful) none)

pub returns : goal.returns
returns c =
    let p = c.args.present.now in
    let t = c.in-Some.table.now in
    let target = c.in-Ok.target in
    let keys = c.in_ok-keys.keys in
    let records = c.in_ok-records.records in
    let found : table_of c.args.name.now p.schema ≡ Some t = search rules in
    let own : table_at t.incarnation p.schema ≡ Some t = search rules in
    let asked : c.args.target ≡ Some target = search rules in
    let lawful : target_refusal c.args.target ≡ None = search rules in
    let range : target_range target ≡ Some c.in-Some-2.range = search rules in
    let are : keys ≡ keys_of (rows_within c.in-Some-2.range (rows_of t.incarnation p.contents)) = search rules in
    let all : AllByRecursion IsKey keys = search rules in
    let made : records ≡ numbered_on (p.last + 1) c.args.moment (cut_every 1000 (map (deletion_of t) keys)) = search rules in
    let small : t.incarnation < 2 ^ 64 = search rules in
    let is : c.plan_of.result ≡ plan_of records Empty = search rules in
    rw (found, asked, is) (drop-plan t c.args.moment p target (rw asked at lawful) c.in-Some-2.range keys records range are all made small own c.requires.not_before c.requires.not_past)
