use Rattle.std.proofs.Common.{◌≡◌, ◌<◌, ◌^◌, ℕ, List, [], None, Err, length, map, true, false, option_map, unwrap_or, refl, sym, subst, ap, ◌∙◌, arith, rules}
use Rattle.std.specs.List.{AllByRecursion}
use Rattle.bt_types.specs.Grammar.{is_row_key}
use Rattle.bt_contents.specs.Contents.{row_at}
use Rattle.bt_entry.specs.declared.entry.Entry.{Entry}
use Rattle.bt_entry.specs.declared.entry.Entry.TheVariants.{Row}
use Rattle.bt_mutation.specs.Checks.{has_family}
use Rattle.bt_plans.specs.Comings.{MayCome}
use Rattle.bt_read_write_replies.proofs.Modifying.{refused_by_row, sets_may_come}
use Rattle.bt_read_write_replies.specs.ReadModifyWrite.{IsModified, IsRefusedForRow, modify_refusal}
use Rattle.bt_rmw.proofs.Laws.{IsAlike, count, families_pass, same_modified}
use Rattle.bt_rmw.specs.Modified.{modified, set_of}
use Rattle.bt_rmw.specs.declared.rule.ModifyRule.{ModifyRule}
use Rattle.bt_read_write_replies.proofs.read_modify_write_row.modified_row.Goals as goal

pub returns-in_err-mutations-clause-modified : goal.returns-in_err-mutations-clause-modified
returns-in_err-mutations-clause-modified c =
    let t = c.args.table.now in
    let m = c.args.moment in
    let lawful = c.in_ok-rules.rules in
    let latest = c.in_ok-latest.latest in
    let rows = unwrap_or (option_map (λ r. r.now) c.args.rows) [] in
    let e = c.in_err-mutations.field-0.0 in
    let key : c.in-Some.key ≡ c.args.key.now = search rules in
    let alike : AllByRecursion (IsAlike latest (row_at c.args.key.now rows)) lawful =
    subst (λ (rs : List ModifyRule). AllByRecursion (IsAlike latest (row_at c.args.key.now rows)) rs) c.items.ensures (subst (λ (k : List ℕ). AllByRecursion (IsAlike latest (row_at k rows)) c.items.result.now) key c.in_ok-latest.ensures)
    in
    let is : c.from_residual-in_err-mutations.result ≡ Err e = search rules in
    let none : modify_refusal c.args.key.now c.args.rules t ≡ None = search rules in
    let same = same_modified m latest (row_at c.args.key.now rows) lawful alike in
    let bad : IsRefusedForRow (modified m lawful (row_at c.args.key.now rows)) e = rw (← same) c.in_err-mutations.ensures.refusal in
    let refused = refused_by_row (modify_refusal c.args.key.now c.args.rules t) t c.args.key.now (modified m lawful (row_at c.args.key.now rows)) e none bad in
    rw is (subst (λ (rs : List ModifyRule). IsModified (modify_refusal c.args.key.now c.args.rules t) t c.args.key.now (modified m rs (row_at c.args.key.now rows)) (Err e)) c.in_ok-rules.ensures.rules refused)

pub returns-clause-modified : goal.returns-clause-modified
returns-clause-modified c =
    let t = c.args.table.now in
    let m = c.args.moment in
    let lawful = c.in_ok-rules.rules in
    let latest = c.in_ok-latest.latest in
    let rows = unwrap_or (option_map (λ r. r.now) c.args.rows) [] in
    let key : c.in-Some.key ≡ c.args.key.now = search rules in
    let alike : AllByRecursion (IsAlike latest (row_at c.args.key.now rows)) lawful =
    subst (λ (rs : List ModifyRule). AllByRecursion (IsAlike latest (row_at c.args.key.now rows)) rs) c.items.ensures (subst (λ (k : List ℕ). AllByRecursion (IsAlike latest (row_at k rows)) c.items.result.now) key c.in_ok-latest.ensures)
    in
    let none : modify_refusal c.args.key.now c.args.rules t ≡ None = search rules in
    let same = same_modified m latest (row_at c.args.key.now rows) lawful alike in
    let copied : c.in_ok-copy.field-0 ≡ c.args.key.now = search rules in
    (none, ap (λ (rs : List ModifyRule). modified m rs (row_at c.args.key.now rows)) (sym c.in_ok-rules.ensures.rules) ∙ sym same ∙ c.in_ok-mutations.ensures.cells, key, rw (c.incarnation_of.ensures, copied, c.in_ok-mutations.ensures.mutations) refl)

pub returns-clause-may_come : goal.returns-clause-may_come
returns-clause-may_come c =
    let t = c.args.table.now in
    let m = c.args.moment in
    let lawful = c.in_ok-rules.rules in
    let cells = c.in_ok-mutations.cells in
    let made = c.in_ok-mutations.ensures in
    let copied : c.in_ok-copy.field-0 ≡ c.args.key.now = search rules in
    let is_key : is_row_key c.args.key.now ≡ true = search rules in
    let small : t.incarnation < 2 ^ 64 = rw (← c.incarnation_of.ensures) c.incarnation_of.type_inv in
    let counted = count m c.in_ok-latest.latest lawful cells c.in_ok-rules.ensures.some.0 made.cells in
    let few : length cells < 2 ^ 32 = omega (arith, counted.1, c.in_ok-rules.ensures.some.1) in
    let families = families_pass m c.in_ok-latest.latest (has_family t.families) lawful cells c.in_ok-rules.ensures.families made.cells in
    let is : Row c.incarnation_of.result c.in_ok-copy.field-0 false c.in_ok-mutations.mutations ≡ Row t.incarnation c.args.key.now false (map set_of cells) = rw (c.incarnation_of.ensures, copied, made.mutations) refl in
    let came = sets_may_come t m c.args.key.now cells small is_key counted.0 few (rw (← made.mutations) made.spellable) families c.requires in
    subst (λ (e : Entry). MayCome t m e) (sym is) came
