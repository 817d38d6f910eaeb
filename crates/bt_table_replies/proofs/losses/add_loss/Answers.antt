use Rattle.std.proofs.Common.{◌≡◌, ◌++◌, ◌∙◌, [], ◌∷◌, Some, ap, sym, rules}
use Rattle.std.specs.Prelude.{unwrap_or}
use Rattle.std.specs.BTreeMap.{insert_entry, is_at}
use Rattle.std.specs.Cmp.Lexicographic.{slice_cmp}
use Rattle.std.specs.Map.{lookup, set_value}
use Rattle.std.specs.Option.{option_copied_mut}
use Rattle.std.specs.Ordering.{nat_cmp}
use Rattle.std.proofs.lemmas.Cmp.{nat_list_cmp_total}
use Rattle.std.proofs.lemmas.Result.{on_ok_weaker}
use Rattle.bt_row.proofs.Entries.{set_is_insert}
use Rattle.bt_types.specs.declared.mutation.Mutation.TheVariants.{DeleteFamily}
use Rattle.bt_table_replies.proofs.losses.add_loss.Goals as goal

-- the row loses one more family
pub returns-in-Some : goal.returns-in-Some
returns-in-Some c =
    let all = c.args.all.now.entries in
    let key = c.args.key in
    let old = c.in-Some.deletions.now in
    let new = c.push.new.self in
    let found : lookup (is_at (slice_cmp nat_cmp key)) all ≡ Some old = sym c.get_mut.ensures.value ∙ ap option_copied_mut c.in-Some.is in
    let written : (c.get_mut.follows.lender new).entries ≡ set_value (is_at (slice_cmp nat_cmp key)) all new = search rules in
    let copied : c.in_ok-family.family ≡ c.args.family.now = search rules in
    on_ok_weaker c.push.result (λ (e : new ≡ old ++ DeleteFamily c.in_ok-family.family ∷ []).
    written ∙ set_is_insert nat_list_cmp_total key new old all c.get_mut.ensures.ordered found
    ∙ ap (insert_entry (slice_cmp nat_cmp) all key) (e ∙ ap (λ n. old ++ DeleteFamily n ∷ []) copied ∙ ap (λ o. unwrap_or o [] ++ DeleteFamily c.args.family.now ∷ []) (sym found))) c.push.ensures.ok
