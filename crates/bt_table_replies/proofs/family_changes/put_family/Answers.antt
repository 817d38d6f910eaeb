use Rattle.std.proofs.Common.{◌≡◌, ◌∙◌, true, false, sym, rules}
use Rattle.std.specs.Prelude.{insert}
use Rattle.std.specs.List.{slice_get}
use Rattle.std.proofs.lemmas.Result.{on_ok_weaker}
use Rattle.bt_table_replies.proofs.Altering.{place_within, put_before, put_over}
use Rattle.bt_table_replies.specs.Families.{has_name, place_of}
use Rattle.bt_table_replies.proofs.family_changes.put_family.Goals as goal

pub returns-then-has_name : goal.returns-then-has_name
returns-then-has_name c =
    let families = c.args.families.now in
    let place = c.place_of-place.result in
    let at : place ≡ place_of c.args.family.name families = search rules in
    let named : has_name c.args.family.name (slice_get families place) ≡ true = search rules in
    c.set.ensures ∙ sym (put_over c.args.family families place at named)

pub insert-requires : goal.insert-requires
insert-requires c = search (rules, place_within c.args.family.name c.args.families.now)

pub returns : goal.returns
returns c =
    let families = c.args.families.now in
    let place = c.place_of-place.result in
    let at : place ≡ place_of c.args.family.name families = search rules in
    let other : has_name c.args.family.name (slice_get families place) ≡ false = search rules in
    on_ok_weaker c.insert.result (λ (e : c.insert.new.self ≡ insert families place c.args.family). e ∙ sym (put_before c.args.family families place at other)) c.insert.ensures.ok
