use Rattle.std.proofs.Common.{refl, ◌∙◌}
use Rattle.bt_outside.specs.Links.{Adds, Marks}
use Rattle.bt_outside.proofs.SentLists.{last_goes, last_place, on_ok, on_err}
use Rattle.bt_outside.proofs.memory_links.add_to_last.Goals as goal

pub returns-clause-ok : goal.returns-clause-ok
returns-clause-ok c =
    let place = last_place c.args.sent.now.items _ c.len-last.result c.requires (c.len-last.ensures ∙ c.args.sent.now.ok.0) refl in
    on_ok c.add.result _ _ c.add.ensures.ok (last_goes (Adds c.args.bytes.now c.args.moment) c.args.sent.now.items _ c.index_mut.result.now c.add.new.self place c.index_mut.ensures.value)

pub returns-clause-err : goal.returns-clause-err
returns-clause-err c =
    let place = last_place c.args.sent.now.items _ c.len-last.result c.requires (c.len-last.ensures ∙ c.args.sent.now.ok.0) refl in
    on_err c.add.result _ _ c.add.ensures.err (last_goes Marks c.args.sent.now.items _ c.index_mut.result.now c.add.new.self place c.index_mut.ensures.value)
