use Rattle.std.proofs.Common.{refl, ◌∙◌}
use Rattle.bt_outside.specs.Links.{Marks}
use Rattle.bt_outside.proofs.SentLists.{last_goes, last_place}
use Rattle.bt_outside.proofs.memory_links.mark_last.Goals as goal

pub returns-clause-goes : goal.returns-clause-goes
returns-clause-goes c =
    let place = last_place c.args.sent.now.items _ c.len-last.result c.requires (c.len-last.ensures ∙ c.args.sent.now.ok.0) refl in
    last_goes Marks c.args.sent.now.items _ c.index_mut.result.now c.mark.new.self place c.index_mut.ensures.value c.mark.ensures
