use Rattle.std.proofs.Common.{◌≡◌, ◌++◌, ◌∷◌, sym, subst, ap, ◌∙◌}
use Rattle.std.proofs.lemmas.List.{append_assoc}
use Rattle.bt_json.specs.Names.{AreSorted}
use Rattle.bt_json.proofs.Sorted.{put_last}
use Rattle.bt_json.proofs.gathering.to_map.Goals as goal

pub loop-name-preserved : goal.loop-name-preserved
loop-name-preserved c =
    let l = c.loop-name in
    let step : l.name-iterator.rest.items ≡ (c.in-Some.name, c.in-Some.value) ∷ c.next.new.self.rest.items = c.in-Some.ensures.steps.0 in
    let whole : l.map.entries ++ (c.in-Some.name, c.in-Some.value) ∷ c.next.new.self.rest.items ≡ c.args.members.items = ap (λ es. l.map.entries ++ es) (sym step) ∙ l.invariant in
    let sorted : AreSorted (l.map.entries ++ (c.in-Some.name, c.in-Some.value) ∷ c.next.new.self.rest.items) = subst AreSorted (sym whole) c.requires.sorted in
    ap (λ es. es ++ c.next.new.self.rest.items) (c.in_ok-insert.ensures.entries ∙ put_last c.in-Some.name c.in-Some.value l.map.entries c.next.new.self.rest.items sorted) ∙ append_assoc l.map.entries _ _ ∙ whole
