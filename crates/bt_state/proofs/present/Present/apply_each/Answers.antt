use Rattle.std.proofs.Common.{◌≡◌, ◌+◌, ◌≤◌, rules, List, length, sym, ap, subst, ◌∙◌}
use Rattle.bt_entry.specs.declared.numbered.Numbered.{Numbered}
use Rattle.bt_all_contents.specs.AllContents.{all_changed}
use Rattle.bt_state.specs.State.{AreLawful, IsReached, Present, events_of, greatest_sequence, presents_after}
use Rattle.bt_state.specs.Batches.{AreChanges, deleted_of, floor_after, schema_by_all, without_all}
use Rattle.bt_state.proofs.InTurn.{MayCome, changes, present_is, short}
use Rattle.bt_state.proofs.Reached.{reached_all}
use Rattle.bt_state.proofs.present.Present.apply_each.Goals as goal
use Rattle.bt_state.proofs.present.Present.apply_each.Goals.{After-put_schema}

-- the entries may come in turn
pub changed_schema-requires : goal.changed_schema-requires
changed_schema-requires c =
    let p : Present = record { schema = c.self.inside.schema; contents = c.self.inside.contents; last = c.self.inside.last; floor = c.self.inside.floor } in
    subst (λ b. AreChanges c.self.inside.schema b) (sym c.items-3.ensures)
    (changes p c.args.batch c.self.invariant.made (subst (λ q. MayCome q c.args.batch) (sym c.self.view_is) (c.requires.numbered, c.requires.lawful)))

-- no value is too long
pub change_all-requires : goal.change_all-requires
change_all-requires c = rw c.in_ok-changes.ensures (short c.args.self.now c.args.batch c.requires.lawful)

-- the parts make the whole
whole : (c : After-put_schema) → record { schema = c.put_schema.new.schema; contents = c.forget_all.new.contents; last = c.self.inside.last + length c.items.result.now; floor = c.floor_after-floor.result } ≡ presents_after c.args.self.now (events_of c.args.batch)
whole c =
    let p : Present = record { schema = c.self.inside.schema; contents = c.self.inside.contents; last = c.self.inside.last; floor = c.self.inside.floor } in
    present_is p c.args.batch c.put_schema.new.schema c.forget_all.new.contents (c.self.inside.last + length c.items.result.now) c.floor_after-floor.result
    c.self.invariant.made c.self.invariant.ordered (subst (λ q. MayCome q c.args.batch) (sym c.self.view_is) (c.requires.numbered, c.requires.lawful))
    (c.put_schema.ensures ∙ c.in_ok-schema.ensures ∙ ap (schema_by_all c.self.inside.schema) c.items-3.ensures)
    (c.forget_all.ensures ∙ ap (λ ds. without_all ds c.change_all.new.self) (c.in_ok-deleted.ensures ∙ ap deleted_of c.items-4.ensures)
    ∙ ap (without_all (deleted_of c.args.batch)) (c.in_ok-change_all.ensures.ok ∙ ap (λ cs. all_changed cs c.self.inside.contents) c.in_ok-changes.ensures))
    (ap (λ (b : List Numbered). c.self.inside.last + length b) c.items.ensures)
    (c.floor_after-floor.ensures ∙ ap (floor_after c.self.inside.floor) c.items-2.ensures)
    ∙ ap (λ q. presents_after q (events_of c.args.batch)) c.self.view_is

pub invariant_of-self-2 : goal.invariant_of-self-2
invariant_of-self-2 c =
    let p : Present = record { schema = c.self.inside.schema; contents = c.self.inside.contents; last = c.self.inside.last; floor = c.self.inside.floor } in
    let room : c.self.inside.last + length c.args.batch ≤ greatest_sequence = search rules in
    subst IsReached (ap (λ q. presents_after q (events_of c.args.batch)) c.self.view_is ∙ sym (whole (goal.at.invariant_of-self-2 c).After-put_schema))
    (reached_all p c.args.batch c.self.invariant (subst (λ q. AreLawful q (events_of c.args.batch)) (sym c.self.view_is) c.requires.lawful) room)

pub returns-clause-ok : goal.returns-clause-ok
returns-clause-ok c = whole (goal.at.returns-clause-ok c).After-put_schema
