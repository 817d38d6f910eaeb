use Rattle.std.proofs.Common.{◌+◌, ◌<◌, arith, rules, subst, sym}
use Rattle.bt_state.specs.State.{Event, IsLawful, Present, greatest_sequence}
use Rattle.bt_state.proofs.Entries.{is_new}
use Rattle.bt_state.proofs.Made.{none_past}
use Rattle.bt_state.proofs.Reached.{reached_after}
use Rattle.bt_state.proofs.present.Present.apply.Goals as goal

-- no table has the next sequence
pub apply_change-requires-clause-new : goal.apply_change-requires-clause-new
apply_change-requires-clause-new c = is_new (c.self.inside.last + 1) c.args.entry c.self.inside.schema (none_past c.self.inside.last (c.self.inside.last + 1) (omega arith) c.self.inside.schema c.self.invariant.made)

pub invariant_of-self-2 : goal.invariant_of-self-2
invariant_of-self-2 c =
    let p : Present = record { schema = c.self.inside.schema; contents = c.self.inside.contents; last = c.self.inside.last; floor = c.self.inside.floor } in
    let e : Event = record { moment = c.args.moment; entry = c.args.entry } in
    let room : c.self.inside.last < greatest_sequence = search rules in
    rw (c.in_ok-apply_change.ensures.ok, c.in_ok-change_rows.ensures.ok)
    (reached_after p e c.self.invariant (subst (λ q. IsLawful q e) (sym c.self.view_is) c.requires.lawful) room)
