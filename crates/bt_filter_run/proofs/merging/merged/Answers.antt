use Rattle.std.proofs.Common.{rules, ◌≡◌, ◌-◌, length, arith, vec_len, Some, refl}
use Rattle.std.proofs.lemmas.Bool.Decides.{nat_tests}
use Rattle.bt_filter_run.proofs.Merges.{first_step, second_step, first_left, second_left, none_left}
use Rattle.bt_filter_run.proofs.merging.merged.Goals as goal
use Rattle.bt_filter_run.proofs.merging.merged.Goals.{in_default, in_default-2, then-is_empty, else-is_empty}

pub loop-one-preserved-in_ok-move_last : goal.loop-one-preserved-in_ok-move_last
loop-one-preserved-in_ok-move_last c =
    first_step _ c.loop-one.first.items c.loop-one.second.items c.loop-one.behind.items c.move_last.new.from.items c.move_last.new.to.items
    (vec_len c.loop-one.first - 1) (vec_len c.loop-one.second - 1) c.in-Some-Some.one.now c.in-Some-Some.other.now (omega arith) (search rules) (omega arith) (search rules)
    (search rules) c.move_last.ensures.rest c.in_ok-move_last.ensures.moved c.loop-one.invariant

pub loop-one-preserved : goal.loop-one-preserved
loop-one-preserved c =
    second_step _ c.loop-one.first.items c.loop-one.second.items c.loop-one.behind.items c.move_last-else-eq.new.from.items c.move_last-else-eq.new.to.items
    (vec_len c.loop-one.first - 1) (vec_len c.loop-one.second - 1) c.in-Some-Some.one.now c.in-Some-Some.other.now (omega arith) (search rules) (omega arith) (search rules)
    (search rules) c.move_last-else-eq.ensures.rest c.in_ok-move_last-2.ensures.moved c.loop-one.invariant

pub returns : goal.returns
returns c = elim c.if-is_empty.branch [
  | then-is_empty w ↦
      let empty : vec_len c.loop-one.first ≡ 0 = grind (arith, nat_tests) in
      second_left _ c.loop-one.first.items c.loop-one.second.items c.loop-one.behind.items c.from_vec.result (omega arith) (search rules) c.loop-one.invariant
  | else-is_empty w ↦ elim c.match-last.branch [
    | in_default v ↦ first_left _ c.loop-one.first.items c.loop-one.second.items c.loop-one.behind.items c.from_vec.result (length c.loop-one.second.items - 1) refl (search rules) (search rules) c.loop-one.invariant
    | in_default-2 v ↦
        let empty : vec_len c.loop-one.first ≡ 0 = omega (arith, none_left c.loop-one.first.items (length c.loop-one.first.items - 1) refl (search rules)) in
        absurd (grind (arith, nat_tests))
  ]
]
