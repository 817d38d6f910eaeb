use Rattle.std.proofs.Common.{◌≡◌, ◌-◌, length, slice_set, insert, Ordering, Less, Equal, refl, sym, subst, ap, ◌∙◌, arith, nat_cmp}
use Rattle.std.specs.Cmp.Lexicographic.{slice_cmp}
use Rattle.std.specs.BTreeMap.{insert_entry}
use Rattle.bt_json.specs.Names.{AreSorted, name_cmp}
use Rattle.bt_json.proofs.Views.{Name}
use Rattle.bt_json.proofs.Sorted.{LessAt, less_behind, less_here, put_at, put_first, put_over}
use Rattle.std.proofs.lemmas.List.{get_or_default}
use Rattle.bt_json.proofs.gathering.put.Goals as goal
use Rattle.bt_json.proofs.gathering.put.Goals.{else-loop-at-test, then-loop-at-test+in-Greater}

pub loop-at-init : goal.loop-at-init
loop-at-init c =
    let all = c.args.members.now.items in
    let n : c.len-at.result ≡ length all = c.len-at.ensures ∙ c.args.members.now.ok.0 in
    let compare : Name → Ordering = λ n. slice_cmp nat_cmp c.args.name.now n.now in
    (omega (arith, n), subst (LessAt compare all) (sym n) (less_behind compare all), refl)

pub index-requires : goal.index-requires
index-requires c = omega (arith, c.loop-at.invariant.0)

pub index_mut-requires : goal.index_mut-requires
index_mut-requires c = omega (arith, c.loop-at.invariant.0)

pub returns-in-Equal : goal.returns-in-Equal
returns-in-Equal c =
    let l = c.loop-at in
    let same : l.members ≡ c.args.members.now = l.invariant.2 in
    let sorted : AreSorted l.members.items = subst (λ m. AreSorted m.items) (sym same) c.requires.sorted in
    let x = c.index.result.now in
    let equal : slice_cmp nat_cmp c.args.name.now x.0.now ≡ Equal = sym c.cmp.ensures ∙ c.in-Equal.is in
    let there : c.index_mut.result.now ≡ x = c.index_mut.ensures.value ∙ get_or_default l.members.items (l.at - 1) _ _ (omega (arith, l.invariant.0)) ∙ sym c.index.ensures in
    record {
      entries = ap (λ y. slice_set l.members.items (l.at - 1) (y.0, c.args.value)) there
          ∙ put_over c.args.name c.args.value l.members.items (l.at - 1) x sorted (omega (arith, l.invariant.0)) c.index.ensures equal
          ∙ ap (λ m. insert_entry name_cmp m.items c.args.name c.args.value) same;
      formed = λ h. absurd (cc);
    }

pub loop-at-preserved : goal.loop-at-preserved
loop-at-preserved c =
    let l = c.loop-at in
    let less : slice_cmp nat_cmp c.args.name.now c.index.result.now.0.now ≡ Less = sym c.cmp.ensures ∙ c.in-Less.is in
    (omega (arith, l.invariant.0), less_here (λ n. slice_cmp nat_cmp c.args.name.now n.now) l.members.items (l.at - 1) c.index.result.now (omega (arith, l.invariant.0)) c.index.ensures less, l.invariant.2)

pub insert-requires : goal.insert-requires
insert-requires c = omega (arith, c.loop-at.invariant.0)

pub returns : goal.returns
returns c =
    let l = c.loop-at in
    let same : l.members ≡ c.args.members.now = l.invariant.2 in
    let sorted : AreSorted l.members.items = subst (λ m. AreSorted m.items) (sym same) c.requires.sorted in
    let placed : insert l.members.items l.at (c.args.name, c.args.value) ≡ insert_entry name_cmp l.members.items c.args.name c.args.value = elim c.loop-at-test.branch [
      | else-loop-at-test w ↦ put_first c.args.name c.args.value l.members.items l.at (omega (arith, w.loop-at-test.false)) l.invariant.1
      | then-loop-at-test+in-Greater w ↦ put_at c.args.name c.args.value l.members.items l.at w.index.result.now sorted w.loop-at-test.true l.invariant.0 w.index.ensures (sym w.cmp.ensures ∙ w.in-Greater.is) l.invariant.1
    ] in
    record {
      entries = c.in_ok-insert.ensures.items ∙ placed ∙ ap (λ m. insert_entry name_cmp m.items c.args.name c.args.value) same;
      formed = λ h. absurd (cc);
    }
