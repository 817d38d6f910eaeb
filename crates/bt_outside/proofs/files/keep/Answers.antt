use Rattle.std.proofs.Common.{List, [], ◌∷◌, ◌++◌, sym, ◌∙◌, ap, subst, refl, arith}
use Rattle.bt_outside.specs.declared.calls.Call.{Call}
use Rattle.bt_outside.specs.Model.{State}
use Rattle.bt_outside.specs.DiskSteps.{CanBe}
use Rattle.bt_outside.specs.DiskImage.{start_of}
use Rattle.bt_outside.proofs.Places.{place_within, lookup_at, lookup_step}
use Rattle.bt_outside.proofs.files.keep.Goals as goal

pub index_mut-requires : goal.index_mut-requires
index_mut-requires c = omega (arith, place_within c.place_or_load.new.files.items c.args.call.file c.in_ok-place.place c.in_ok-place.ensures.place, c.place_or_load.new.files.ok.0)

pub apply-requires : goal.apply-requires
apply-requires c =
    let found = lookup_at (start_of c.args.base.now) c.place_or_load.new.files.items c.args.call.file c.in_ok-place.place c.index_mut.result.now c.in_ok-place.ensures.place c.index_mut.ensures.value in
    subst (λ (s : State). CanBe c.args.call.kind s) (sym (found.1 ∙ c.place_or_load.ensures.same c.args.call.file)) c.requires

pub returns-clause-ok : goal.returns-clause-ok
returns-clause-ok c = (
  c.in_ok-push.ensures.items ∙ ap (λ (l : List Call). l ++ c.args.call ∷ []) c.try_reserve.ensures.items,
  lookup_step (start_of c.args.base.now) c.place_or_load.new.files.items c.args.files.now.items c.args.call.file c.in_ok-place.place c.index_mut.result.now c.apply.new.self c.args.call c.in_ok-place.ensures.place c.place_or_load.ensures.same c.index_mut.ensures.value refl c.in_ok-apply.ensures.ok,
)
