use Rattle.std.proofs.Common.{◌∙◌, ap, arith, inl, inr, refl, sym}
use Rattle.bt_store.specs.declared.limits.Limits.{Limits}
use Rattle.bt_top.proofs.Sessions.{blamed_next, ended_session, ran_as, ran_next, ran_none, ran_still, same_blame, went_as}
use Rattle.bt_top.proofs.serving.session.Goals as goal

pub returns-in_default-clause-session : goal.returns-in_default-clause-session
returns-in_default-clause-session g c d l k s stands = ended_session g.D.Disk _ _ _ _ _ _ _ _ _ _ _ _ _ 0 _ _ refl (ran_none g.D.Disk _ _ _ _ _ _ _ _ (g.met.D.Disk.only_now _) stands)

pub loop-served-init : goal.loop-served-init
loop-served-init g c = record {
  within = omega arith;
  line = c.in-Ok.ensures.most ∙ ap (λ (x : Limits). x.line) c.limits.ensures;
  limits = refl;
  tells = λ k. k;
  next_faults = refl;
  disk = (refl, refl);
  usable = c.requires.stands;
  run = λ d l k s stands. ran_none g.D.Disk _ _ _ _ _ _ _ _ (g.met.D.Disk.only_now _) stands;
}

pub returns-in-Err-clause-session : goal.returns-in-Err-clause-session
returns-in-Err-clause-session g c d l k s stands =
    let before = c.loop-served.invariant.run d l k s stands in
    let err = c.in-Err.ensures.err l in
    ended_session g.D.Disk _ _ _ _ _ _ _ _ _ _ _ _ _ c.loop-served.served _ _ (omega (arith, c.loop-served-test.true))
    (ran_still g.D.Disk _ _ _ _ _ _ _ _ _ _ _ _ _ _ _ _ _ _ before err.0 err.2 (λ b h. blamed_next b _ _ _ h (c.in-Err.ensures.faults.failed refl)))

pub returns-in-Ok-false-clause-session : goal.returns-in-Ok-false-clause-session
returns-in-Ok-false-clause-session g c d l k s stands =
    let before = c.loop-served.invariant.run d l k s stands in
    let none = went_as _ _ _ _ _ _ _ c.in-Ok-false.field-0-test (c.in-Ok-false.ensures.ok l) in
    ended_session g.D.Disk _ _ _ _ _ _ _ _ _ _ _ _ _ c.loop-served.served _ _ (inr (none.1, omega (arith, c.loop-served-test.true)))
    (ran_still g.D.Disk _ _ _ _ _ _ _ _ _ _ _ _ _ _ _ _ _ _ before (none.1 ∙ sym none.0) none.3 (same_blame _ _ _ (c.in-Ok-false.ensures.faults.fine refl)))

pub returns-then-has_ended-clause-session : goal.returns-then-has_ended-clause-session
returns-then-has_ended-clause-session g c d l k s stands =
    let inv = c.loop-served.invariant in
    let next = c.in-Ok-true.ensures in
    let serve = c.serve-has_ended.ensures in
    let before = inv.run d l (serve.tells k) s stands in
    let now = ran_next g.D.Disk _ _ _ _ _ _ _ _ _ _ _ _ _ _ _ _ _ _ _ _ _ _ _ _ _ _ _ _ _ before (g.met.D.Disk.sooner _) c.in-Ok-true.field-0-test (next.ok l) (next.faults.fine refl) inv.limits
    (λ bytes hand. serve.talk d l k before.new before.leaves bytes hand) (c.close.ensures.left l ∙ serve.left l) (c.close.ensures.sent l) c.close.ensures.faults in
    ended_session g.D.Disk _ _ _ _ _ _ _ _ _ _ _ _ _ _ _ _ (omega (arith, c.loop-served-test.true)) (ran_as g.D.Disk _ _ _ _ _ _ _ _ _ _ _ _ _ _ _ _ c.if-has_ended.true now)

pub loop-served-preserved : goal.loop-served-preserved
loop-served-preserved g c =
    let inv = c.loop-served.invariant in
    let next = c.in-Ok-true.ensures in
    let serve = c.if-has_ended.ensures in
    record {
      within = omega (arith, c.loop-served-test.true);
      line = serve.most ∙ inv.line ∙ sym (ap (λ (x : Limits). x.line) serve.limits);
      limits = serve.limits ∙ inv.limits;
      tells = λ k. inv.tells (serve.tells k);
      next_faults = c.close.ensures.next_faults ∙ serve.next_faults ∙ next.next_faults.fine refl ∙ inv.next_faults;
      disk = (serve.disk.0 ∙ inv.disk.0, serve.disk.1 ∙ inv.disk.1);
      usable = serve.usable;
      run = λ d l k s stands.
          let before = inv.run d l (serve.tells k) s stands in
          ran_next g.D.Disk _ _ _ _ _ _ _ _ _ _ _ _ _ _ _ _ _ _ _ _ _ _ _ _ _ _ _ _ _ before (g.met.D.Disk.sooner _) c.in-Ok-true.field-0-test (next.ok l) (next.faults.fine refl) inv.limits
          (λ bytes hand. serve.talk d l k before.new before.leaves bytes hand) (c.close.ensures.left l ∙ serve.left l) (c.close.ensures.sent l) c.close.ensures.faults;
    }

pub returns-clause-session : goal.returns-clause-session
returns-clause-session g c d l k s stands =
    let inv = c.loop-served.invariant in
    ended_session g.D.Disk _ _ _ _ _ _ _ _ _ _ _ _ _ c.loop-served.served _ _ (inl (omega (arith, inv.within, c.loop-served-test.false))) (inv.run d l k s stands)
