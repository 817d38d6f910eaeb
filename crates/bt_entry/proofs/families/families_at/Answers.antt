use Rattle.std.proofs.Common.{◌≡◌, ◌∷◌, [], Ok, ap, sym, ◌∙◌, List, ℕ}
use Rattle.std.proofs.lemmas.Result.{err_from_is_err_and}
use Rattle.std.proofs.lemmas.List.Sums.{fold-append}
use Rattle.bt_entry.specs.Grammar.{last_name, name_of}
use Rattle.bt_entry.specs.Reading.{family_at, families_at}
use Rattle.bt_codec.proofs.Many.{goes_on, ends, is_done, Fails}
use Rattle.bt_entry.proofs.families.families_at.Goals as goal

pub returns-in_err-family : goal.returns-in_err-family
returns-in_err-family c =
    let p = err_from_is_err_and c.from_residual.result c.from_residual.ensures.1 in
    let fails : Fails c.in_err-family.field-0.0 (family_at (last_name c.loop.families) c.loop.rest.now) = rw (← c.last_name.ensures) c.in_err-family.ensures in
    rw (p.1, p.2) (ends family_at name_of (last_name c.loop.families) c.in_err-family.field-0.0 c.loop.families c.args.count c.loop.counter c.loop.rest.now (families_at c.args.count c.args.bytes.now) c.loop-test.true fails c.loop.invariant)

pub loop-preserved : goal.loop-preserved
loop-preserved c =
    let n = c.in_ok-family.family in
    let reads : family_at (last_name c.loop.families) c.loop.rest.now ≡ Ok (n, c.in_ok-family.after.now) = ap (λ (b : List ℕ). family_at b c.loop.rest.now) (sym c.last_name.ensures) ∙ c.in_ok-family.ensures in
    rw (c.in_ok-push.ensures.ok, fold-append name_of [] c.loop.families (n ∷ []))
    (goes_on family_at name_of (last_name c.loop.families) c.loop.families c.args.count c.loop.counter c.loop.rest.now n c.in_ok-family.after.now (families_at c.args.count c.args.bytes.now) c.loop-test.true reads c.loop.invariant)

pub returns : goal.returns
returns c = is_done family_at name_of (last_name c.loop.families) c.loop.families c.args.count c.loop.counter c.loop.rest.now (families_at c.args.count c.args.bytes.now) c.loop-test.false c.loop.invariant
