use Rattle.std.proofs.Common.{◌≤◌, List, [], ◌∷◌, length, ap, sym, subst, arith, length-append}
use Rattle.std.specs.List.{flat_map}
use Rattle.std.proofs.lemmas.Bool.{ltb-true}
use Rattle.std.proofs.lemmas.List.Concat.{flat_map-cons}
use Rattle.bt_entry.specs.declared.numbered.Numbered.{Numbered}
use Rattle.bt_entry.specs.Spelling.{numbered}
use Rattle.bt_entry.proofs.fitting.fits.Goals as goal

-- each entry takes a byte at least
entries_within : (ns : List Numbered) → length ns ≤ length (flat_map numbered ns)
entries_within [] = omega arith
entries_within (n ∷ ns) = omega (arith, entries_within ns, ap length (flat_map-cons numbered n ns), length-append (numbered n) (flat_map numbered ns))

pub returns-clause-few : goal.returns-clause-few
returns-clause-few c fit =
    let within = subst (λ (ns : List Numbered). length c.args.batch.now ≤ length (flat_map numbered ns)) (sym c.items.ensures) (entries_within c.args.batch.now) in
    omega (arith, ltb-true 0 c.behind_all.result fit, c.behind_all.ensures, c.saturating_sub.ensures, c.from-left.ensures, within, c.ranges.limit.fits)
