-- What chains and interleaves give, by halves.
use Rattle.std.proofs.Common.{◌≡◌, ℕ, List, [], ◌∷◌, ◌++◌, map, sym, ap, ◌∙◌}
use Rattle.bt_types.specs.declared.cell.Cell.{Cell}
use Rattle.bt_types.specs.Cells.{merge, AreInOrder}
use Rattle.bt_filter.specs.declared.filter.Filter.{Filter}
use Rattle.bt_filter.specs.Meaning.{Given, Gives, after_sunk, beside, chain_gives, interleave_gives, filter_meaning}
use Rattle.bt_filter.proofs.InOrder.{gives_in_order, merge_in_order}
use Rattle.bt_filter_run.proofs.Merges.{in_order_same, merge_with_none, merge_assoc}

-- ---- chains

abbrev pub chain : List Filter → Gives
chain fs = chain_gives (map filter_meaning fs)

pub chain_in_order : (fs : List Filter) (key : List ℕ) (cells : List Cell) → AreInOrder cells → AreInOrder (chain fs key cells).out × AreInOrder (chain fs key cells).sunk
chain_in_order [] key cells o = (o, tt)
chain_in_order (f ∷ fs) key cells o =
    let first : Given = filter_meaning f key cells in
    ((chain_in_order fs key first.out (gives_in_order f key cells o).0).0, merge_in_order first.sunk (chain fs key first.out).sunk)

abbrev with_sunk : Given → List Cell → Given
with_sunk g sunk = record { out = g.out; sunk = sunk }

pub chain_halves : (fs gs : List Filter) (key : List ℕ) (cells : List Cell) → AreInOrder cells → chain (fs ++ gs) key cells ≡ after_sunk (chain fs key cells).sunk (chain gs key (chain fs key cells).out)
chain_halves [] gs key cells o = ap (with_sunk (chain gs key cells)) (sym (in_order_same (chain gs key cells).sunk (chain_in_order gs key cells o).1))
chain_halves (f ∷ fs) gs key cells o =
    let first : Given = filter_meaning f key cells in
    let rest : Given = chain fs key first.out in
    let last : Given = chain gs key rest.out in
    ap (after_sunk first.sunk) (chain_halves fs gs key first.out (gives_in_order f key cells o).0) ∙ ap (with_sunk last) (merge_assoc first.sunk rest.sunk last.sunk)

pub chain_of_one : (f : Filter) (key : List ℕ) (cells : List Cell) → AreInOrder cells → chain (f ∷ []) key cells ≡ filter_meaning f key cells
chain_of_one f key cells o =
    let first : Given = filter_meaning f key cells in
    ap (with_sunk first) (merge_with_none first.sunk (gives_in_order f key cells o).1)

-- ---- interleaves

abbrev pub interleave : List Filter → Gives
interleave fs = interleave_gives (map filter_meaning fs)

pub interleave_in_order : (fs : List Filter) (key : List ℕ) (cells : List Cell) → AreInOrder cells →
    AreInOrder (interleave fs key cells).out × AreInOrder (interleave fs key cells).sunk
interleave_in_order [] key cells o = (tt, tt)
interleave_in_order (f ∷ fs) key cells o =
    let first : Given = filter_meaning f key cells in
    let rest : Given = interleave fs key cells in
    (merge_in_order first.out rest.out, merge_in_order first.sunk rest.sunk)

abbrev given : List Cell → List Cell → Given
given out sunk = record { out = out; sunk = sunk }

same_given : (a b c d : List Cell) → a ≡ b → c ≡ d → given a c ≡ given b d
same_given a b c d e h = ap (λ l. given l c) e ∙ ap (given b) h

pub interleave_halves : (fs gs : List Filter) (key : List ℕ) (cells : List Cell) → AreInOrder cells → interleave (fs ++ gs) key cells ≡ beside (interleave fs key cells) (interleave gs key cells)
interleave_halves [] gs key cells o =
    let all : Given = interleave gs key cells in
    let order = interleave_in_order gs key cells o in
    same_given all.out (merge [] all.out) all.sunk (merge [] all.sunk) (sym (in_order_same all.out order.0)) (sym (in_order_same all.sunk order.1))
interleave_halves (f ∷ fs) gs key cells o =
    let first : Given = filter_meaning f key cells in
    let rest : Given = interleave fs key cells in
    let last : Given = interleave gs key cells in
    ap (beside first) (interleave_halves fs gs key cells o)
    ∙ same_given (merge first.out (merge rest.out last.out)) (merge (merge first.out rest.out) last.out) (merge first.sunk (merge rest.sunk last.sunk)) (merge (merge first.sunk rest.sunk) last.sunk)
    (merge_assoc first.out rest.out last.out) (merge_assoc first.sunk rest.sunk last.sunk)

pub interleave_of_one : (f : Filter) (key : List ℕ) (cells : List Cell) → AreInOrder cells → interleave (f ∷ []) key cells ≡ filter_meaning f key cells
interleave_of_one f key cells o =
    let first : Given = filter_meaning f key cells in
    let order = gives_in_order f key cells o in
    same_given (merge first.out []) first.out (merge first.sunk []) first.sunk (merge_with_none first.out order.0) (merge_with_none first.sunk order.1)
