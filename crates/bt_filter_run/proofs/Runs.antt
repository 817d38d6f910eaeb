-- What was given, as what a filter gives.
use Rattle.std.proofs.Common.{◌≡◌, ℕ, ◌+◌, true, false, List, [], ◌∷◌, ◌++◌, map, take, drop, length, get_or, Option, option_map, Result, arith, refl, sym, ap, ◌∙◌, subst}
use Rattle.std.specs.Prelude.{Box, Vec, IfOk}
use Rattle.std.specs.Global.{Global}
use Rattle.std.specs.Vec.{with_items}
use Rattle.std.proofs.lemmas.List.{length-map, map-append}
use Rattle.std.proofs.Math.Seq.{take-append_seam}
use Rattle.bt_types.specs.declared.cell.Cell.{Cell}
use Rattle.bt_types.specs.Cells.{merge, AreInOrder}
use Rattle.bt_filter.specs.declared.filter.Filter.{Filter}
use Rattle.bt_filter.specs.declared.filter.Filter.TheVariants as filter
use Rattle.bt_filter.specs.Meaning as meant
use Rattle.bt_filter.specs.Meaning.{Gives, filter_meaning, chosen, only, predicate_out, branch_out, after_sunk, beside}
use Rattle.bt_filter.proofs.InOrder.{gives_in_order}
use Rattle.bt_filter_run.specs.declared.given.Given.{Given}
use Rattle.bt_filter_run.specs.declared.leaf.Leaf.{Leaf}
use Rattle.bt_filter_run.specs.declared.step.Step.{Step}
use Rattle.bt_filter_run.specs.declared.step.Step.TheVariants as step
use Rattle.bt_filter_run.specs.Steps.{IsGiven, filter_of, is_any, leaf_gives, part_of}
use Rattle.bt_filter_run.proofs.Folds.{filter_of_chain, filter_of_interleave, leaf_runs, chain_runs, interleave_runs, condition_runs}
use Rattle.bt_filter_run.proofs.Halves.{chain, chain_in_order, chain_halves, chain_of_one, interleave, interleave_in_order, interleave_halves, interleave_of_one}

-- where there is a result, it is what was meant
abbrev pub Gave : {E : Type 0} → Result Given E → meant.Given → Type 0
Gave r m = IfOk r (λ given. IsGiven given m)

gave : {E : Type 0} (r : Result Given E) (f g : Gives) (key : List ℕ) (cells : List Cell) → f ≡ g → Gave r (g key cells) → Gave r (f key cells)
gave r f g key cells same h = subst (λ x. Gave r (x key cells)) (sym same) h

-- the cells that were given are in order if those that were meant are
in_order : (g : Given) (m : meant.Given) → IsGiven g m → AreInOrder m.out × AreInOrder m.sunk → AreInOrder g.out × AreInOrder g.sunk
in_order g m h o = (subst AreInOrder (sym h.out) o.0, subst AreInOrder (sym h.sunk) o.1)

pub given_in_order : (g : Given) (f : Filter) (key : List ℕ) (cells : List Cell) → AreInOrder cells → IsGiven g (filter_meaning f key cells) → AreInOrder g.out × AreInOrder g.sunk
given_in_order g f key cells o h = in_order g (filter_meaning f key cells) h (gives_in_order f key cells o)

-- ---- steps of each kind

pub leaf_gave : {E : Type 0} (s : Step) (l m : Leaf) (key : List ℕ) (cells : List Cell) (r : Result Given E) → s ≡ step.Leaf l → m ≡ l → Gave r (leaf_gives m key cells) → Gave r (filter_meaning (filter_of s) key cells)
leaf_gave s l m key cells r is at h = gave r (filter_meaning (filter_of s)) (leaf_gives m) key cells (ap (λ x. filter_meaning (filter_of x)) is ∙ leaf_runs l ∙ ap leaf_gives (sym at)) h

pub chain_gave : {E : Type 0} (s : Step) (v : Vec Step Global) (steps : List Step) (key : List ℕ) (cells : List Cell) (r : Result Given E) → s ≡ step.Chain v → steps ≡ v.items →
    Gave r (chain (map filter_of steps) key cells) → Gave r (filter_meaning (filter_of s) key cells)
chain_gave s v steps key cells r is at h =
    gave r (filter_meaning (filter_of s)) (chain (map filter_of steps)) key cells (ap (λ x. filter_meaning (filter_of x)) is ∙ chain_runs v ∙ ap (λ l. chain (map filter_of l)) (sym at)) h

pub interleave_gave : {E : Type 0} (s : Step) (v : Vec Step Global) (steps : List Step) (key : List ℕ) (cells : List Cell) (r : Result Given E) → s ≡ step.Interleave v → steps ≡ v.items →
    Gave r (interleave (map filter_of steps) key cells) → Gave r (filter_meaning (filter_of s) key cells)
interleave_gave s v steps key cells r is at h =
    gave r (filter_meaning (filter_of s)) (interleave (map filter_of steps)) key cells (ap (λ x. filter_meaning (filter_of x)) is ∙ interleave_runs v ∙ ap (λ l. interleave (map filter_of l)) (sym at)) h

abbrev Part : Type 0
Part = Option (Box Step Global)

abbrev pub predicate_of : Part → List ℕ → List Cell → List Cell
predicate_of p = predicate_out (option_map filter_meaning (part_of p))

abbrev pub branch_of : Part → List ℕ → List Cell → List Cell
branch_of p = branch_out (option_map filter_meaning (part_of p))

chosen_first : (cs m u : List Cell) → is_any cs ≡ true → chosen cs m u ≡ m
chosen_first [] m u h = absurd (cc)
chosen_first (c ∷ cs) m u h = refl

chosen_second : (cs m u : List Cell) → is_any cs ≡ false → chosen cs m u ≡ u
chosen_second [] m u h = refl
chosen_second (c ∷ cs) m u h = absurd (cc)

condition_is : (s : Step) (p m u : Part) (key : List ℕ) (cells : List Cell) → s ≡ step.Condition p m u →
    filter_meaning (filter_of s) key cells ≡ only (chosen (predicate_of p key cells) (branch_of m key cells) (branch_of u key cells))
condition_is s p m u key cells is = ap (λ x. filter_meaning (filter_of x) key cells) is ∙ ap (λ (g : Gives). g key cells) (condition_runs p m u)

pub matched_gave : {E : Type 0} (s : Step) (p m u q b : Part) (key : List ℕ) (cells : List Cell) (r : Result Given E) → s ≡ step.Condition p m u → q ≡ p → b ≡ m → is_any (predicate_of q key cells) ≡ true →
    Gave r (only (branch_of b key cells)) → Gave r (filter_meaning (filter_of s) key cells)
matched_gave s p m u q b key cells r is at branch h given =
    let here : is_any (predicate_of p key cells) ≡ true = subst (λ x. is_any (predicate_of x key cells) ≡ true) at h in
    subst (Gave r) (sym (condition_is s p m u key cells is ∙ ap only (chosen_first (predicate_of p key cells) (branch_of m key cells) (branch_of u key cells) here)))
    (subst (λ x. Gave r (only (branch_of x key cells))) branch given)

pub unmatched_gave : {E : Type 0} (s : Step) (p m u q b : Part) (key : List ℕ) (cells : List Cell) (r : Result Given E) → s ≡ step.Condition p m u → q ≡ p → b ≡ u → is_any (predicate_of q key cells) ≡ false →
    Gave r (only (branch_of b key cells)) → Gave r (filter_meaning (filter_of s) key cells)
unmatched_gave s p m u q b key cells r is at branch h given =
    let here : is_any (predicate_of p key cells) ≡ false = subst (λ x. is_any (predicate_of x key cells) ≡ false) at h in
    subst (Gave r) (sym (condition_is s p m u key cells is ∙ ap only (chosen_second (predicate_of p key cells) (branch_of m key cells) (branch_of u key cells) here)))
    (subst (λ x. Gave r (only (branch_of x key cells))) branch given)

-- ---- steps that were run run the same filters

items_same : (v : Vec Step Global) (steps : List Step) → map filter_of steps ≡ map filter_of v.items → (with_items v steps).items ≡ steps
items_same v steps h =
    let long : length steps ≡ length v.items = sym (length-map steps filter_of) ∙ ap length h ∙ length-map v.items filter_of in
    ap (λ n. take n (steps ++ drop (length steps) v.items)) (v.ok.0 ∙ sym long) ∙ take-append_seam steps (drop (length steps) v.items)

pub items_kept : (v : Vec Step Global) (old steps : List Step) → old ≡ v.items → map filter_of steps ≡ map filter_of old → map filter_of (with_items v steps).items ≡ map filter_of v.items
items_kept v old steps is h = ap (map filter_of) (items_same v steps (h ∙ ap (map filter_of) is)) ∙ h ∙ ap (map filter_of) is

pub chain_same : (v w : Vec Step Global) → map filter_of w.items ≡ map filter_of v.items → filter_of (step.Chain w) ≡ filter_of (step.Chain v)
chain_same v w h = filter_of_chain w ∙ ap filter.Chain h ∙ sym (filter_of_chain v)

pub interleave_same : (v w : Vec Step Global) → map filter_of w.items ≡ map filter_of v.items → filter_of (step.Interleave w) ≡ filter_of (step.Interleave v)
interleave_same v w h = filter_of_interleave w ∙ ap filter.Interleave h ∙ sym (filter_of_interleave v)

-- ---- a chain by halves

pub chain_one : {E : Type 0} (steps : List Step) (d : Step) (key : List ℕ) (cells : List Cell) (r : Result Given E) → length steps ≡ 1 → AreInOrder cells →
    Gave r (filter_meaning (filter_of (get_or steps 0 d)) key cells) → Gave r (chain (map filter_of steps) key cells)
chain_one [] d key cells r long o h = absurd (omega (arith, long))
chain_one (s ∷ []) d key cells r long o h = subst (Gave r) (sym (chain_of_one (filter_of s) key cells o)) h
chain_one (s ∷ t ∷ ts) d key cells r long o h = absurd (omega (arith, long))

pub chain_ordered : (steps : List Step) (key : List ℕ) (cells : List Cell) (g : Given) → AreInOrder cells → IsGiven g (chain (map filter_of steps) key cells) → AreInOrder g.out × AreInOrder g.sunk
chain_ordered steps key cells g o h = in_order g (chain (map filter_of steps) key cells) h (chain_in_order (map filter_of steps) key cells o)

pub chain_joined : (steps front back : List Step) (key : List ℕ) (cells : List Cell) (before after : Given) (sunk : List Cell) → steps ≡ front ++ back → AreInOrder cells →
    IsGiven before (chain (map filter_of front) key cells) → IsGiven after (chain (map filter_of back) key before.out) → sunk ≡ merge before.sunk after.sunk →
    IsGiven (record { out = after.out; sunk = sunk }) (chain (map filter_of steps) key cells)
chain_joined steps front back key cells before after sunk is o first second at =
    let fs : List Filter = map filter_of front in
    let gs : List Filter = map filter_of back in
    let all : chain (map filter_of steps) key cells ≡ after_sunk (chain fs key cells).sunk (chain gs key (chain fs key cells).out) =
    ap (λ l. chain l key cells) (ap (map filter_of) is ∙ map-append filter_of front back) ∙ chain_halves fs gs key cells o in
    let rest : chain gs key before.out ≡ chain gs key (chain fs key cells).out = ap (chain gs key) first.out in
    record {
      out = second.out ∙ ap (λ (m : meant.Given). m.out) rest ∙ sym (ap (λ (m : meant.Given). m.out) all);
      sunk = at ∙ ap (λ l. merge l after.sunk) first.sunk ∙ ap (merge (chain fs key cells).sunk) (second.sunk ∙ ap (λ (m : meant.Given). m.sunk) rest) ∙ sym (ap (λ (m : meant.Given). m.sunk) all);
    }

-- ---- an interleave by halves

pub interleave_one : {E : Type 0} (steps : List Step) (d : Step) (key : List ℕ) (cells : List Cell) (r : Result Given E) → length steps ≡ 1 → AreInOrder cells →
    Gave r (filter_meaning (filter_of (get_or steps 0 d)) key cells) → Gave r (interleave (map filter_of steps) key cells)
interleave_one [] d key cells r long o h = absurd (omega (arith, long))
interleave_one (s ∷ []) d key cells r long o h = subst (Gave r) (sym (interleave_of_one (filter_of s) key cells o)) h
interleave_one (s ∷ t ∷ ts) d key cells r long o h = absurd (omega (arith, long))

pub interleave_ordered : (steps : List Step) (key : List ℕ) (cells : List Cell) (g : Given) → AreInOrder cells → IsGiven g (interleave (map filter_of steps) key cells) → AreInOrder g.out × AreInOrder g.sunk
interleave_ordered steps key cells g o h = in_order g (interleave (map filter_of steps) key cells) h (interleave_in_order (map filter_of steps) key cells o)

pub interleave_joined : (steps front back : List Step) (key : List ℕ) (cells copy : List Cell) (one other : Given) (out sunk : List Cell) → steps ≡ front ++ back → AreInOrder cells → copy ≡ cells →
    IsGiven one (interleave (map filter_of front) key copy) → IsGiven other (interleave (map filter_of back) key cells) → out ≡ merge one.out other.out → sunk ≡ merge one.sunk other.sunk →
    IsGiven (record { out = out; sunk = sunk }) (interleave (map filter_of steps) key cells)
interleave_joined steps front back key cells copy one other out sunk is o same first second out_is sunk_is =
    let fs : List Filter = map filter_of front in
    let gs : List Filter = map filter_of back in
    let all : interleave (map filter_of steps) key cells ≡ beside (interleave fs key cells) (interleave gs key cells) =
    ap (λ l. interleave l key cells) (ap (map filter_of) is ∙ map-append filter_of front back) ∙ interleave_halves fs gs key cells o in
    let copied : interleave fs key copy ≡ interleave fs key cells = ap (interleave fs key) same in
    record {
      out = out_is ∙ ap (λ l. merge l other.out) (first.out ∙ ap (λ (m : meant.Given). m.out) copied) ∙ ap (merge (interleave fs key cells).out) second.out ∙ sym (ap (λ (m : meant.Given). m.out) all);
      sunk = sunk_is ∙ ap (λ l. merge l other.sunk) (first.sunk ∙ ap (λ (m : meant.Given). m.sunk) copied) ∙ ap (merge (interleave fs key cells).sunk) second.sunk ∙ sym (ap (λ (m : meant.Given). m.sunk) all);
    }
