-- The nodes of filters in lists and of the parts of conditions.
use Rattle.std.proofs.Common.{◌≡◌, ℕ, ◌+◌, ◌<◌, ◌≤◌, Bool, true, false, List, [], ◌∷◌, ◌++◌, map, take, length, get_or, Option, cond, option_map, refl, sym, ap, ◌∙◌, arith}
use Rattle.std.specs.List.{flat_map, filter}
use Rattle.std.proofs.lemmas.List.{take_more, map-append, append-nil}
use Rattle.std.proofs.lemmas.List.Folds.{flat_map-map, length-flat_map-take}
use Rattle.std.proofs.lemmas.Grind.{flat_map-append}
use Rattle.std.proofs.lemmas.List.Elements.{filter-append}
use Rattle.std.proofs.lemmas.List.{length-append}
use Rattle.bt_filter.specs.declared.asked.AskedFilter.{AskedFilter}
use Rattle.bt_filter.specs.declared.asked.AskedFilter.TheOpen.{AskedFilter-F}
use Rattle.bt_filter.specs.declared.asked.AskedFilter.TheVariants.{Condition}
use Rattle.bt_filter.specs.declared.filter.Filter.{Filter}
use Rattle.bt_filter.specs.declared.filter.Filter.TheVariants as built
use Rattle.bt_filter.specs.Building.{filter_of, node_filter}
use Rattle.bt_filter.specs.Flaws.{Check, Checks, checks_of, node_checks, nodes_of_all, nodes_of_part, label_count}
use Rattle.bt_filter.proofs.Folds.{fold_condition}

-- one filter more

more : {A : Type 0} (f : AskedFilter → A) (fs : List AskedFilter) (i : ℕ) (g : AskedFilter) → i < length fs → g ≡ get_or fs i g → map f (take (i + 1) fs) ≡ map f (take i fs) ++ f g ∷ []
more f fs i g below is =
    ap (map f) (take_more fs i g below) ∙ map-append f (take i fs) (get_or fs i g ∷ []) ∙ ap (λ h. map f (take i fs) ++ f h ∷ []) (sym is)

pub filters_more : (fs : List AskedFilter) (i : ℕ) (g : AskedFilter) → i < length fs → g ≡ get_or fs i g → map filter_of (take (i + 1) fs) ≡ map filter_of (take i fs) ++ filter_of g ∷ []
filters_more = more filter_of

pub nodes_more : (fs : List AskedFilter) (i : ℕ) (g : AskedFilter) (below : Bool) → i < length fs → g ≡ get_or fs i g →
    nodes_of_all (map checks_of (take (i + 1) fs)) below ≡ nodes_of_all (map checks_of (take i fs)) below ++ (checks_of g).nodes below
nodes_more fs i g below lt is =
    ap (λ cs. nodes_of_all cs below) (more checks_of fs i g lt is) ∙ flat_map-append (λ (c : Checks). c.nodes below) (map checks_of (take i fs)) (checks_of g ∷ [])
    ∙ ap (λ ns. nodes_of_all (map checks_of (take i fs)) below ++ ns) (append-nil ((checks_of g).nodes below))

one_label : (c : Checks) (b : Bool) → c.has_label ≡ b → length (filter (λ (d : Checks). d.has_label) (c ∷ [])) ≡ cond b 1 0
one_label c true h = rw h refl
one_label c false h = rw h refl

pub labels_more : (fs : List AskedFilter) (i : ℕ) (g : AskedFilter) → i < length fs → g ≡ get_or fs i g →
    label_count (map checks_of (take (i + 1) fs)) ≡ label_count (map checks_of (take i fs)) + cond (checks_of g).has_label 1 0
labels_more fs i g lt is =
    let split : label_count (map checks_of (take (i + 1) fs)) ≡ length (filter (λ (d : Checks). d.has_label) (map checks_of (take i fs)) ++ filter (λ (d : Checks). d.has_label) (checks_of g ∷ []))
    = ap label_count (more checks_of fs i g lt is) ∙ ap length (filter-append (λ (d : Checks). d.has_label) (map checks_of (take i fs)) (checks_of g ∷ [])) in
    split ∙ length-append _ _ ∙ ap (λ n. label_count (map checks_of (take i fs)) + n) (one_label (checks_of g) (checks_of g).has_label refl)

-- a flag counts as 1
pub labels_so_far : (n k m : ℕ) (b has : Bool) (total : ℕ) → n ≡ m → k ≡ cond b 1 0 → b ≡ has → total ≡ m + cond has 1 0 → n + k ≡ total
labels_so_far n k m b has total e f g h = rw (e, f, g, h) refl

-- its nodes are among those of all
pub room : (fs : List AskedFilter) (i : ℕ) (g : AskedFilter) (below : Bool) → i < length fs → g ≡ get_or fs i g →
    length (nodes_of_all (map checks_of (take i fs)) below) + length ((checks_of g).nodes below) ≤ length (nodes_of_all (map checks_of fs) below)
room fs i g below lt is =
    let f : AskedFilter → List Check = λ h. (checks_of h).nodes below in
    let taken : nodes_of_all (map checks_of (take i fs)) below ≡ flat_map f (take i fs) = flat_map-map (λ (c : Checks). c.nodes below) checks_of (take i fs) in
    let all : nodes_of_all (map checks_of fs) below ≡ flat_map f fs = flat_map-map (λ (c : Checks). c.nodes below) checks_of fs in
    let h : length (flat_map f (take i fs)) + length (f (get_or fs i g)) ≤ length (flat_map f fs) = length-flat_map-take f fs i g lt in
    let here : f (get_or fs i g) ≡ f g = ap f (sym is) in
    rw (taken, all, ← here) h

-- ---- the parts of a condition

abbrev pub the_checks : Option AskedFilter → Option AskedFilter → Option AskedFilter → Checks
the_checks p m u = node_checks (AskedFilter-F.Condition (option_map checks_of p) (option_map checks_of m) (option_map checks_of u))

pub checks_of_condition : (f : AskedFilter) (p m u : Option AskedFilter) → f ≡ Condition p m u → checks_of f ≡ the_checks p m u
checks_of_condition f p m u is = ap checks_of is ∙ fold_condition Checks node_checks p m u

pub filter_of_condition : (f : AskedFilter) (p m u : Option AskedFilter) → f ≡ Condition p m u → filter_of f ≡ built.Condition (option_map filter_of p) (option_map filter_of m) (option_map filter_of u)
filter_of_condition f p m u is = ap filter_of is ∙ fold_condition Filter node_filter p m u

pub length_of_condition : (f : AskedFilter) (p m u : Option AskedFilter) (below : Bool) → f ≡ Condition p m u →
    length ((checks_of f).nodes below) ≡ 1 + (length (nodes_of_part (option_map checks_of p)) + length (nodes_of_part (option_map checks_of m)) + length (nodes_of_part (option_map checks_of u)))
length_of_condition f p m u below is =
    let a : List Check = nodes_of_part (option_map checks_of p) in
    let b : List Check = nodes_of_part (option_map checks_of m) in
    let c : List Check = nodes_of_part (option_map checks_of u) in
    ap (λ (x : Checks). length (x.nodes below)) (checks_of_condition f p m u is) ∙ omega (arith, length-append (a ++ b) c, length-append a b)
