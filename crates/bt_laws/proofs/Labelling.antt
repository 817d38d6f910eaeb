-- What valid filters keep of cells, and what their label parts are given.
use Rattle.std.proofs.Common.{◌≡◌, ℕ, ◌≤◌, suc, Bool, true, false, true≢false, List, [], ◌∷◌, ◌++◌, map, length, Option, Some, None, option_map, arith, refl, sym, ap, ◌∙◌, subst, cond, nat_lt}
use Rattle.std.specs.Prelude.{◌||◌, IfSome, bytes_eq, ◌&&◌}
use Rattle.std.specs.List.{AllByRecursion, filter}
use Rattle.std.proofs.lemmas.Bool.{ltb-false, or_parts}
use Rattle.std.proofs.lemmas.List.Elements.{All-from_recursion, recursion_from_All}
use Rattle.bt_types.specs.declared.cell.Cell.{Cell}
use Rattle.bt_types.specs.Cells.{AreUnlabelled}
use Rattle.bt_types.specs.Grammar.{is_label}
use Rattle.bt_range.specs.declared.time_range.TimeRange.{TimeRange}
use Rattle.bt_range.specs.Bounds.{is_in_bytes, is_in_time}
use Rattle.bt_pattern.specs.Patterns.{matches}
use Rattle.bt_filter.specs.declared.asked.AskedFilter.{AskedFilter}
use Rattle.bt_filter.specs.declared.asked.AskedFilter.TheOpen.{AskedFilter-F}
use Rattle.bt_filter.specs.declared.asked.AskedFilter.TheFolds.{fold-roll-AskedFilter, ind-AskedFilter, map-AskedFilter}
use Rattle.bt_filter.specs.declared.filter.Filter.{Filter}
use Rattle.bt_filter.specs.declared.filter.Filter.TheOpen.{Filter-F}
use Rattle.bt_filter.specs.declared.filter.Filter.TheFolds.{fold-roll-Filter, map-Filter}
use Rattle.bt_filter.specs.declared.filter.Filter.TheViews.{roll-Filter}
use Rattle.bt_filter.specs.declared.filter.Filter.TheVariants as built
use Rattle.bt_filter.specs.declared.refusal.Why.TheVariants as cause
use Rattle.bt_filter.specs.Building.{filter_of, node_filter, number_of}
use Rattle.bt_filter.specs.Flaws.{Check, Fine, Wrong, Checks, IsFine, checks_of, node_checks, nodes_of_all, nodes_of_part, label_count, part_has_label}
use Rattle.bt_filter.specs.Meaning.{Gives, without_value, with_label, node_gives}
use Rattle.bt_chunks.specs.Joining.{IsLawfulCell}
use Rattle.bt_laws.specs.Labels.{Trace, chain_inputs, interleave_inputs, part_inputs, node_inputs, node_trace, trace, label_inputs, LabelsOnce}
use Rattle.bt_laws.proofs.Kept.{AllCells, Keeps, all_both, all_apart, all_filter, all_take, all_drop, all_map, all_if, all_columns, chain_keeps, interleave_keeps, condition_keeps}
use Rattle.bt_laws.proofs.Traces.{given, chain_trace, interleave_trace, condition_trace, trace_of_chain, trace_of_interleave, trace_of_condition}

abbrev pub IsUnlabelled : Cell → Type 0
IsUnlabelled c = c.label ≡ None

-- what is known of a filter with these checks and this trace
pub record IsSound (c : Checks) (t : Trace) : Type 0 where
  -- a valid one leaves lawful cells lawful
  pub lawful : (below : Bool) → AllByRecursion IsFine (c.nodes below) → Keeps IsLawfulCell t.gives
  -- one without a label puts none on a cell
  pub unlabelled : c.has_label ≡ false → Keeps IsUnlabelled t.gives
  pub none : c.has_label ≡ false → (key : List ℕ) (cells : List Cell) → t.inputs key cells ≡ []
  -- the label parts of a valid one are given cells without labels
  pub once : (below : Bool) → AllByRecursion IsFine (c.nodes below) → (key : List ℕ) (cells : List Cell) → AllCells IsUnlabelled cells → AllByRecursion (AllCells IsUnlabelled) (t.inputs key cells)

abbrev Shown : Type 0
Shown = (f : AskedFilter) × IsSound (checks_of f) (trace (filter_of f))

abbrev shown : Shown → AskedFilter
shown s = s.0

-- ---- the parts of chains and interleaves

abbrev checks : List Shown → List Checks
checks ps = map checks_of (map shown ps)

abbrev traces : List Shown → List Trace
traces ps = map trace (map filter_of (map shown ps))

abbrev label_of : Checks → Bool
label_of c = c.has_label

counts : (c : Checks) (cs : List Checks) → c.has_label ≡ true → label_count (c ∷ cs) ≡ suc (label_count cs)
counts c cs h = ap (λ t. length (cond t (c ∷ filter label_of cs) (filter label_of cs))) h

passes_over : (c : Checks) (cs : List Checks) → c.has_label ≡ false → label_count (c ∷ cs) ≡ label_count cs
passes_over c cs h = ap (λ t. length (cond t (c ∷ filter label_of cs) (filter label_of cs))) h

none_of : (c : Checks) (cs : List Checks) (b : Bool) → c.has_label ≡ b → label_count (c ∷ cs) ≡ 0 → (b ≡ false) × (label_count cs ≡ 0)
none_of c cs true h e = let count = counts c cs h in absurd (omega (arith, count, e))
none_of c cs false h e = (refl, sym (passes_over c cs h) ∙ e)

-- none of them has a label
no_label : (n : ℕ) → nat_lt 0 n ≡ false → n ≡ 0
no_label n h = omega (arith, ltb-false 0 n h)

-- at most one has
few_labels : (b : Bool) (n : ℕ) → nat_lt 1 n ≡ b → IsFine (cond b (Wrong cause.TwoLabels) Fine) → n ≤ 1
few_labels true n e h = absurd h
few_labels false n e h = ltb-false 1 n e

all_lawful : (ps : List Shown) (below : Bool) → AllByRecursion IsFine (nodes_of_all (checks ps) below) → AllByRecursion (Keeps IsLawfulCell) (map given (traces ps))
all_lawful [] below fine = tt
all_lawful (p ∷ ps) below fine =
    let apart = all_apart IsFine ((checks_of (shown p)).nodes below) (nodes_of_all (checks ps) below) fine in
    (p.1.lawful below apart.0, all_lawful ps below apart.1)

all_unlabelled : (ps : List Shown) → label_count (checks ps) ≡ 0 → AllByRecursion (Keeps IsUnlabelled) (map given (traces ps))
all_unlabelled [] h = tt
all_unlabelled (p ∷ ps) h =
    let none = none_of (checks_of (shown p)) (checks ps) (checks_of (shown p)).has_label refl h in
    (p.1.unlabelled none.0, all_unlabelled ps none.1)

chain_none : (ps : List Shown) → label_count (checks ps) ≡ 0 → (key : List ℕ) (cells : List Cell) → chain_inputs (traces ps) key cells ≡ []
chain_none [] h key cells = refl
chain_none (p ∷ ps) h key cells =
    let none = none_of (checks_of (shown p)) (checks ps) (checks_of (shown p)).has_label refl h in
    let first : Trace = trace (filter_of (shown p)) in
    ap (λ l. l ++ chain_inputs (traces ps) key (first.gives key cells).out) (p.1.none none.0 key cells) ∙ chain_none ps none.1 key (first.gives key cells).out

interleave_none : (ps : List Shown) → label_count (checks ps) ≡ 0 → (key : List ℕ) (cells : List Cell) → interleave_inputs (traces ps) key cells ≡ []
interleave_none [] h key cells = refl
interleave_none (p ∷ ps) h key cells =
    let none = none_of (checks_of (shown p)) (checks ps) (checks_of (shown p)).has_label refl h in
    ap (λ l. l ++ interleave_inputs (traces ps) key cells) (p.1.none none.0 key cells) ∙ interleave_none ps none.1 key cells

-- each label part is given cells without labels
abbrev AreOnce : List (List Cell) → Type 0
AreOnce inputs = AllByRecursion (AllCells IsUnlabelled) inputs

behind_once : (p : Shown) (ps : List Shown) (b : Bool) → (checks_of (shown p)).has_label ≡ b → label_count (checks (p ∷ ps)) ≤ 1 → (key : List ℕ) (cells : List Cell) →
    (b ≡ false → AllCells IsUnlabelled cells) → (label_count (checks ps) ≤ 1 → AllCells IsUnlabelled cells → AreOnce (chain_inputs (traces ps) key cells)) → AreOnce (chain_inputs (traces ps) key cells)
behind_once p ps true has few key cells un again =
    let count = counts (checks_of (shown p)) (checks ps) has in
    subst AreOnce (sym (chain_none ps (omega (arith, count, few)) key cells)) tt
behind_once p ps false has few key cells un again =
    let count = passes_over (checks_of (shown p)) (checks ps) has in
    again (omega (arith, count, few)) (un refl)

chain_once : (ps : List Shown) (below : Bool) → label_count (checks ps) ≤ 1 → AllByRecursion IsFine (nodes_of_all (checks ps) below) → (key : List ℕ) (cells : List Cell) → AllCells IsUnlabelled cells →
    AreOnce (chain_inputs (traces ps) key cells)
chain_once [] below few fine key cells un = tt
chain_once (p ∷ ps) below few fine key cells un =
    let apart = all_apart IsFine ((checks_of (shown p)).nodes below) (nodes_of_all (checks ps) below) fine in
    let first : Trace = trace (filter_of (shown p)) in
    let out : List Cell = (first.gives key cells).out in
    all_both (AllCells IsUnlabelled) (first.inputs key cells) (chain_inputs (traces ps) key out) (p.1.once below apart.0 key cells un)
    (behind_once p ps (checks_of (shown p)).has_label refl few key out (λ has. (p.1.unlabelled has key cells un).0) (λ few_left un_left. chain_once ps below few_left apart.1 key out un_left))

interleave_once : (ps : List Shown) (below : Bool) → AllByRecursion IsFine (nodes_of_all (checks ps) below) → (key : List ℕ) (cells : List Cell) → AllCells IsUnlabelled cells → AreOnce (interleave_inputs (traces ps) key cells)
interleave_once [] below fine key cells un = tt
interleave_once (p ∷ ps) below fine key cells un =
    let apart = all_apart IsFine ((checks_of (shown p)).nodes below) (nodes_of_all (checks ps) below) fine in
    all_both (AllCells IsUnlabelled) ((trace (filter_of (shown p))).inputs key cells) (interleave_inputs (traces ps) key cells) (p.1.once below apart.0 key cells un) (interleave_once ps below apart.1 key cells un)

chain_sound : (ps : List Shown) → IsSound (node_checks (AskedFilter-F.Chain (checks ps))) (trace (built.Chain (map filter_of (map shown ps))))
chain_sound ps =
    let n : ℕ = label_count (checks ps) in
    let sound : IsSound (node_checks (AskedFilter-F.Chain (checks ps))) (chain_trace (traces ps)) = record {
      lawful = λ below fine. chain_keeps IsLawfulCell (map given (traces ps)) (all_lawful ps below fine.1);
      unlabelled = λ h. chain_keeps IsUnlabelled (map given (traces ps)) (all_unlabelled ps (no_label n h));
      none = λ h. chain_none ps (no_label n h);
      once = λ below fine. chain_once ps below (few_labels (nat_lt 1 n) n refl fine.0) fine.1;
    } in
    subst (IsSound (node_checks (AskedFilter-F.Chain (checks ps)))) (sym (trace_of_chain (map filter_of (map shown ps)))) sound

interleave_sound : (ps : List Shown) → IsSound (node_checks (AskedFilter-F.Interleave (checks ps))) (trace (built.Interleave (map filter_of (map shown ps))))
interleave_sound ps =
    let n : ℕ = label_count (checks ps) in
    let sound : IsSound (node_checks (AskedFilter-F.Interleave (checks ps))) (interleave_trace (traces ps)) = record {
      lawful = λ below fine. interleave_keeps IsLawfulCell (map given (traces ps)) (all_lawful ps below fine.1);
      unlabelled = λ h. interleave_keeps IsUnlabelled (map given (traces ps)) (all_unlabelled ps (no_label n h));
      none = λ h. interleave_none ps (no_label n h);
      once = λ below fine. interleave_once ps below fine.1;
    } in
    subst (IsSound (node_checks (AskedFilter-F.Interleave (checks ps)))) (sym (trace_of_interleave (map filter_of (map shown ps)))) sound

-- ---- the parts of conditions

abbrev part_checks : Option Shown → Option Checks
part_checks p = option_map checks_of (option_map shown p)

abbrev part_trace : Option Shown → Option Trace
part_trace p = option_map trace (option_map filter_of (option_map shown p))

part_lawful : (p : Option Shown) → AllByRecursion IsFine (nodes_of_part (part_checks p)) → IfSome (option_map given (part_trace p)) (Keeps IsLawfulCell)
part_lawful None fine = tt
part_lawful (Some p) fine = p.1.lawful true fine

part_unlabelled : (p : Option Shown) → part_has_label (part_checks p) ≡ false → IfSome (option_map given (part_trace p)) (Keeps IsUnlabelled)
part_unlabelled None h = tt
part_unlabelled (Some p) h = p.1.unlabelled h

part_none : (p : Option Shown) → part_has_label (part_checks p) ≡ false → (key : List ℕ) (cells : List Cell) → part_inputs (part_trace p) key cells ≡ []
part_none None h key cells = refl
part_none (Some p) h key cells = p.1.none h key cells

part_once : (p : Option Shown) → AllByRecursion IsFine (nodes_of_part (part_checks p)) → (key : List ℕ) (cells : List Cell) → AllCells IsUnlabelled cells → AreOnce (part_inputs (part_trace p) key cells)
part_once None fine key cells un = tt
part_once (Some p) fine key cells un = p.1.once true fine key cells un

no_inputs : (a b c : List (List Cell)) → a ≡ [] → b ≡ [] → c ≡ [] → a ++ b ++ c ≡ []
no_inputs a b c e f g = rw (e, f, g) refl

condition_sound : (p m u : Option Shown) → IsSound (node_checks (AskedFilter-F.Condition (part_checks p) (part_checks m) (part_checks u)))
    (trace (built.Condition (option_map filter_of (option_map shown p)) (option_map filter_of (option_map shown m)) (option_map filter_of (option_map shown u))))
condition_sound p m u =
    let c : Checks = node_checks (AskedFilter-F.Condition (part_checks p) (part_checks m) (part_checks u)) in
    let a : List Check = nodes_of_part (part_checks p) in
    let b : List Check = nodes_of_part (part_checks m) in
    let d : List Check = nodes_of_part (part_checks u) in
    let has_none : c.has_label ≡ false → ((part_has_label (part_checks p) || part_has_label (part_checks m)) ≡ false) × (part_has_label (part_checks u) ≡ false) = or_parts (part_has_label (part_checks p) || part_has_label (part_checks m)) (part_has_label (part_checks u)) in
    let fine_parts : AllByRecursion IsFine (a ++ b ++ d) → AllByRecursion IsFine (a ++ b) × AllByRecursion IsFine d = all_apart IsFine (a ++ b) d in
    let sound : IsSound c (condition_trace (part_trace p) (part_trace m) (part_trace u)) = record {
      lawful = λ below fine.
          condition_keeps IsLawfulCell (option_map given (part_trace p)) (option_map given (part_trace m)) (option_map given (part_trace u))
          (part_lawful m (all_apart IsFine a b (fine_parts fine.1).0).1) (part_lawful u (fine_parts fine.1).1);
      unlabelled = λ h.
          condition_keeps IsUnlabelled (option_map given (part_trace p)) (option_map given (part_trace m)) (option_map given (part_trace u))
          (part_unlabelled m (or_parts (part_has_label (part_checks p)) (part_has_label (part_checks m)) (has_none h).0).1) (part_unlabelled u (has_none h).1);
      none = λ h key cells.
          let first = or_parts (part_has_label (part_checks p)) (part_has_label (part_checks m)) (has_none h).0 in
          no_inputs (part_inputs (part_trace p) key cells) (part_inputs (part_trace m) key cells) (part_inputs (part_trace u) key cells)
          (part_none p first.0 key cells) (part_none m first.1 key cells) (part_none u (has_none h).1 key cells);
      once = λ below fine key cells un.
          let first = all_apart IsFine a b (fine_parts fine.1).0 in
          all_both (AllCells IsUnlabelled) (part_inputs (part_trace p) key cells ++ part_inputs (part_trace m) key cells) (part_inputs (part_trace u) key cells)
          (all_both (AllCells IsUnlabelled) (part_inputs (part_trace p) key cells) (part_inputs (part_trace m) key cells) (part_once p first.0 key cells un) (part_once m first.1 key cells un))
          (part_once u (fine_parts fine.1).1 key cells un);
    } in
    subst (IsSound c) (sym (trace_of_condition (option_map filter_of (option_map shown p)) (option_map filter_of (option_map shown m)) (option_map filter_of (option_map shown u)))) sound

-- ---- filters without parts

-- it leaves lawful cells lawful and puts no label on a cell
abbrev KeepsBoth : Gives → Type 0
KeepsBoth g = Keeps IsLawfulCell g × Keeps IsUnlabelled g

leaf_sound : (c : Checks) (x : Filter-F Filter) (f : Filter) → roll-Filter x ≡ f → node_inputs (map-Filter Filter Trace trace x) ≡ (λ key cells. []) →
    KeepsBoth (node_trace (map-Filter Filter Trace trace x)).gives → IsSound c (trace f)
leaf_sound c x f is leaf keeps =
    let here : (key : List ℕ) (cells : List Cell) → node_inputs (map-Filter Filter Trace trace x) key cells ≡ [] = λ key cells. ap (λ inputs. inputs key cells) leaf in
    let sound : IsSound c (node_trace (map-Filter Filter Trace trace x)) = record {
      lawful = λ below fine. keeps.0;
      unlabelled = λ h. keeps.1;
      none = λ h. here;
      once = λ below fine key cells un. subst AreOnce (sym (here key cells)) tt;
    } in
    subst (IsSound c) (sym (ap trace (sym is) ∙ fold-roll-Filter Trace node_trace x)) sound

pass_keeps : KeepsBoth (node_gives Filter-F.Pass)
pass_keeps = (λ key cells all. (all, tt), λ key cells all. (all, tt))

block_keeps : KeepsBoth (node_gives Filter-F.Block)
block_keeps = (λ key cells all. (tt, tt), λ key cells all. (tt, tt))

sink_keeps : KeepsBoth (node_gives Filter-F.Sink)
sink_keeps = (λ key cells all. (tt, all), λ key cells all. (tt, all))

lawful_stripped : (c : Cell) → IsLawfulCell c → IsLawfulCell (without_value c)
lawful_stripped c h = record { family = h.family; qualifier = h.qualifier; at = h.at; label = h.label }

strip_keeps : KeepsBoth (node_gives Filter-F.Strip)
strip_keeps = (λ key cells all. (all_map IsLawfulCell IsLawfulCell without_value lawful_stripped cells all, tt), λ key cells all. (all_map IsUnlabelled IsUnlabelled without_value (λ c h. h) cells all, tt))

row_keeps : (p : List ℕ) → KeepsBoth (node_gives (Filter-F.RowKey p))
row_keeps p = (λ key cells all. (all_if IsLawfulCell (matches p key) cells all, tt), λ key cells all. (all_if IsUnlabelled (matches p key) cells all, tt))

filter_keeps : (p : Cell → Bool) → KeepsBoth (λ key cells. record { out = filter p cells; sunk = [] })
filter_keeps p = (λ key cells all. (all_filter IsLawfulCell p cells all, tt), λ key cells all. (all_filter IsUnlabelled p cells all, tt))

offset_keeps : (n : ℕ) → KeepsBoth (node_gives (Filter-F.RowOffset n))
offset_keeps n = (λ key cells all. (all_drop IsLawfulCell n cells all, tt), λ key cells all. (all_drop IsUnlabelled n cells all, tt))

limit_keeps : (n : ℕ) → KeepsBoth (node_gives (Filter-F.RowLimit n))
limit_keeps n = (λ key cells all. (all_take IsLawfulCell n cells all, tt), λ key cells all. (all_take IsUnlabelled n cells all, tt))

columns_keeps : (n : ℕ) → KeepsBoth (node_gives (Filter-F.ColumnLimit n))
columns_keeps n = (λ key cells all. (all_columns IsLawfulCell n [] cells all, tt), λ key cells all. (all_columns IsUnlabelled n [] cells all, tt))

-- ---- labels

lawful_label : (label : List ℕ) (b : Bool) → is_label label ≡ b → IsFine (cond b Fine (Wrong cause.BadLabel)) → is_label label ≡ true
lawful_label label true e h = e
lawful_label label false e h = absurd h

lawful_labelled : (label : List ℕ) → is_label label ≡ true → (c : Cell) → IsLawfulCell c → IsLawfulCell (with_label label c)
lawful_labelled label is c h = record { family = h.family; qualifier = h.qualifier; at = h.at; label = is }

abbrev label_trace : List ℕ → Trace
label_trace label = record { gives = node_gives (Filter-F.Label label); inputs = λ key cells. cells ∷ [] }

label_sound : (label : List ℕ) → IsSound (node_checks (AskedFilter-F.Label label)) (trace (built.Label label))
label_sound label =
    let is : trace (built.Label label) ≡ label_trace label = ap trace (sym (built.rolls-Label label)) ∙ fold-roll-Filter Trace node_trace (Filter-F.Label label) in
    let sound : IsSound (node_checks (AskedFilter-F.Label label)) (label_trace label) = record {
      lawful = λ below fine key cells all.
          (all_map IsLawfulCell IsLawfulCell (with_label label) (lawful_labelled label (lawful_label label (is_label label) refl fine.0)) cells all, tt);
      unlabelled = λ h. absurd (true≢false h);
      none = λ h. absurd (true≢false h);
      once = λ below fine key cells un. (un, tt);
    } in
    subst (IsSound (node_checks (AskedFilter-F.Label label))) (sym is) sound

-- ---- all filters

abbrev IsSoundNode : AskedFilter-F AskedFilter → Type 0
IsSoundNode x = IsSound (node_checks (map-AskedFilter AskedFilter Checks checks_of x)) (trace (node_filter (map-AskedFilter AskedFilter Filter filter_of x)))

node_sound : (y : AskedFilter-F Shown) → IsSoundNode (map-AskedFilter Shown AskedFilter shown y)
node_sound AskedFilter-F.Unset = leaf_sound _ Filter-F.Unset _ built.rolls-Unset refl pass_keeps
node_sound (AskedFilter-F.Pass flag) = leaf_sound _ Filter-F.Pass _ built.rolls-Pass refl pass_keeps
node_sound (AskedFilter-F.Block flag) = leaf_sound _ Filter-F.Block _ built.rolls-Block refl block_keeps
node_sound (AskedFilter-F.Sink flag) = leaf_sound _ Filter-F.Sink _ built.rolls-Sink refl sink_keeps
node_sound (AskedFilter-F.Strip flag) = leaf_sound _ Filter-F.Strip _ built.rolls-Strip refl strip_keeps
node_sound (AskedFilter-F.Chain parts) = chain_sound parts
node_sound (AskedFilter-F.Interleave parts) = interleave_sound parts
node_sound (AskedFilter-F.Condition None None None) = condition_sound None None None
node_sound (AskedFilter-F.Condition (Some p) None None) = condition_sound (Some p) None None
node_sound (AskedFilter-F.Condition None (Some m) None) = condition_sound None (Some m) None
node_sound (AskedFilter-F.Condition (Some p) (Some m) None) = condition_sound (Some p) (Some m) None
node_sound (AskedFilter-F.Condition None None (Some u)) = condition_sound None None (Some u)
node_sound (AskedFilter-F.Condition (Some p) None (Some u)) = condition_sound (Some p) None (Some u)
node_sound (AskedFilter-F.Condition None (Some m) (Some u)) = condition_sound None (Some m) (Some u)
node_sound (AskedFilter-F.Condition (Some p) (Some m) (Some u)) = condition_sound (Some p) (Some m) (Some u)
node_sound (AskedFilter-F.RowKey text) = leaf_sound _ (Filter-F.RowKey text) _ (built.rolls-RowKey text) refl (row_keeps text)
node_sound (AskedFilter-F.Family text) = leaf_sound _ (Filter-F.Family text) _ (built.rolls-Family text) refl (filter_keeps (λ c. matches text c.family))
node_sound (AskedFilter-F.Qualifier text) = leaf_sound _ (Filter-F.Qualifier text) _ (built.rolls-Qualifier text) refl (filter_keeps (λ c. matches text c.qualifier))
node_sound (AskedFilter-F.Value text) = leaf_sound _ (Filter-F.Value text) _ (built.rolls-Value text) refl (filter_keeps (λ c. matches text c.value))
node_sound (AskedFilter-F.ColumnRange family range) = leaf_sound _ (Filter-F.ColumnRange family range) _ (built.rolls-ColumnRange family range) refl (filter_keeps (λ c. bytes_eq c.family family && is_in_bytes range c.qualifier))
node_sound (AskedFilter-F.ValueRange range) = leaf_sound _ (Filter-F.ValueRange range) _ (built.rolls-ValueRange range) refl (filter_keeps (λ c. is_in_bytes range c.value))
node_sound (AskedFilter-F.Times start end) =
    let range : TimeRange = record { start = number_of start; end = number_of end } in
    leaf_sound _ (Filter-F.Times range) _ (built.rolls-Times range) refl (filter_keeps (λ c. is_in_time range c.at))
node_sound (AskedFilter-F.RowOffset count) = leaf_sound _ (Filter-F.RowOffset (number_of count)) _ (built.rolls-RowOffset (number_of count)) refl (offset_keeps (number_of count))
node_sound (AskedFilter-F.RowLimit count) = leaf_sound _ (Filter-F.RowLimit (number_of count)) _ (built.rolls-RowLimit (number_of count)) refl (limit_keeps (number_of count))
node_sound (AskedFilter-F.ColumnLimit count) = leaf_sound _ (Filter-F.ColumnLimit (number_of count)) _ (built.rolls-ColumnLimit (number_of count)) refl (columns_keeps (number_of count))
node_sound (AskedFilter-F.Label label) = label_sound label

moved : (c d : Checks) (f g : Filter) → c ≡ d → f ≡ g → IsSound d (trace g) → IsSound c (trace f)
moved c d f g e h s = subst (λ x. IsSound x (trace f)) (sym e) (subst (λ x. IsSound d (trace x)) (sym h) s)

abbrev IsSoundFilter : AskedFilter → Type 0
IsSoundFilter f = IsSound (checks_of f) (trace (filter_of f))

pub sound : (f : AskedFilter) → IsSoundFilter f
sound = ind-AskedFilter IsSoundFilter (λ x y is.
    let node : IsSoundNode x = subst IsSoundNode is (node_sound y) in
    moved _ _ _ _ (fold-roll-AskedFilter Checks node_checks x) (fold-roll-AskedFilter Filter node_filter x) node)

-- ---- the law

inputs_unlabelled : (inputs : List (List Cell)) → AllByRecursion (AllCells IsUnlabelled) inputs → AllByRecursion AreUnlabelled inputs
inputs_unlabelled [] all = tt
inputs_unlabelled (cs ∷ inputs) all = (All-from_recursion IsUnlabelled cs all.0, inputs_unlabelled inputs all.1)

pub labels_once : LabelsOnce
labels_once f key cells valid un =
    inputs_unlabelled (label_inputs (filter_of f) key cells) ((sound f).once false valid.nodes key cells (recursion_from_All IsUnlabelled cells un))
