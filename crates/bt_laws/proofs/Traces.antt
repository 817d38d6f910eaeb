-- What traces of filters are, kind by kind, and that they give what the filters mean.
use Rattle.std.proofs.Common.{◌≡◌, List, [], ◌∷◌, map, Option, Some, None, option_map, refl, sym, ap, ◌∙◌, subst}
use Rattle.bt_filter.specs.declared.filter.Filter.{Filter}
use Rattle.bt_filter.specs.declared.filter.Filter.TheOpen.{Filter-F}
use Rattle.bt_filter.specs.declared.filter.Filter.TheFolds.{fold-roll-Filter, ind-Filter, map-Filter}
use Rattle.bt_filter.specs.declared.filter.Filter.TheVariants as built
use Rattle.bt_filter.specs.Meaning.{Gives, chain_gives, interleave_gives, condition_gives, node_gives, filter_meaning}
use Rattle.bt_laws.specs.Labels.{Trace, chain_inputs, interleave_inputs, condition_inputs, node_trace, trace}

abbrev pub given : Trace → Gives
given t = t.gives

-- ---- each kind

abbrev pub chain_trace : List Trace → Trace
chain_trace ts = record { gives = chain_gives (map given ts); inputs = chain_inputs ts }

abbrev pub interleave_trace : List Trace → Trace
interleave_trace ts = record { gives = interleave_gives (map given ts); inputs = interleave_inputs ts }

abbrev pub condition_trace : Option Trace → Option Trace → Option Trace → Trace
condition_trace p m u = record { gives = condition_gives (option_map given p) (option_map given m) (option_map given u); inputs = condition_inputs p m u }

pub trace_of_chain : (fs : List Filter) → trace (built.Chain fs) ≡ chain_trace (map trace fs)
trace_of_chain fs = ap trace (sym (built.rolls-Chain fs)) ∙ fold-roll-Filter Trace node_trace (Filter-F.Chain fs)

pub trace_of_interleave : (fs : List Filter) → trace (built.Interleave fs) ≡ interleave_trace (map trace fs)
trace_of_interleave fs = ap trace (sym (built.rolls-Interleave fs)) ∙ fold-roll-Filter Trace node_trace (Filter-F.Interleave fs)

condition_by : (p m u : Option Filter) → node_trace (map-Filter Filter Trace trace (Filter-F.Condition p m u)) ≡ condition_trace (option_map trace p) (option_map trace m) (option_map trace u)
condition_by None None None = refl
condition_by (Some p) None None = refl
condition_by None (Some m) None = refl
condition_by (Some p) (Some m) None = refl
condition_by None None (Some u) = refl
condition_by (Some p) None (Some u) = refl
condition_by None (Some m) (Some u) = refl
condition_by (Some p) (Some m) (Some u) = refl

pub trace_of_condition : (p m u : Option Filter) → trace (built.Condition p m u) ≡ condition_trace (option_map trace p) (option_map trace m) (option_map trace u)
trace_of_condition p m u = ap trace (sym (built.rolls-Condition p m u)) ∙ fold-roll-Filter Trace node_trace (Filter-F.Condition p m u) ∙ condition_by p m u

-- ---- what they give

abbrev Means : Filter → Type 0
Means f = (trace f).gives ≡ filter_meaning f

abbrev Shown : Type 0
Shown = (f : Filter) × Means f

abbrev shown : Shown → Filter
shown s = s.0

parts_mean : (ps : List Shown) → map given (map trace (map shown ps)) ≡ map filter_meaning (map shown ps)
parts_mean [] = refl
parts_mean (p ∷ ps) = ap (λ g. g ∷ map given (map trace (map shown ps))) p.1 ∙ ap (λ gs. filter_meaning (shown p) ∷ gs) (parts_mean ps)

part_means : (p : Option Shown) → option_map given (option_map trace (option_map shown p)) ≡ option_map filter_meaning (option_map shown p)
part_means None = refl
part_means (Some p) = ap (λ g. Some g) p.1

abbrev Alike : Filter-F Filter → Type 0
Alike x = map-Filter Trace Gives given (map-Filter Filter Trace trace x) ≡ map-Filter Filter Gives filter_meaning x

condition_alike : (p m u : Option Shown) → Filter-F.Condition (option_map given (option_map trace (option_map shown p))) (option_map given (option_map trace (option_map shown m))) (option_map given (option_map trace (option_map shown u)))
    ≡ Filter-F.Condition (option_map filter_meaning (option_map shown p)) (option_map filter_meaning (option_map shown m)) (option_map filter_meaning (option_map shown u))
condition_alike p m u = rw (part_means p, part_means m, part_means u) refl

node_alike : (y : Filter-F Shown) → Alike (map-Filter Shown Filter shown y)
node_alike Filter-F.Unset = refl
node_alike Filter-F.Pass = refl
node_alike Filter-F.Block = refl
node_alike Filter-F.Sink = refl
node_alike Filter-F.Strip = refl
node_alike (Filter-F.Chain parts) = ap (λ gs. Filter-F.Chain gs) (parts_mean parts)
node_alike (Filter-F.Interleave parts) = ap (λ gs. Filter-F.Interleave gs) (parts_mean parts)
node_alike (Filter-F.Condition None None None) = condition_alike None None None
node_alike (Filter-F.Condition (Some p) None None) = condition_alike (Some p) None None
node_alike (Filter-F.Condition None (Some m) None) = condition_alike None (Some m) None
node_alike (Filter-F.Condition (Some p) (Some m) None) = condition_alike (Some p) (Some m) None
node_alike (Filter-F.Condition None None (Some u)) = condition_alike None None (Some u)
node_alike (Filter-F.Condition (Some p) None (Some u)) = condition_alike (Some p) None (Some u)
node_alike (Filter-F.Condition None (Some m) (Some u)) = condition_alike None (Some m) (Some u)
node_alike (Filter-F.Condition (Some p) (Some m) (Some u)) = condition_alike (Some p) (Some m) (Some u)
node_alike (Filter-F.RowKey pattern) = refl
node_alike (Filter-F.Family pattern) = refl
node_alike (Filter-F.Qualifier pattern) = refl
node_alike (Filter-F.Value pattern) = refl
node_alike (Filter-F.ColumnRange family range) = refl
node_alike (Filter-F.ValueRange range) = refl
node_alike (Filter-F.Times range) = refl
node_alike (Filter-F.RowOffset n) = refl
node_alike (Filter-F.RowLimit n) = refl
node_alike (Filter-F.ColumnLimit n) = refl
node_alike (Filter-F.Label label) = refl

pub traces_mean : (f : Filter) → (trace f).gives ≡ filter_meaning f
traces_mean = ind-Filter Means (λ x y is.
    let alike : Alike x = subst Alike is (node_alike y) in
    ap given (fold-roll-Filter Trace node_trace x) ∙ ap node_gives alike ∙ sym (fold-roll-Filter Gives node_gives x))
