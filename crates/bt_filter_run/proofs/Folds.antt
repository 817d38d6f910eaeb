-- What steps of each kind run and give.
use Rattle.std.proofs.Common.{◌≡◌, map, Option, Some, None, option_map, refl, sym, ap, ◌∙◌}
use Rattle.std.specs.Prelude.{Box, Vec}
use Rattle.std.specs.Global.{Global}
use Rattle.bt_filter.specs.declared.filter.Filter.{Filter}
use Rattle.bt_filter.specs.declared.filter.Filter.TheOpen.{Filter-F}
use Rattle.bt_filter.specs.declared.filter.Filter.TheFolds.{fold-roll-Filter, map-Filter}
use Rattle.bt_filter.specs.declared.filter.Filter.TheVariants as filter
use Rattle.bt_filter.specs.Meaning.{Gives, node_gives, filter_meaning, condition_gives, chain_gives, interleave_gives}
use Rattle.bt_filter_run.specs.declared.cell_test.CellTest.TheVariants as test
use Rattle.bt_filter_run.specs.declared.leaf.Leaf.{Leaf}
use Rattle.bt_filter_run.specs.declared.leaf.Leaf.TheVariants as leaf
use Rattle.bt_filter_run.specs.declared.step.Step.{Step}
use Rattle.bt_filter_run.specs.declared.step.Step.TheOpen.{Step-F}
use Rattle.bt_filter_run.specs.declared.step.Step.TheFolds.{fold-roll-Step, map-Step}
use Rattle.bt_filter_run.specs.declared.step.Step.TheVariants as step
use Rattle.bt_filter_run.specs.Steps.{leaf_filter, leaf_gives, filter_of, part_of, step_filter}

-- ---- what filters give

leaf_meaning : (l : Leaf) → filter_meaning (leaf_filter l) ≡ leaf_gives l
leaf_meaning leaf.Unset = ap filter_meaning (sym filter.rolls-Unset) ∙ fold-roll-Filter Gives node_gives Filter-F.Unset
leaf_meaning leaf.Pass = ap filter_meaning (sym filter.rolls-Pass) ∙ fold-roll-Filter Gives node_gives Filter-F.Pass
leaf_meaning leaf.Block = ap filter_meaning (sym filter.rolls-Block) ∙ fold-roll-Filter Gives node_gives Filter-F.Block
leaf_meaning leaf.Sink = ap filter_meaning (sym filter.rolls-Sink) ∙ fold-roll-Filter Gives node_gives Filter-F.Sink
leaf_meaning leaf.Strip = ap filter_meaning (sym filter.rolls-Strip) ∙ fold-roll-Filter Gives node_gives Filter-F.Strip
leaf_meaning (leaf.RowKey p) = ap filter_meaning (sym (filter.rolls-RowKey p)) ∙ fold-roll-Filter Gives node_gives (Filter-F.RowKey p)
leaf_meaning (leaf.Cells (test.Family p)) = ap filter_meaning (sym (filter.rolls-Family p)) ∙ fold-roll-Filter Gives node_gives (Filter-F.Family p)
leaf_meaning (leaf.Cells (test.Qualifier p)) = ap filter_meaning (sym (filter.rolls-Qualifier p)) ∙ fold-roll-Filter Gives node_gives (Filter-F.Qualifier p)
leaf_meaning (leaf.Cells (test.Value p)) = ap filter_meaning (sym (filter.rolls-Value p)) ∙ fold-roll-Filter Gives node_gives (Filter-F.Value p)
leaf_meaning (leaf.Cells (test.Columns f r)) = ap filter_meaning (sym (filter.rolls-ColumnRange f r)) ∙ fold-roll-Filter Gives node_gives (Filter-F.ColumnRange f r)
leaf_meaning (leaf.Cells (test.ValueRange r)) = ap filter_meaning (sym (filter.rolls-ValueRange r)) ∙ fold-roll-Filter Gives node_gives (Filter-F.ValueRange r)
leaf_meaning (leaf.Cells (test.Times r)) = ap filter_meaning (sym (filter.rolls-Times r)) ∙ fold-roll-Filter Gives node_gives (Filter-F.Times r)
leaf_meaning (leaf.RowOffset n) = ap filter_meaning (sym (filter.rolls-RowOffset n)) ∙ fold-roll-Filter Gives node_gives (Filter-F.RowOffset n)
leaf_meaning (leaf.RowLimit n) = ap filter_meaning (sym (filter.rolls-RowLimit n)) ∙ fold-roll-Filter Gives node_gives (Filter-F.RowLimit n)
leaf_meaning (leaf.ColumnLimit n) = ap filter_meaning (sym (filter.rolls-ColumnLimit n)) ∙ fold-roll-Filter Gives node_gives (Filter-F.ColumnLimit n)
leaf_meaning (leaf.Label l) = ap filter_meaning (sym (filter.rolls-Label l)) ∙ fold-roll-Filter Gives node_gives (Filter-F.Label l)

condition_meaning : (p m u : Option Filter) →
    node_gives (map-Filter Filter Gives filter_meaning (Filter-F.Condition p m u)) ≡ condition_gives (option_map filter_meaning p) (option_map filter_meaning m) (option_map filter_meaning u)
condition_meaning None None None = refl
condition_meaning (Some p) None None = refl
condition_meaning None (Some m) None = refl
condition_meaning (Some p) (Some m) None = refl
condition_meaning None None (Some u) = refl
condition_meaning (Some p) None (Some u) = refl
condition_meaning None (Some m) (Some u) = refl
condition_meaning (Some p) (Some m) (Some u) = refl

-- ---- the filters that steps run

pub filter_of_chain : (v : Vec Step Global) → filter_of (step.Chain v) ≡ filter.Chain (map filter_of v.items)
filter_of_chain v = ap filter_of (sym (step.rolls-Chain v)) ∙ fold-roll-Step Filter step_filter (Step-F.Chain v)

pub filter_of_interleave : (v : Vec Step Global) → filter_of (step.Interleave v) ≡ filter.Interleave (map filter_of v.items)
filter_of_interleave v = ap filter_of (sym (step.rolls-Interleave v)) ∙ fold-roll-Step Filter step_filter (Step-F.Interleave v)

condition_filter : (p m u : Option (Box Step Global)) →
    step_filter (map-Step Step Filter filter_of (Step-F.Condition p m u)) ≡ filter.Condition (part_of p) (part_of m) (part_of u)
condition_filter None None None = refl
condition_filter (Some p) None None = refl
condition_filter None (Some m) None = refl
condition_filter (Some p) (Some m) None = refl
condition_filter None None (Some u) = refl
condition_filter (Some p) None (Some u) = refl
condition_filter None (Some m) (Some u) = refl
condition_filter (Some p) (Some m) (Some u) = refl

pub filter_of_condition : (p m u : Option (Box Step Global)) → filter_of (step.Condition p m u) ≡ filter.Condition (part_of p) (part_of m) (part_of u)
filter_of_condition p m u = ap filter_of (sym (step.rolls-Condition p m u)) ∙ fold-roll-Step Filter step_filter (Step-F.Condition p m u) ∙ condition_filter p m u

-- ---- what steps give

pub leaf_runs : (l : Leaf) → filter_meaning (filter_of (step.Leaf l)) ≡ leaf_gives l
leaf_runs l = ap (λ s. filter_meaning (filter_of s)) (sym (step.rolls-Leaf l)) ∙ ap filter_meaning (fold-roll-Step Filter step_filter (Step-F.Leaf l)) ∙ leaf_meaning l

pub chain_runs : (v : Vec Step Global) → filter_meaning (filter_of (step.Chain v)) ≡ chain_gives (map filter_meaning (map filter_of v.items))
chain_runs v = ap filter_meaning (filter_of_chain v ∙ sym (filter.rolls-Chain (map filter_of v.items))) ∙ fold-roll-Filter Gives node_gives (Filter-F.Chain (map filter_of v.items))

pub interleave_runs : (v : Vec Step Global) → filter_meaning (filter_of (step.Interleave v)) ≡ interleave_gives (map filter_meaning (map filter_of v.items))
interleave_runs v =
    ap filter_meaning (filter_of_interleave v ∙ sym (filter.rolls-Interleave (map filter_of v.items))) ∙ fold-roll-Filter Gives node_gives (Filter-F.Interleave (map filter_of v.items))

pub condition_runs : (p m u : Option (Box Step Global)) →
    filter_meaning (filter_of (step.Condition p m u)) ≡ condition_gives (option_map filter_meaning (part_of p)) (option_map filter_meaning (part_of m)) (option_map filter_meaning (part_of u))
condition_runs p m u =
    ap filter_meaning (filter_of_condition p m u ∙ sym (filter.rolls-Condition (part_of p) (part_of m) (part_of u)))
    ∙ fold-roll-Filter Gives node_gives (Filter-F.Condition (part_of p) (part_of m) (part_of u)) ∙ condition_meaning (part_of p) (part_of m) (part_of u)
