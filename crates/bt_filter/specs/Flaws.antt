-- What is against a filter that is asked for, and where (google.bigtable.v2.RowFilter).
use Rattle.std.specs.Prelude.{◌≡◌, ◌⊎◌, ℕ, ℤ, pos, negsuc, ◌+◌, max, ◌==◌, ◌||◌, Bool, true, false, nat_lt, List, [], ◌∷◌, ◌++◌, length, filter, Option, Some, None, Result, Ok, Err, if◌then◌else◌}
use Rattle.std.specs.List.{list_any, flat_map, AllByRecursion}
use Rattle.bt_types.specs.Grammar.{is_label}
use Rattle.bt_range.specs.declared.bound.Bound.{Bound}
use Rattle.bt_range.specs.declared.bound.Bound.TheVariants.{Unset, Closed, Past}
use Rattle.bt_range.specs.declared.byte_range.ByteRange.{ByteRange}
use Rattle.bt_pattern.specs.Patterns.{is_plain, IsPattern, IsBad, MayBeLarge}
use Rattle.bt_filter.specs.declared.asked.AskedFilter.{AskedFilter}
use Rattle.bt_filter.specs.declared.asked.AskedFilter.TheOpen.{AskedFilter-F}
use Rattle.bt_filter.specs.declared.asked.AskedFilter.TheFolds.{fold-AskedFilter}
use Rattle.bt_filter.specs.declared.refusal.Why.{Why}
use Rattle.bt_filter.specs.declared.refusal.Why.TheVariants as cause
use Rattle.bt_filter.specs.declared.refusal.Flaw.{Flaw}
use Rattle.bt_filter.specs.declared.refusal.FilterRefusal.{FilterRefusal}
use Rattle.bt_filter.specs.declared.refusal.FilterRefusal.TheVariants.{BadFilter, OutOfMemory}

-- ---- the whole tree

-- how deep a tree is, and how many nodes, bytes and patterns that are not plain it has
pub record Extent : Type 0 where
  pub depth : ℕ
  pub nodes : ℕ
  pub bytes : ℕ
  pub patterns : ℕ

-- of no tree
abbrev pub no_extent : Extent
no_extent = record { depth = 0; nodes = 0; bytes = 0; patterns = 0 }

-- two trees side by side
abbrev pub extent_beside : Extent → Extent → Extent
extent_beside a b = record { depth = max a.depth b.depth; nodes = a.nodes + b.nodes; bytes = a.bytes + b.bytes; patterns = a.patterns + b.patterns }

abbrev pub extent_of_all : List Extent → Extent
extent_of_all [] = no_extent
extent_of_all (e ∷ es) = extent_beside e (extent_of_all es)

abbrev pub extent_of_part : Option Extent → Extent
extent_of_part None = no_extent
extent_of_part (Some e) = e

-- a node above its parts
abbrev pub extent_above : Extent → Extent
extent_above parts = record parts { depth = parts.depth + 1; nodes = parts.nodes + 1 }

-- a node without parts, with so many bytes
abbrev pub extent_of_leaf : ℕ → Extent
extent_of_leaf bytes = record { depth = 1; nodes = 1; bytes = bytes; patterns = 0 }

-- a node with that pattern
abbrev pub extent_of_pattern : List ℕ → Extent
extent_of_pattern text = record { depth = 1; nodes = 1; bytes = length text; patterns = if is_plain text then 0 else 1 }

-- how many bytes a bound has
abbrev pub bound_bytes : Bound → ℕ
bound_bytes Unset = 0
bound_bytes (Closed b) = length b
bound_bytes (Past b) = length b

abbrev pub range_bytes : ByteRange → ℕ
range_bytes r = bound_bytes r.start + bound_bytes r.end

-- a filter of each kind, above parts with these extents
abbrev pub node_extent : AskedFilter-F Extent → Extent
node_extent (AskedFilter-F.Chain parts) = extent_above (extent_of_all parts)
node_extent (AskedFilter-F.Interleave parts) = extent_above (extent_of_all parts)
node_extent (AskedFilter-F.Condition predicate matched unmatched) =
    extent_above (extent_beside (extent_of_part predicate) (extent_beside (extent_of_part matched) (extent_of_part unmatched)))
node_extent (AskedFilter-F.RowKey text) = extent_of_pattern text
node_extent (AskedFilter-F.Family text) = extent_of_pattern text
node_extent (AskedFilter-F.Qualifier text) = extent_of_pattern text
node_extent (AskedFilter-F.Value text) = extent_of_pattern text
node_extent (AskedFilter-F.ColumnRange family range) = extent_of_leaf (length family + range_bytes range)
node_extent (AskedFilter-F.ValueRange range) = extent_of_leaf (range_bytes range)
node_extent (AskedFilter-F.Label label) = extent_of_leaf (length label)
node_extent _ = extent_of_leaf 0

-- how large a filter is
abbrev pub extent_of : AskedFilter → Extent
extent_of = fold-AskedFilter Extent node_extent

-- the first of the causes that are of the whole tree
abbrev pub extent_flaw : Extent → Option Why
extent_flaw e =
    if nat_lt 20 e.depth then Some cause.TooDeep
    else (if nat_lt 1024 e.nodes then Some cause.TooMany
    else (if nat_lt 20480 e.bytes then Some cause.TooLarge
    else (if nat_lt 16 e.patterns then Some cause.TooManyPatterns
    else None)))

-- ---- each node

-- what there is to check at a node: nothing, a text that must be a pattern, or a cause against it
pub data Check : Type 0 where
  Fine : Check
  Reads : List ℕ → Check
  Wrong : Why → Check

-- a flag is given as true
abbrev pub flag_check : Bool → Check
flag_check true = Fine
flag_check false = Wrong cause.FlagNotTrue

-- a sink, below a condition or not
abbrev pub sink_check : Bool → Bool → Check
sink_check true flag = Wrong cause.SinkUnderCondition
sink_check false flag = flag_check flag

-- names of families have no `:`
abbrev pub family_check : List ℕ → Check
family_check text = if list_any (λ b. b == 0x3A) text then Wrong cause.BadPattern else Reads text

abbrev pub is_negative : ℤ → Bool
is_negative (pos n) = false
is_negative (negsuc n) = true

abbrev pub times_check : ℤ → ℤ → Check
times_check start end = if is_negative start || is_negative end then Wrong cause.BadTimeRange else Fine

abbrev pub count_check : ℤ → Check
count_check count = if is_negative count then Wrong cause.NegativeCount else Fine

abbrev pub label_check : List ℕ → Check
label_check label = if is_label label then Fine else Wrong cause.BadLabel

-- whether a tree has a label, and the checks of its nodes, each before its parts, below a condition or not
pub record Checks : Type 0 where
  pub has_label : Bool
  pub nodes : Bool → List Check

-- of parts in order
abbrev pub nodes_of_all : List Checks → Bool → List Check
nodes_of_all parts below = flat_map (λ c. c.nodes below) parts

-- how many of the parts have a label
abbrev pub label_count : List Checks → ℕ
label_count parts = length (filter (λ c. c.has_label) parts)

abbrev pub part_has_label : Option Checks → Bool
part_has_label None = false
part_has_label (Some c) = c.has_label

abbrev pub nodes_of_part : Option Checks → List Check
nodes_of_part None = []
nodes_of_part (Some c) = c.nodes true

-- at most one part of a chain has a label
abbrev pub chain_check : ℕ → Check
chain_check labels = if nat_lt 1 labels then Wrong cause.TwoLabels else Fine

-- a node without parts and without a label
abbrev pub one_check : Check → Checks
one_check c = record { has_label = false; nodes = λ below. c ∷ [] }

-- a filter of each kind, with parts of these checks
abbrev pub node_checks : AskedFilter-F Checks → Checks
node_checks AskedFilter-F.Unset = one_check Fine
node_checks (AskedFilter-F.Pass flag) = one_check (flag_check flag)
node_checks (AskedFilter-F.Block flag) = one_check (flag_check flag)
node_checks (AskedFilter-F.Sink flag) = record { has_label = false; nodes = λ below. sink_check below flag ∷ [] }
node_checks (AskedFilter-F.Strip flag) = one_check (flag_check flag)
node_checks (AskedFilter-F.Chain parts) =
    record { has_label = nat_lt 0 (label_count parts); nodes = λ below. chain_check (label_count parts) ∷ nodes_of_all parts below }
node_checks (AskedFilter-F.Interleave parts) =
    record { has_label = nat_lt 0 (label_count parts); nodes = λ below. Fine ∷ nodes_of_all parts below }
node_checks (AskedFilter-F.Condition predicate matched unmatched) = record {
  has_label = part_has_label predicate || part_has_label matched || part_has_label unmatched;
  nodes = λ below. Fine ∷ (nodes_of_part predicate ++ nodes_of_part matched ++ nodes_of_part unmatched);
}
node_checks (AskedFilter-F.RowKey text) = one_check (Reads text)
node_checks (AskedFilter-F.Family text) = one_check (family_check text)
node_checks (AskedFilter-F.Qualifier text) = one_check (Reads text)
node_checks (AskedFilter-F.Value text) = one_check (Reads text)
node_checks (AskedFilter-F.ColumnRange family range) = one_check Fine
node_checks (AskedFilter-F.ValueRange range) = one_check Fine
node_checks (AskedFilter-F.Times start end) = one_check (times_check start end)
node_checks (AskedFilter-F.RowOffset count) = one_check (count_check count)
node_checks (AskedFilter-F.RowLimit count) = one_check (count_check count)
node_checks (AskedFilter-F.ColumnLimit count) = one_check (count_check count)
node_checks (AskedFilter-F.Label label) = record { has_label = true; nodes = λ below. label_check label ∷ [] }

-- what there is to check in a filter
abbrev pub checks_of : AskedFilter → Checks
checks_of = fold-AskedFilter Checks node_checks

-- the checks of all nodes, in the order of their numbers
abbrev pub node_list : AskedFilter → List Check
node_list f = (checks_of f).nodes false

-- ---- the first cause

-- a node with nothing against it
abbrev pub IsFine : Check → Type 0
IsFine Fine = Unit {0}
IsFine (Reads text) = IsPattern text
IsFine (Wrong why) = ⊥

-- a text that must be a pattern is refused for that
abbrev pub IsTextCause : Why → List ℕ → Type 0
IsTextCause cause.BadPattern text = IsBad text
IsTextCause cause.LargePattern text = MayBeLarge text
IsTextCause _ text = ⊥

-- that is against the node
abbrev pub IsCause : Why → Check → Type 0
IsCause why Fine = ⊥
IsCause why (Reads text) = IsTextCause why text
IsCause why (Wrong w) = why ≡ w

-- of nodes that are numbered from n on, the first that is not fine is this one, for that
abbrev pub IsFirst : ℕ → List Check → Why → ℕ → Type 0
IsFirst n [] why node = ⊥
IsFirst n (c ∷ cs) why node = ((node ≡ n) × IsCause why c) ⊎ (IsFine c × IsFirst (n + 1) cs why node)

-- there is nothing against the filter
pub record IsValidFilter (f : AskedFilter) : Type 0 where
  pub whole : extent_flaw (extent_of f) ≡ None
  pub nodes : AllByRecursion IsFine (node_list f)

-- the refusal is of the first node that is not fine, of those that are numbered from n on
abbrev pub IsRefusedAt : ℕ → List Check → FilterRefusal → Type 0
IsRefusedAt n nodes (BadFilter why node) = IsFirst n nodes why node
IsRefusedAt n nodes OutOfMemory = Unit {0}

-- what was made has nodes that are all fine, or it is refused for the first one that is not
abbrev pub IsOutcome : {A : Type 0} → Result A FilterRefusal → ℕ → List Check → Type 0
IsOutcome (Ok made) n nodes = AllByRecursion IsFine nodes
IsOutcome (Err refusal) n nodes = IsRefusedAt n nodes refusal

-- what is against the whole tree, or else the first that is against a node
abbrev pub IsRefusedFor : AskedFilter → FilterRefusal → Type 0
IsRefusedFor f (BadFilter why node) =
    ((extent_flaw (extent_of f) ≡ Some why) × (node ≡ 0)) ⊎ ((extent_flaw (extent_of f) ≡ None) × IsRefusedAt 0 (node_list f) (BadFilter why node))
IsRefusedFor f OutOfMemory = Unit {0}

-- ---- the first cause, where all texts that must be patterns are read

-- of nodes that are numbered from n on
abbrev pub first_wrong : ℕ → List Check → Option Flaw
first_wrong n [] = None
first_wrong n (Fine ∷ cs) = first_wrong (n + 1) cs
first_wrong n (Reads text ∷ cs) = first_wrong (n + 1) cs
first_wrong n (Wrong why ∷ cs) = Some (record { why = why; node = n })

-- what is against the whole tree, or else that
abbrev pub whole_or : Option Why → Option Flaw → Option Flaw
whole_or None flaw = flaw
whole_or (Some why) flaw = Some (record { why = why; node = 0 })

-- the first cause against a filter but for texts that are no patterns or too large
abbrev pub first_flaw : AskedFilter → Option Flaw
first_flaw f = whole_or (extent_flaw (extent_of f)) (first_wrong 0 (node_list f))

-- a text that must be a pattern is never refused
abbrev pub IsSurelyRead : Check → Type 0
IsSurelyRead Fine = Unit {0}
IsSurelyRead (Reads text) = ¬ (IsBad text) × ¬ (MayBeLarge text)
IsSurelyRead (Wrong why) = Unit {0}

-- it is that flaw, or memory ran out
abbrev pub IsFlawOrMemory : Flaw → FilterRefusal → Type 0
IsFlawOrMemory flaw refusal = (refusal ≡ BadFilter flaw.why flaw.node) ⊎ (refusal ≡ OutOfMemory)
