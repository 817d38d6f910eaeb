-- The rows of all tables, and changes of rows.
use Rattle.std.specs.Prelude.{◌≡◌, ◌<◌, ℕ, Bool, false, List, [], ◌∷◌, ◌++◌, length, All, Option, None, Some, IfSome, if◌then◌else◌}
use Rattle.std.specs.List.{AllByRecursion}
use Rattle.std.specs.List.Sorted.{IsStrictlySortedBy}
use Rattle.std.specs.Ordering.{nat_cmp, ordering_then}
use Rattle.std.specs.declared.cmp.Ordering.{Ordering}
use Rattle.std.specs.Cmp.Lexicographic.{slice_cmp}
use Rattle.std.specs.Map.{keys_of, lookup, remove_entry, values_of}
use Rattle.std.specs.BTreeMap.{is_at}
use Rattle.bt_types.specs.declared.mutation.Mutation.{Mutation}
use Rattle.bt_row.specs.declared.cell_key.CellKey.{CellKey}
use Rattle.bt_row.specs.declared.plan.Ending.{Ending}
use Rattle.bt_row.specs.declared.plan.Plan.{Plan}
use Rattle.bt_row.specs.declared.row.Row.{Row}
use Rattle.bt_all_contents.specs.declared.row_change.RowChange.{RowChange}
use Rattle.bt_contents.specs.Contents.{Contents, IsTable, keyed_at, list_at, put_row, with_entry}
use Rattle.bt_row.specs.Sound.{HaveShort, IsSound}
use Rattle.bt_row.specs.Keys.{Keyed}
use Rattle.bt_row.specs.Plans.{AreLawful, CanSettle, IsPlan, Values, is_wanted_at, placed, planned, settled, value_at}

-- the rows of the tables that have one, by their incarnations
abbrev pub AllContents : Type 0
AllContents = List (ℕ × Contents)

-- the rows of that incarnation
abbrev pub rows_of : ℕ → AllContents → Contents
rows_of incarnation all = list_at nat_cmp incarnation all

-- without the rows of that incarnation
abbrev pub without_rows : ℕ → AllContents → AllContents
without_rows incarnation all = remove_entry (is_at (nat_cmp incarnation)) all

-- with these rows of that incarnation; a table without rows is not there
abbrev pub with_rows : ℕ → Contents → AllContents → AllContents
with_rows incarnation rows all = with_entry nat_cmp incarnation rows all

-- after one change
abbrev pub one_changed : RowChange → AllContents → AllContents
one_changed c all = with_rows c.incarnation (put_row c.key c.mutations (rows_of c.incarnation all)) all

-- after changes, in order
abbrev pub all_changed : List RowChange → AllContents → AllContents
all_changed [] all = all
all_changed (c ∷ cs) all = all_changed cs (one_changed c all)

-- no change sets a value that is too long
abbrev pub AreShortChanges : List RowChange → Type 0
AreShortChanges cs = AllByRecursion (λ c. HaveShort c.mutations) cs

-- what is known of the rows of all tables: the incarnations are in order; each table has rows, of which what is known holds
pub record AreTables (all : AllContents) : Type 0 where
  pub sorted : IsStrictlySortedBy nat_cmp (keys_of all)
  pub each : All (λ rows. IsTable rows × (0 < length rows)) (values_of all)

-- ---- plans of changes

-- where a row is: the incarnation of its table, and its key
abbrev pub RowAt : Type 0
RowAt = ℕ × List ℕ

abbrev pub at_cmp : RowAt → RowAt → Ordering
at_cmp a b = ordering_then (nat_cmp a.0 b.0) (slice_cmp nat_cmp a.1 b.1)

-- the values of the row there
abbrev pub cells_there : AllContents → RowAt → Keyed
cells_there all a = keyed_at a.1 (rows_of a.0 all)

-- the mutations of the row there
abbrev pub mutations_at : List RowChange → RowAt → List Mutation
mutations_at [] a = []
mutations_at (c ∷ cs) a = (if is_at (at_cmp a) (c.incarnation, c.key) then c.mutations else []) ++ mutations_at cs a

-- the plan of the row there
abbrev pub plan_at : List (RowAt × Plan) → RowAt → Option Plan
plan_at plans a = lookup (is_at (at_cmp a)) plans

-- what plans leave of rows that have these values; a row without a plan stays
abbrev pub planned_or : Option Plan → Keyed → Values
planned_or None es k = value_at es k
planned_or (Some p) es k = planned p es k

-- the row that is to be new there
abbrev pub new_at : List (RowAt × Row) → RowAt → Option Row
new_at rows a = lookup (is_at (at_cmp a)) rows

-- its values, or else those that were there
abbrev pub row_or : Option Row → Keyed → Keyed
row_or None es = es
row_or (Some r) es = r.cells.entries

-- what plans and new rows leave of all rows
abbrev pub all_planned : List (RowAt × Plan) → List (RowAt × Row) → AllContents → RowAt → Values
all_planned plans rows all a = planned_or (plan_at plans a) (row_or (new_at rows a) (cells_there all a))

-- the same once places were made
abbrev pub placed_or : Option Plan → Keyed → Values
placed_or None es k = value_at es k
placed_or (Some p) es k = placed p.outcomes.entries (value_at es) k

abbrev pub all_placed : List (RowAt × Plan) → AllContents → RowAt → Values
all_placed plans all a = placed_or (plan_at plans a) (cells_there all a)

-- a plan wants a cell of the key to be made there
abbrev pub is_wanted_by : Option Plan → CellKey → Bool
is_wanted_by None k = false
is_wanted_by (Some p) k = is_wanted_at p.outcomes.entries k

abbrev pub is_wanted_there : List (RowAt × Plan) → RowAt → CellKey → Bool
is_wanted_there plans a k = is_wanted_by (plan_at plans a) k

-- the same once plans have ended
abbrev pub settled_or : Ending → Option Plan → Keyed → Values
settled_or ending None es k = value_at es k
settled_or ending (Some p) es k = settled ending p es k

abbrev pub all_settled : Ending → List (RowAt × Plan) → AllContents → RowAt → Values
all_settled ending plans all a = settled_or ending (plan_at plans a) (cells_there all a)

-- each plan is one for its row, which is there
abbrev pub ArePlans : List (RowAt × Plan) → AllContents → Type 0
ArePlans plans all = (a : RowAt) → IfSome (plan_at plans a) (λ p. IsPlan p (cells_there all a) × (0 < length (cells_there all a)))

-- each new row is sound, and not there yet
abbrev pub AreNewRows : List (RowAt × Row) → AllContents → Type 0
AreNewRows rows all = (a : RowAt) → IfSome (new_at rows a) (λ r. IsSound r.cells.entries × (cells_there all a ≡ []))

abbrev pub AreAllLawful : List (RowAt × Plan) → Type 0
AreAllLawful plans = (a : RowAt) → IfSome (plan_at plans a) (λ p. AreLawful p.outcomes.entries)

abbrev pub CanSettleAll : Ending → List (RowAt × Plan) → AllContents → Type 0
CanSettleAll ending plans all = (a : RowAt) → IfSome (plan_at plans a) (λ p. CanSettle ending p (cells_there all a))
