-- What mutations leave of the value at a key, and what a plan says of it.
use Rattle.std.specs.Prelude.{◌≡◌, ℕ, ◌&&◌, Bool, false, List, [], ◌∷◌, length, ◌≤◌, Option, None, Some, IfSome, IsSome, is_some, is_none, if◌then◌else◌}
use Rattle.std.specs.List.{list_any}
use Rattle.std.specs.Map.{lookup, keys_of}
use Rattle.std.specs.BTreeMap.{is_at}
use Rattle.bt_types.specs.declared.mutation.Mutation.{Mutation}
use Rattle.bt_types.specs.declared.mutation.Mutation.TheVariants.{SetCell, DeleteColumn, DeleteFamily, DeleteRow}
use Rattle.bt_row.specs.declared.cell_key.CellKey.{CellKey}
use Rattle.bt_entry.specs.Grammar.{most_of_value}
use Rattle.bt_row.specs.declared.plan.Ending.{Ending}
use Rattle.bt_row.specs.declared.plan.Ending.TheVariants.{CarryOut, TakeBack}
use Rattle.bt_row.specs.declared.plan.Outcome.{Outcome}
use Rattle.bt_row.specs.declared.plan.Plan.{Plan}
use Rattle.bt_row.specs.Extents.{AreTimed, removes}
use Rattle.bt_row.specs.Keys.{Keyed, key_cmp}

-- what entries have at a key
abbrev pub value_at : {X : Type 0} → List (CellKey × X) → CellKey → Option X
value_at es k = lookup (is_at (key_cmp k)) es

-- the values at keys, as entries or a plan give them
abbrev pub Values : Type 0
Values = CellKey → Option (List ℕ)

-- what is at a key after a mutation
abbrev pub value_after : Mutation → Values → Values
value_after (SetCell family qualifier at value) f k = if is_at (key_cmp k) (record { family = family; qualifier = qualifier; at = at }) then Some value else f k
value_after (DeleteColumn family qualifier start end) f k = if removes (DeleteColumn family qualifier start end) k then None else f k
value_after (DeleteFamily family) f k = if removes (DeleteFamily family) k then None else f k
value_after DeleteRow f k = None

abbrev pub values_after : List Mutation → Values → Values
values_after [] f = f
values_after (m ∷ ms) f = values_after ms (value_after m f)

-- nothing is at these keys
abbrev pub without : List CellKey → Values → Values
without ks f k = if list_any (is_at (key_cmp k)) ks then None else f k

-- the value, where there is one, is not too long
abbrev pub IsShortOrNone : Option (List ℕ) → Type 0
IsShortOrNone o = IfSome o (λ v. length v ≤ most_of_value)

-- the outcome at a key, or else what was there
abbrev pub outcome_or : Option Outcome → Option (List ℕ) → Option (List ℕ)
outcome_or None before = before
outcome_or (Some o) before = o.value

-- what is at a key where the plan was carried out
abbrev pub planned : Plan → Keyed → Values
planned p es k = outcome_or (value_at p.outcomes.entries k) (if p.clears then None else value_at es k)

-- the outcomes are for keys with the timestamps of cells, and their values are short
pub record AreLawful (outcomes : List (CellKey × Outcome)) : Type 0 where
  pub timed : AreTimed (keys_of outcomes)
  pub short : (k : CellKey) → IfSome (value_at outcomes k) (λ o. IsShortOrNone o.value)

-- the plan is one for these entries
pub record IsPlan (p : Plan) (es : Keyed) : Type 0 where
  pub fresh : (k : CellKey) → IfSome (value_at p.outcomes.entries k) (λ o. o.is_new ≡ is_none (value_at es k))
  pub lawful : AreLawful p.outcomes.entries

-- the outcome at the key is one for which a cell has to be made
abbrev pub is_wanted : Option Outcome → Bool
is_wanted None = false
is_wanted (Some o) = o.is_new && is_some o.value

abbrev pub is_wanted_at : List (CellKey × Outcome) → CellKey → Bool
is_wanted_at outcomes k = is_wanted (value_at outcomes k)

-- a new cell has no bytes until its value is there
abbrev pub placed : List (CellKey × Outcome) → Values → Values
placed outcomes f k = if is_wanted_at outcomes k then Some [] else f k

-- the outcome at the key is of a new cell
abbrev pub is_new : Option Outcome → Bool
is_new None = false
is_new (Some o) = o.is_new

abbrev pub is_new_at : List (CellKey × Outcome) → CellKey → Bool
is_new_at outcomes k = is_new (value_at outcomes k)

-- what is at a key once a plan has ended
abbrev pub settled : Ending → Plan → Keyed → Values
settled CarryOut p es k = planned p es k
settled TakeBack p es k = if is_new_at p.outcomes.entries k then None else value_at es k

-- each new value has a place
abbrev pub HasPlaces : List (CellKey × Outcome) → Keyed → Type 0
HasPlaces outcomes es = (k : CellKey) → IfSome (value_at outcomes k) (λ o. IsSome o.value → IsSome (value_at es k))

-- the plan can end so
abbrev pub CanSettle : Ending → Plan → Keyed → Type 0
CanSettle CarryOut p es = HasPlaces p.outcomes.entries es
CanSettle TakeBack p es = Unit {0}
