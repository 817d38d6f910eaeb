-- What mutations become at the moment of their request (google.bigtable.v2.Mutation).
use Rattle.std.specs.Prelude.{ℕ, ℤ, pos, negsuc, ◌-◌, ◌%◌, List, map}
use Rattle.bt_types.specs.declared.mutation.Mutation.{Mutation}
use Rattle.bt_types.specs.declared.mutation.Mutation.TheVariants.{SetCell, DeleteColumn, DeleteFamily, DeleteRow}
use Rattle.bt_mutation.specs.declared.asked.AskedMutation.{AskedMutation}
use Rattle.bt_mutation.specs.declared.asked.AskedMutation.TheVariants as asked

-- the time that was asked for; for -1 it is the moment, cut down to whole milliseconds
abbrev pub time_used : ℕ → ℤ → ℕ
time_used moment (pos n) = n
time_used moment (negsuc n) = moment - moment % 1000

-- a bound of times, which is not negative
abbrev pub bound_used : ℤ → ℕ
bound_used (pos n) = n
bound_used (negsuc n) = 0

-- all but the time stays; a mutation of no kind is never resolved
abbrev pub resolved_mutation : ℕ → AskedMutation → Mutation
resolved_mutation moment (asked.SetCell family qualifier at value) = SetCell family qualifier (time_used moment at) value
resolved_mutation moment (asked.DeleteColumn family qualifier start end) = DeleteColumn family qualifier (bound_used start) (bound_used end)
resolved_mutation moment (asked.DeleteFamily family) = DeleteFamily family
resolved_mutation moment asked.DeleteRow = DeleteRow
resolved_mutation moment asked.Missing = DeleteRow

-- the mutations of a list, in order
abbrev pub resolved : ℕ → List AskedMutation → List Mutation
resolved moment list = map (resolved_mutation moment) list
