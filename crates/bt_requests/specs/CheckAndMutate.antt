-- What a conditional change asks for, where no member is bad (google.bigtable.v2.CheckAndMutateRowRequest).
use Rattle.std.specs.Prelude.{ℕ, List, codes, Option, option_map}
use Rattle.serde_json.specs.Data.{Data}
use Rattle.bt_mutation.specs.declared.asked.AskedMutation.{AskedMutation}
use Rattle.bt_members.specs.Values.{bytes_at, items_at}
use Rattle.bt_requests.specs.Filters.{predicate_at}
use Rattle.bt_requests.specs.Readers.{mutations_in, table_name}
use Rattle.bt_requests.specs.declared.request.Request.{Request}
use Rattle.bt_requests.specs.declared.request.Request.TheVariants.{CheckAndMutateRow}

-- the mutations of a list, by its name
abbrev pub mutations_at : List ℕ → Data → List AskedMutation
mutations_at n d = mutations_in (items_at n d)

abbrev pub check_and_mutate_row : Data → Option Request
check_and_mutate_row d =
    option_map
    (λ name. CheckAndMutateRow name (bytes_at (codes "rowKey") d) (predicate_at d) (mutations_at (codes "trueMutations") d) (mutations_at (codes "falseMutations") d))
    (table_name d)
