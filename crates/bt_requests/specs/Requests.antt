-- What a request asks for, or why it is refused.
use Rattle.std.specs.Prelude.{ℕ, Option, Some, None, Result, Ok, Err}
use Rattle.serde_json.specs.Data.{Data}
use Rattle.bt_requests.specs.CheckAndMutate.{check_and_mutate_row}
use Rattle.bt_requests.specs.ReadModifyWrite.{read_modify_write_row}
use Rattle.bt_requests.specs.Readers.{create_table, get_table, list_tables, delete_table, update_table, modify_column_families, drop_row_range, read_rows, mutate_row, mutate_rows}
use Rattle.bt_requests.specs.Refusals.{members_refusal}
use Rattle.bt_members.specs.declared.kinds.TheConstants as kinds
use Rattle.bt_requests.specs.declared.method.Method.{Method}
use Rattle.bt_requests.specs.declared.method.Method.TheVariants as method
use Rattle.bt_requests.specs.declared.refusal.RequestRefusal.{RequestRefusal}
use Rattle.bt_requests.specs.declared.refusal.RequestRefusal.TheVariants.{NotBuilt, BadName}
use Rattle.bt_requests.specs.declared.request.Request.{Request}

-- the message of a method that is built
abbrev pub message_of : Method → Option ℕ
message_of method.CreateTable = Some kinds.CREATE_TABLE
message_of method.GetTable = Some kinds.GET_TABLE
message_of method.ListTables = Some kinds.LIST_TABLES
message_of method.DeleteTable = Some kinds.DELETE_TABLE
message_of method.UpdateTable = Some kinds.UPDATE_TABLE
message_of method.ModifyColumnFamilies = Some kinds.MODIFY_COLUMN_FAMILIES
message_of method.DropRowRange = Some kinds.DROP_ROW_RANGE
message_of method.MutateRows = Some kinds.MUTATE_ROWS
message_of method.ReadRows = Some kinds.READ_ROWS
message_of method.MutateRow = Some kinds.MUTATE_ROW
message_of method.CheckAndMutateRow = Some kinds.CHECK_AND_MUTATE_ROW
message_of method.ReadModifyWriteRow = Some kinds.READ_MODIFY_WRITE_ROW
message_of _ = None

-- what its request asks for; none where a name in it is not lawful
abbrev pub asked_of : Method → Data → Option Request
asked_of method.CreateTable d = create_table d
asked_of method.GetTable d = get_table d
asked_of method.ListTables d = list_tables d
asked_of method.DeleteTable d = delete_table d
asked_of method.UpdateTable d = update_table d
asked_of method.ModifyColumnFamilies d = modify_column_families d
asked_of method.DropRowRange d = drop_row_range d
asked_of method.ReadRows d = read_rows d
asked_of method.MutateRow d = mutate_row d
asked_of method.MutateRows d = mutate_rows d
asked_of method.CheckAndMutateRow d = check_and_mutate_row d
asked_of method.ReadModifyWriteRow d = read_modify_write_row d
asked_of _ d = None

-- the refusal, or else what follows
abbrev pub unless_refused : Option RequestRefusal → Result Request RequestRefusal → Result Request RequestRefusal
unless_refused None answer = answer
unless_refused (Some e) answer = Err e

abbrev pub or_bad_name : Option Request → Result Request RequestRefusal
or_bad_name None = Err BadName
or_bad_name (Some r) = Ok r

abbrev pub if_built : Option ℕ → (ℕ → Result Request RequestRefusal) → Result Request RequestRefusal
if_built None answer = Err NotBuilt
if_built (Some m) answer = answer m

-- the order of refusals: not built, unsupported, bad field, bad name
abbrev pub request_in : Method → Data → Result Request RequestRefusal
request_in method d = if_built (message_of method) (λ m. unless_refused (members_refusal m d) (or_bad_name (asked_of method d)))
