-- What a line may be answered.
use Rattle.std.specs.Prelude.{◌≡◌, ℕ, List, Result, Ok, Err}
use Rattle.serde_json.specs.Data.{Data}
use Rattle.bt_messages.specs.Refusals.{bad_field_line, refusal_line, unsupported_line}
use Rattle.bt_messages.specs.declared.refusal.Refusal.{Refusal}
use Rattle.bt_messages.specs.declared.refusal.Refusal.TheVariants as refusal
use Rattle.bt_requests.specs.Envelopes.{envelope_of}
use Rattle.bt_requests.specs.Requests.{request_in}
use Rattle.bt_requests.specs.declared.envelope.LineRefusal.{LineRefusal}
use Rattle.bt_requests.specs.declared.envelope.LineRefusal.TheVariants as line
use Rattle.bt_requests.specs.declared.method.Method.{Method}
use Rattle.bt_requests.specs.declared.refusal.RequestRefusal.{RequestRefusal}
use Rattle.bt_requests.specs.declared.refusal.RequestRefusal.TheVariants as request
use Rattle.bt_requests.specs.declared.request.Request.{Request}
use Rattle.bt_requests.specs.declared.request.Request.TheVariants.{CreateTable, GetTable, ListTables, DeleteTable, UpdateTable, ModifyColumnFamilies, DropRowRange, MutateRow, MutateRows, ReadRows, CheckAndMutateRow, ReadModifyWriteRow}
use Rattle.bt_schema.specs.Schema.{table_of}
use Rattle.bt_state.specs.State.{Present}
use Rattle.bt_read_write_replies.specs.CheckAndMutate.{IsCheckReply}
use Rattle.bt_read_write_replies.specs.ReadModifyWrite.{modify_row_reply}
use Rattle.bt_row_replies.specs.Drops.{drop_reply}
use Rattle.bt_table_replies.specs.Modifications.{modify_reply}
use Rattle.bt_row_replies.specs.MutateRows.{mutate_rows_reply}
use Rattle.bt_plans.specs.Replies.{Reply, refused, refused_by}
use Rattle.bt_row_replies.specs.Rows.{IsReadReply, mutate_reply}
use Rattle.bt_table_replies.specs.Tables.{create_reply, delete_reply, get_reply, list_reply, update_reply}

-- the replies to a request
abbrev pub IsRequestReply : Present → ℕ → Request → Reply → Type 0
IsRequestReply p m (CreateTable name families retention) r = r ≡ create_reply p m name families retention (table_of name p.schema)
IsRequestReply p m (GetTable name) r = r ≡ get_reply (table_of name p.schema)
IsRequestReply p m (ListTables parent page_token) r = r ≡ list_reply p parent page_token
IsRequestReply p m (DeleteTable name) r = r ≡ delete_reply m (table_of name p.schema)
IsRequestReply p m (UpdateTable name mask retention) r = r ≡ update_reply p m mask retention (table_of name p.schema)
IsRequestReply p m (ModifyColumnFamilies name changes) r = r ≡ modify_reply p m changes (table_of name p.schema)
IsRequestReply p m (DropRowRange name target) r = r ≡ drop_reply p m target (table_of name p.schema)
IsRequestReply p m (MutateRow name key ms) r = r ≡ mutate_reply m key ms (table_of name p.schema)
IsRequestReply p m (MutateRows name entries) r = r ≡ mutate_rows_reply m entries (table_of name p.schema)
IsRequestReply p m (ReadRows name keys ranges filter limit) r = IsReadReply p keys ranges filter limit (table_of name p.schema) r
IsRequestReply p m (CheckAndMutateRow name key predicate trues falses) r = IsCheckReply p m (record { key = key; predicate = predicate; yes = trues; no = falses }) (table_of name p.schema) r
IsRequestReply p m (ReadModifyWriteRow name key rules) r = r ≡ modify_row_reply p m key rules (table_of name p.schema)

-- the request is about rows
abbrev pub IsOfRows : Request → Type 0
IsOfRows (CreateTable name families retention) = ⊥
IsOfRows (GetTable name) = ⊥
IsOfRows (ListTables parent page_token) = ⊥
IsOfRows (DeleteTable name) = ⊥
IsOfRows (UpdateTable name mask retention) = ⊥
IsOfRows (ModifyColumnFamilies name changes) = ⊥
IsOfRows _ = Unit {0}

-- the status line of a request that is refused for what it holds
abbrev pub request_refusal_line : RequestRefusal → List ℕ
request_refusal_line request.NotBuilt = refusal_line refusal.NotBuilt
request_refusal_line (request.Unsupported name) = unsupported_line name
request_refusal_line (request.BadField name) = bad_field_line name
request_refusal_line request.BadName = refusal_line refusal.BadName
-- (a request is never refused for this by its definition)
request_refusal_line request.OutOfMemory = refusal_line refusal.OutOfMemory

abbrev pub IsAskedReply : Present → ℕ → Result Request RequestRefusal → Reply → Type 0
IsAskedReply p m (Err why) r = r ≡ refused_by (request_refusal_line why)
IsAskedReply p m (Ok request) r = IsRequestReply p m request r

-- the refusal of a line that holds no request
abbrev pub envelope_refusal : LineRefusal → Refusal
envelope_refusal line.NotJson = refusal.NotJson
envelope_refusal line.BadEnvelope = refusal.BadEnvelope
envelope_refusal line.UnknownMethod = refusal.UnknownMethod
-- (nor is an envelope)
envelope_refusal line.OutOfMemory = refusal.OutOfMemory

abbrev pub IsEnvelopedReply : Present → ℕ → Result (Method × Data) LineRefusal → Reply → Type 0
IsEnvelopedReply p m (Err why) r = r ≡ refused (envelope_refusal why)
IsEnvelopedReply p m (Ok x) r = IsAskedReply p m (request_in x.0 x.1) r

-- The replies to a line at a moment, where no change is too large.
abbrev pub IsReplyTo : Present → ℕ → List ℕ → Reply → Type 0
IsReplyTo p m bytes r = IsEnvelopedReply p m (envelope_of bytes) r
