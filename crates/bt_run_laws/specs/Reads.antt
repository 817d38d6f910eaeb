-- What a client reads of the turns of a run.
use Rattle.std.specs.Prelude.{◌≡◌, ◌⊎◌, ℕ, ℤ, pos, List, map, Some, Ok}
use Rattle.std.specs.List.{flat_map}
use Rattle.serde_json.specs.Data.{Data}
use Rattle.bt_types.specs.declared.found_row.FoundRow.{FoundRow}
use Rattle.bt_chunks.specs.Joining.{joined}
use Rattle.bt_chunks.specs.declared.chunk.Chunk.{Chunk}
use Rattle.bt_entry.specs.declared.table_info.TableInfo.{TableInfo}
use Rattle.bt_filter.specs.Building.{filter_of}
use Rattle.bt_filter.specs.Flaws.{IsValidFilter}
use Rattle.bt_filter.specs.declared.asked.AskedFilter.{AskedFilter}
use Rattle.bt_laws.specs.States.{IsValid}
use Rattle.bt_messages.specs.Lines.{line_of, ok_line, response_data}
use Rattle.bt_messages.specs.Responses.{shown}
use Rattle.bt_messages.specs.declared.refusal.Refusal.{Refusal}
use Rattle.bt_messages.specs.declared.response.Response.TheVariants as response
use Rattle.bt_outside.specs.Links.{Sent}
use Rattle.bt_plans.specs.Replies.{Reply, refused}
use Rattle.bt_range.specs.declared.asked_range.AskedRange.{AskedRange}
use Rattle.bt_read.specs.Answers.{answer}
use Rattle.bt_requests.specs.Envelopes.{envelope_of}
use Rattle.bt_requests.specs.Requests.{request_in}
use Rattle.bt_requests.specs.declared.method.Method.{Method}
use Rattle.bt_requests.specs.declared.request.Request.{Request}
use Rattle.bt_requests.specs.declared.request.Request.TheVariants.{ReadRows}
use Rattle.bt_schema.specs.Schema.{table_of}
use Rattle.bt_service.specs.Turns.{Turn}
use Rattle.bt_state.specs.State.{Event, State, rows_of}
use Rattle.bt_store.specs.declared.limits.Limits.{Limits}
use Rattle.bt_top.specs.Runs.{IsRun, all_turns}
use Rattle.bt_run_laws.specs.Runs.{ComesBehind, state_before}

-- the line is this request
abbrev pub AsksFor : List ℕ → Request → Type 0
AsksFor line request = (x : Method × Data) × (envelope_of line ≡ Ok x) × (request_in x.0 x.1 ≡ Ok request)

-- it gives these rows: a client joins them from the chunks of its responses, which are in order
pub record GivesRows (rows : List FoundRow) (r : Reply) : Type 0 where
  pub chunks : List (List Chunk)
  pub responses : r.responses ≡ map (λ cs. line_of (response_data (shown (response.ReadRows cs)))) chunks
  pub joins : joined (flat_map (λ cs. cs) chunks) ≡ Some rows
  pub status : r.status ≡ ok_line

-- it gives the rows of the table that were asked for, each with what the filter leaves of it
pub record AnswersRead (s : State) (name : List ℕ) (keys : List (List ℕ)) (ranges : List AskedRange) (f : AskedFilter) (limit : ℤ) (r : Reply) : Type 0 where
  pub table : TableInfo
  pub found : table_of name s.present.schema ≡ Some table
  pub most : ℕ
  pub limited : limit ≡ pos most
  pub filter : IsValidFilter f
  pub rows : GivesRows (answer (rows_of table.incarnation s.present.contents) keys ranges (filter_of f) most) r

-- it gives no rows, but a refusal
abbrev pub IsRefusal : Reply → Type 0
IsRefusal r = (why : Refusal) × (r ≡ refused why)

-- A read in a run from a valid state is refused, or a client joins from its reply the rows that were asked for, of the state before it.
abbrev pub RunReadsJoin : Type 0
RunReadsJoin = (limits : Limits) (s : State) (connections : List (List ℕ)) (readings : List ℕ) (outputs : List Sent) (records : List (List Event)) (new : State) (run : IsRun limits s connections readings outputs records new)
    (before : List Turn) (t : Turn) (name : List ℕ) (keys : List (List ℕ)) (ranges : List AskedRange) (f : AskedFilter) (limit : ℤ) → IsValid s → ComesBehind before t (all_turns run.talks) → AsksFor t.line (ReadRows name keys ranges f limit)
    → IsRefusal t.given.reply ⊎ AnswersRead (state_before s before) name keys ranges f limit t.given.reply
