-- MutateRows (google.bigtable.v2): mutations of several rows, each row by itself.
use Rattle.std.specs.Prelude.{ℕ, false, is_none, nat_lt, List, [], ◌∷◌, length, map, filter, sum, Option, Some, None}
use Rattle.bt_entry.specs.declared.entry.Entry.{Entry}
use Rattle.bt_entry.specs.declared.entry.Entry.TheVariants.{Row}
use Rattle.bt_entry.specs.declared.table_info.TableInfo.{TableInfo}
use Rattle.bt_messages.specs.Lines.{line_of, ok_line, response_data}
use Rattle.bt_messages.specs.Refusals.{refusal_code, refusal_text}
use Rattle.bt_messages.specs.Responses.{shown}
use Rattle.bt_messages.specs.declared.refusal.Refusal.{Refusal}
use Rattle.bt_messages.specs.declared.refusal.Refusal.TheVariants as refusal
use Rattle.bt_messages.specs.declared.response.EntryStatus.{EntryStatus}
use Rattle.bt_messages.specs.declared.response.Response.TheVariants.{MutateRows}
use Rattle.bt_mutation.specs.Resolution.{resolved}
use Rattle.bt_requests.specs.declared.rows.AskedEntry.{AskedEntry}
use Rattle.bt_state.specs.State.{Event}
use Rattle.bt_plans.specs.Replies.{Reply, event, refused, unless_refused, refused_if}
use Rattle.bt_plans.specs.RowEntries.{most_mutations, mutate_refusal}

-- what is wrong with an entry, as with a request for its row alone
abbrev pub entry_refusal : TableInfo → AskedEntry → Option Refusal
entry_refusal t e = mutate_refusal e.key e.mutations t

abbrev pub status_of : Option Refusal → EntryStatus
status_of None = record { code = 0; text = [] }
status_of (Some why) = record { code = refusal_code why; text = refusal_text why }

-- the entries that are not refused, in order
abbrev pub accepted : TableInfo → List AskedEntry → List AskedEntry
accepted t entries = filter (λ e. is_none (entry_refusal t e)) entries

abbrev pub row_of : ℕ → TableInfo → AskedEntry → Entry
row_of m t e = Row t.incarnation e.key false (resolved m e.mutations)

-- how many mutations all entries have together
abbrev pub mutation_count : List AskedEntry → ℕ
mutation_count entries = sum (map (λ e. length e.mutations) entries)

-- what is wrong with the request as a whole
abbrev pub entries_refusal : List AskedEntry → Option Refusal
entries_refusal [] = Some refusal.NoEntries
entries_refusal (e ∷ es) = refused_if (nat_lt most_mutations (mutation_count (e ∷ es))) refusal.TooManyMutations

-- one record of these events, or none where there are none
abbrev pub one_record : List Event → List (List Event)
one_record [] = []
one_record (e ∷ es) = (e ∷ es) ∷ []

-- a status for each entry, and one record of those that are accepted
abbrev pub mutate_rows_reply : ℕ → List AskedEntry → Option TableInfo → Reply
mutate_rows_reply m entries None = refused refusal.TableNotFound
mutate_rows_reply m entries (Some t) = unless_refused (entries_refusal entries) (record {
  responses = line_of (response_data (shown (MutateRows (map (λ e. status_of (entry_refusal t e)) entries)))) ∷ [];
  status = ok_line;
  records = one_record (map (λ e. event m (row_of m t e)) (accepted t entries));
})
