-- How the statuses of entries are spelled.
use Rattle.std.specs.Prelude.{ℕ, ◌==◌, Bool, true, false, not, List, ◌++◌, codes, if◌then◌else◌}
use Rattle.std.specs.Fmt.{decimal}
use Rattle.serde_json.specs.View.{items_of}
use Rattle.serde_json.specs.Written.{comma_if, compact_text, items_text}
use Rattle.bt_messages.specs.Responses.{shown_status, shown_statuses_from}
use Rattle.bt_messages.specs.declared.response.EntryStatus.{EntryStatus}
use Rattle.bt_messages.specs.declared.response.Response.{Response}
use Rattle.bt_messages.specs.declared.response.Response.TheVariants.{MutateRows}

-- the response is about the entries of MutateRows
abbrev pub has_statuses : Response → Bool
has_statuses (MutateRows ss) = true
has_statuses r = false

-- what stands before the status of the entry at that place: place 0 has no comma, and is not shown
unfoldable pub place_text : ℕ → List ℕ
place_text index = if index == 0 then codes "{\"status\":" else codes ",{\"index\":\"" ++ decimal index ++ codes "\",\"status\":"

-- the entry at that place, after a comma where it is not the first
unfoldable pub entry_text : ℕ → EntryStatus → List ℕ
entry_text index status = comma_if (not (index == 0)) ++ compact_text (shown_status index status)

-- the entries from that place on, with the bracket that closes them
unfoldable pub entries_text : ℕ → List EntryStatus → List ℕ
entries_text index statuses = items_text (not (index == 0)) (items_of (shown_statuses_from index statuses))
