-- A reply: what a line is answered, and what it changes.
use Rattle.std.specs.Prelude.{ℕ, Bool, List, [], ◌∷◌, ◌++◌, map, Option, Some, None, if◌then◌else◌}
use Rattle.std.specs.List.{flat_map}
use Rattle.bt_entry.specs.declared.entry.Entry.{Entry}
use Rattle.bt_types.specs.declared.found_row.FoundRow.{FoundRow}
use Rattle.bt_chunks.specs.Chunks.{chunks_of, responses_of}
use Rattle.bt_messages.specs.Lines.{line_of, response_data, ok_line}
use Rattle.bt_messages.specs.Refusals.{refusal_line}
use Rattle.bt_messages.specs.Responses.{shown}
use Rattle.bt_messages.specs.declared.refusal.Refusal.{Refusal}
use Rattle.bt_messages.specs.declared.response.Response.{Response}
use Rattle.bt_messages.specs.declared.response.Response.TheVariants.{ReadRows}
use Rattle.bt_state.specs.State.{Event}

-- The response lines; the status line behind them; and the records of the change, each of which is there whole or not at all.
pub record Reply : Type 0 where
  pub responses : List (List ℕ)
  pub status : List ℕ
  pub records : List (List Event)

abbrev pub response_bytes : Reply → List ℕ
response_bytes r = flat_map (λ line. line) r.responses

-- the lines of a reply
abbrev pub reply_lines : Reply → List ℕ
reply_lines r = response_bytes r ++ r.status

-- a status line alone, and no change
abbrev pub refused_by : List ℕ → Reply
refused_by line = record { responses = []; status = line; records = [] }

abbrev pub refused : Refusal → Reply
refused why = refused_by (refusal_line why)

abbrev pub refused_if : Bool → Refusal → Option Refusal
refused_if b why = if b then Some why else None

-- the refusal, or else this reply
abbrev pub unless_refused : Option Refusal → Reply → Reply
unless_refused None r = r
unless_refused (Some why) r = refused why

abbrev pub event : ℕ → Entry → Event
event m e = record { moment = m; entry = e }

-- one response, and no change
abbrev pub answers : Response → Reply
answers response = record { responses = line_of (response_data (shown response)) ∷ []; status = ok_line; records = [] }

-- one response, and one record of one entry at this moment
abbrev pub changes : Response → ℕ → Entry → Reply
changes response m e = record {
  responses = line_of (response_data (shown response)) ∷ [];
  status = ok_line;
  records = (event m e ∷ []) ∷ [];
}

-- the rows of a read's answer, response by response, and no change
abbrev pub rows_reply : List FoundRow → Reply
rows_reply rows = record {
  responses = map (λ cs. line_of (response_data (shown (ReadRows cs)))) (responses_of (chunks_of rows));
  status = ok_line;
  records = [];
}
