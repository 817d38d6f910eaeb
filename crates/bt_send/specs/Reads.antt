-- The lines of a read's reply.
use Rattle.std.specs.Prelude.{◌≡◌, ◌⊎◌, ℕ, true, List, ◌++◌, take, map, Result, Ok, Err}
use Rattle.std.specs.List.{flat_map}
use Rattle.bt_chunks.specs.declared.chunk.Chunk.{Chunk}
use Rattle.bt_messages.specs.Lines.{line_of, ok_line, response_data}
use Rattle.bt_messages.specs.Refusals.{refusal_line}
use Rattle.bt_messages.specs.Responses.{shown}
use Rattle.bt_messages.specs.declared.refusal.Refusal.TheVariants.{OutOfMemory}
use Rattle.bt_messages.specs.declared.response.Response.TheVariants.{ReadRows}
use Rattle.bt_base.specs.Counts.{counted}
use Rattle.bt_outside.specs.Links.{Sent}
use Rattle.bt_send.specs.Writes.{Sends, Wrote}
use Rattle.bt_send.specs.declared.send_fault.SendFault.{SendFault}
use Rattle.bt_send.specs.declared.send_fault.SendFault.TheVariants as fault

-- the line of a response of a read
abbrev pub read_line : List Chunk → List ℕ
read_line chunks = line_of (response_data (shown (ReadRows chunks)))

-- the lines of responses
abbrev pub read_lines : List (List Chunk) → List (List ℕ)
read_lines responses = map read_line responses

-- lines, one after another
abbrev pub together : List (List ℕ) → List ℕ
together lines = flat_map (λ line. line) lines

-- all lines and the status of success, or the first ones and the refusal for want of memory
abbrev pub ReadGoes : List (List ℕ) → List ℕ → Type 0
ReadGoes lines out = (out ≡ together lines ++ ok_line) ⊎ ((n : ℕ) × (out ≡ together (take n lines) ++ refusal_line OutOfMemory))

-- all of the lines were written, or the first ones before memory ran out or the link failed
abbrev pub WroteSo : {T : Type 0} → List (List ℕ) → Result T SendFault → ℕ → List Sent → List Sent → Type 0
WroteSo lines (Ok x) moment old new = Wrote (together lines) moment old new
WroteSo lines (Err fault.OutOfMemory) moment old new = (n : ℕ) × Wrote (together (take n lines)) moment old new
WroteSo lines (Err fault.LinkFailed) moment old new = Sends (λ out. out ≡ together lines) true moment old new

-- a failure of the link is counted, and nothing else is
abbrev pub CountsLink : {T : Type 0} → Result T SendFault → ℕ → ℕ → Type 0
CountsLink (Ok x) old new = new ≡ old
CountsLink (Err fault.OutOfMemory) old new = new ≡ old
CountsLink (Err fault.LinkFailed) old new = new ≡ counted old
