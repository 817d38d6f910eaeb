-- What a client reads of a table.
use Rattle.std.specs.Prelude.{◌≡◌, ℕ, List, Some}
use Rattle.bt_range.specs.declared.asked_range.AskedRange.{AskedRange}
use Rattle.bt_filter.specs.declared.asked.AskedFilter.{AskedFilter}
use Rattle.bt_filter.specs.Building.{filter_of}
use Rattle.bt_filter.specs.Flaws.{IsValidFilter}
use Rattle.bt_read.specs.Answers.{answer}
use Rattle.bt_chunks.specs.Chunks.{chunks_of}
use Rattle.bt_chunks.specs.Joining.{joined}
use Rattle.bt_state.specs.State.{State, rows_of}
use Rattle.bt_laws.specs.States.{IsValid}

-- a client reads from the chunks of an answer of a valid state its rows
abbrev pub ReadsJoin : Type 0
ReadsJoin = (s : State) (incarnation : ℕ) (keys : List (List ℕ)) (ranges : List AskedRange) (f : AskedFilter) (n : ℕ) → IsValid s → IsValidFilter f →
    joined (chunks_of (answer (rows_of incarnation s.present.contents) keys ranges (filter_of f) n)) ≡ Some (answer (rows_of incarnation s.present.contents) keys ranges (filter_of f) n)
