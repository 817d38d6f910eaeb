-- What a client reads of the answer of a read.
use Rattle.std.specs.Prelude.{◌≡◌, ℕ, List, Some}
use Rattle.bt_types.specs.declared.cell.Cell.{Cell}
use Rattle.bt_range.specs.declared.asked_range.AskedRange.{AskedRange}
use Rattle.bt_filter.specs.declared.asked.AskedFilter.{AskedFilter}
use Rattle.bt_filter.specs.Building.{filter_of}
use Rattle.bt_filter.specs.Flaws.{IsValidFilter}
use Rattle.bt_read.specs.Answers.{answer}
use Rattle.bt_chunks.specs.Chunks.{chunks_of}
use Rattle.bt_chunks.specs.Joining.{IsAnswer, joined}
use Rattle.bt_laws.specs.Tables.{AreLawfulRows}

-- of lawful rows a valid filter leaves an answer: rows in the order of their keys, each filled, in order and lawful
abbrev pub AnswersAreLawful : Type 0
AnswersAreLawful = (rows : List (List ℕ × List Cell)) (keys : List (List ℕ)) (ranges : List AskedRange) (f : AskedFilter) (n : ℕ) →
    AreLawfulRows rows → IsValidFilter f → IsAnswer (answer rows keys ranges (filter_of f) n)

-- a client reads from the chunks of the answer its rows
abbrev pub AnswersJoin : Type 0
AnswersJoin = (rows : List (List ℕ × List Cell)) (keys : List (List ℕ)) (ranges : List AskedRange) (f : AskedFilter) (n : ℕ) →
    AreLawfulRows rows → IsValidFilter f → joined (chunks_of (answer rows keys ranges (filter_of f) n)) ≡ Some (answer rows keys ranges (filter_of f) n)
