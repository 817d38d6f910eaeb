-- The request lines in the bytes of a connection.
use Rattle.std.specs.Prelude.{ℕ, ◌==◌, ◌||◌, ltb, leb, Bool, List, [], ◌∷◌, length, take, if◌then◌else◌}
use Rattle.std.specs.List.{list_all, slice_split}
use Rattle.bt_messages.specs.declared.refusal.Refusal.TheVariants.{LineTooLong, ConnectionTooLong, LineNotEnded}
use Rattle.bt_messages.specs.Refusals.{refusal_line}
use Rattle.bt_store.specs.declared.limits.Limits.{Limits}

-- a line that holds only spaces, tabs and CR, or nothing
abbrev pub is_blank : List ℕ → Bool
is_blank line = list_all (λ b. b == 32 || b == 9 || b == 13) line

abbrev pub is_lf : ℕ → Bool
is_lf b = b == 10

abbrev pub line_too_long : List ℕ
line_too_long = refusal_line LineTooLong

abbrev pub connection_too_long : List ℕ
connection_too_long = refusal_line ConnectionTooLong

abbrev pub line_not_ended : List ℕ
line_not_ended = refusal_line LineNotEnded

-- the lines among the pieces between LFs: none from a piece that is longer than the limit on
abbrev pub lines_of_pieces : ℕ → List (List ℕ) → List (List ℕ)
lines_of_pieces most [] = []
lines_of_pieces most (rest ∷ []) = []
lines_of_pieces most (p ∷ q ∷ more) =
    if ltb most (length p) then [] else if is_blank p then lines_of_pieces most (q ∷ more) else p ∷ lines_of_pieces most (q ∷ more)

-- what is answered behind the lines, where the connection has as many bytes as are allowed or fewer
abbrev pub ending_of_pieces : ℕ → Bool → List (List ℕ) → List ℕ
ending_of_pieces most full [] = []
ending_of_pieces most full (rest ∷ []) =
    if ltb most (length rest) then line_too_long else if full then connection_too_long else if is_blank rest then [] else line_not_ended
ending_of_pieces most full (p ∷ q ∷ more) = if ltb most (length p) then line_too_long else ending_of_pieces most full (q ∷ more)

-- the same of a stream of bytes, divided at LF
abbrev pub lines_in : ℕ → List ℕ → List (List ℕ)
lines_in most bytes = lines_of_pieces most (slice_split is_lf bytes)

abbrev pub ending_in : ℕ → Bool → List ℕ → List ℕ
ending_in most full bytes = ending_of_pieces most full (slice_split is_lf bytes)

-- the lines of a connection, of which only so many bytes count
abbrev pub lines_of_connection : Limits → List ℕ → List (List ℕ)
lines_of_connection limits bytes = lines_in limits.line (take limits.connection bytes)

-- the refusal behind them, or nothing
abbrev pub ending_of_connection : Limits → List ℕ → List ℕ
ending_of_connection limits bytes = ending_in limits.line (leb limits.connection (length bytes)) (take limits.connection bytes)
