-- A run over connections.
use Rattle.std.specs.Prelude.{◌≡◌, ◌⊎◌, ℕ, ◌+◌, List, [], ◌∷◌, ◌++◌, length, map, Bool, true, false}
use Rattle.std.specs.List.{flat_map}
use Rattle.bt_outside.specs.Links.{Sent}
use Rattle.bt_send.specs.Writes.{notes_at}
use Rattle.bt_service.specs.Turns.{AreTurns, How, IsTurn, Turn, ended, records_of, refused_on_the_way, tried, whole}
use Rattle.bt_state.specs.State.{Event, State, after_records}
use Rattle.bt_store.specs.declared.limits.Limits.{Limits}
use Rattle.bt_top.specs.Lines.{ending_of_connection, lines_of_connection}

-- how a connection ended
pub data Last : Type 0 where
  -- the link took all, and this refusal or nothing behind the lines
  closed : (ending : List ℕ) → Last
  -- a read failed
  unread : Last
  -- with the answer to a further line: its write failed, or the run ended
  stopped : (turn : Turn) → Last
  -- a write of the refusal behind the lines failed
  cut : (ending : List ℕ) → Last

abbrev pub stopped_of : Last → List Turn
stopped_of (closed ending) = []
stopped_of unread = []
stopped_of (stopped turn) = turn ∷ []
stopped_of (cut ending) = []

abbrev pub ending_out : Last → List ℕ
ending_out (closed ending) = ending
ending_out unread = []
ending_out (stopped turn) = []
ending_out (cut ending) = ending

abbrev pub has_failed : Last → Bool
has_failed (closed ending) = false
has_failed unread = true
has_failed (stopped turn) = turn.given.is_cut
has_failed (cut ending) = true

abbrev pub ends_run : How → Bool
ends_run whole = false
ends_run refused_on_the_way = false
ends_run ended = true

abbrev pub has_ended : Last → Bool
has_ended (closed ending) = false
has_ended unread = false
has_ended (stopped turn) = ends_run turn.given.how
has_ended (cut ending) = false

-- the records of the last turn that a crash may find
abbrev pub last_tried : Last → List (List Event)
last_tried (closed ending) = []
last_tried unread = []
last_tried (stopped turn) = tried turn.given
last_tried (cut ending) = []

-- what came of a connection: the turns that were answered, and how it ended
pub record Talk : Type 0 where
  pub answered : List Turn
  pub last : Last

abbrev pub turns_of : Talk → List Turn
turns_of t = t.answered ++ stopped_of t.last

abbrev pub out_of : List Turn → List ℕ
out_of turns = flat_map (λ u. u.given.out) turns

abbrev pub talk_records : Talk → List (List Event)
talk_records t = records_of (turns_of t)

-- the records that a crash may find
abbrev pub talk_tried : Talk → List (List Event)
talk_tried t = records_of t.answered ++ last_tried t.last

abbrev pub talk_readings : Talk → List ℕ
talk_readings t = map (λ u. u.reading) (turns_of t)

abbrev pub talk_out : Talk → List ℕ
talk_out t = out_of (turns_of t) ++ ending_out t.last

abbrev pub talk_failed : Talk → Bool
talk_failed t = has_failed t.last

abbrev pub talk_ended : Talk → Bool
talk_ended t = has_ended t.last

abbrev pub IsPrefix : {A : Type 0} → List A → List A → Type 0
IsPrefix {A} part all = (rest : List A) × (all ≡ part ++ rest)

-- its write failed, or the run ended
abbrev pub IsStop : Turn → Type 0
IsStop t = (t.given.is_cut ≡ true) ⊎ (t.given.how ≡ ended)

-- it ended so: unless the link failed or the run ended, each line has its turn
abbrev pub EndsSo : Limits → State → List ℕ → List (List ℕ) → Last → Type 0
EndsSo limits s bytes lines (closed ending) = (lines_of_connection limits bytes ≡ lines) × (ending ≡ ending_of_connection limits bytes)
EndsSo limits s bytes lines unread = IsPrefix lines (lines_of_connection limits bytes)
EndsSo limits s bytes lines (stopped turn) = IsPrefix (lines ++ turn.line ∷ []) (lines_of_connection limits bytes) × IsTurn limits s turn × IsStop turn
EndsSo limits s bytes lines (cut ending) = (lines_of_connection limits bytes ≡ lines) × IsPrefix ending (ending_of_connection limits bytes)

pub record IsTalk (limits : Limits) (s : State) (bytes : List ℕ) (t : Talk) : Type 0 where
  pub answers : AreTurns limits s t.answered
  pub ends : EndsSo limits (after_records s (records_of t.answered)) bytes (map (λ u. u.line) t.answered) t.last

-- where the run ended there is no further connection
abbrev pub IsLastIf : Bool → List (List ℕ) → Type 0
IsLastIf true more = more ≡ []
IsLastIf false more = Unit {0}

-- the connections in turn
abbrev pub AreTalks : Limits → State → List (List ℕ) → List Talk → Type 0
AreTalks limits s [] [] = Unit {0}
AreTalks limits s [] (t ∷ ts) = ⊥
AreTalks limits s (bytes ∷ more) [] = ⊥
AreTalks limits s (bytes ∷ more) (t ∷ ts) = IsTalk limits s bytes t × IsLastIf (talk_ended t) more × AreTalks limits (after_records s (talk_records t)) more ts

-- ---- what the links keep

-- of the turns the numbers of bytes that were written by the end of each write, and the moments that were noted with them; so many bytes stand before
abbrev pub notes_from : ℕ → List Turn → List (ℕ × ℕ)
notes_from before [] = []
notes_from before (t ∷ ts) = notes_at before t.given.noted t.given.ends ++ notes_from (before + length t.given.out) ts

-- what was written to a connection, its mark, and the notes of its turns; others may stand behind them
pub record IsSent (t : Talk) (c : Sent) : Type 0 where
  pub bytes : c.bytes ≡ talk_out t
  pub failed : c.failed ≡ talk_failed t
  pub notes : IsPrefix (notes_from 0 (turns_of t)) c.notes

abbrev pub AreSent : List Talk → List Sent → Type 0
AreSent [] [] = Unit {0}
AreSent [] (c ∷ cs) = ⊥
AreSent (t ∷ ts) [] = ⊥
AreSent (t ∷ ts) (c ∷ cs) = IsSent t c × AreSent ts cs

-- ---- the run

abbrev pub all_turns : List Talk → List Turn
all_turns talks = flat_map turns_of talks

abbrev pub all_records : List Talk → List (List Event)
all_records talks = flat_map talk_records talks

abbrev pub all_tried : List Talk → List (List Event)
all_tried talks = flat_map talk_tried talks

-- From s, these connections are served so: what is read off the clock, written, marked and noted, changed, and kept.
pub record IsRun (limits : Limits) (s : State) (connections : List (List ℕ)) (readings : List ℕ) (outputs : List Sent) (records : List (List Event)) (new : State) : Type 0 where
  pub talks : List Talk
  pub each : AreTalks limits s connections talks
  pub read : readings ≡ flat_map talk_readings talks
  pub written : AreSent talks outputs
  pub changed : records ≡ all_records talks
  pub kept : new ≡ after_records s records
