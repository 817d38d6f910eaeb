-- The turns of lines.
use Rattle.std.specs.Prelude.{◌≡◌, ◌⊎◌, ◌<◌, ◌==◌, ◌||◌, ℕ, ◌+◌, nat_lt, Bool, true, false, List, [], ◌∷◌, ◌++◌, length, map, take, if◌then◌else◌}
use Rattle.std.specs.List.{flat_map}
use Rattle.bt_entry.specs.Spelling.{spelling}
use Rattle.bt_messages.specs.Refusals.{refusal_line}
use Rattle.bt_messages.specs.declared.refusal.Refusal.{Refusal}
use Rattle.bt_messages.specs.declared.refusal.Refusal.TheVariants.{ChangeTooLarge, DiskFailed, OutOfMemory}
use Rattle.bt_replies.specs.Lines.{IsReplyTo}
use Rattle.bt_send.specs.Writes.{AreEnds}
use Rattle.bt_plans.specs.Replies.{Reply, reply_lines}
use Rattle.bt_state.specs.State.{Event, Present, State, after_records, greatest_sequence, moment_used, numbered}
use Rattle.bt_store.specs.declared.limits.Limits.{Limits}

-- ---- replies

-- the body of a record; sequences are not in the bytes
abbrev pub record_body : List Event → List ℕ
record_body events = spelling (map (numbered 0) events)

-- its body is longer than the limit, or one of its entries would have a sequence above the greatest
abbrev pub is_too_large : Limits → ℕ → List Event → Bool
is_too_large limits last events = nat_lt limits.body (length (record_body events)) || nat_lt greatest_sequence (last + length events)

-- the records before the first one that is too large, where the last sequence is this one
abbrev pub fitting : Limits → ℕ → List (List Event) → List (List Event)
fitting limits last [] = []
fitting limits last (r ∷ rs) = if is_too_large limits last r then [] else r ∷ fitting limits (last + length r) rs

-- A record that is too large is refused, and those behind it; those before it are there.
abbrev pub unless_too_large : Limits → Present → Reply → Reply
unless_too_large limits p r =
    if length (fitting limits p.last r.records) == length r.records then r
    else record { responses = []; status = refusal_line ChangeTooLarge; records = fitting limits p.last r.records }

-- In this state the line is replied so at that moment. It is a relation: some requests have several lawful replies.
unfoldable pub IsReply : Limits → State → List ℕ → ℕ → Reply → Type 0
IsReply limits s line m r = (whole : Reply) × IsReplyTo s.present m line whole × (r ≡ unless_too_large limits s.present whole)

-- ---- how a reply is given

pub data How : Type 0 where
  -- whole, with all its records
  whole : How
  -- refused on the way, for want of memory, before one of its records or before all
  refused_on_the_way : How
  -- the disk failed, and the run ends
  ended : How

-- some response lines, and then the line of a refusal
abbrev pub IsCutShort : Refusal → Reply → List ℕ → Type 0
IsCutShort why r out = (n : ℕ) × (out ≡ flat_map (λ line. line) (take n r.responses) ++ refusal_line why)

-- the first n of its records, but not all of several or of one
abbrev pub IsShortOf : ℕ → Reply → Type 0
IsShortOf n r = (n ≡ 0) ⊎ (n < length r.records)

-- it is given so, and these of its records are there
abbrev pub GoesSo : How → Reply → List ℕ → List (List Event) → Type 0
GoesSo whole r out records = (out ≡ reply_lines r) × (records ≡ r.records)
GoesSo refused_on_the_way r out records = IsCutShort OutOfMemory r out × ((n : ℕ) × IsShortOf n r × (records ≡ take n r.records))
GoesSo ended r out records = IsCutShort DiskFailed r out × ((n : ℕ) × (records ≡ take n r.records))

-- what a line was given
pub record Given : Type 0 where
  pub reply : Reply
  pub how : How
  -- what was written, and whether the link failed at it
  pub out : List ℕ
  pub is_cut : Bool
  -- of each write the number of its bytes that were written by then
  pub ends : List ℕ
  -- the moment of the disk that the links noted with each write
  pub noted : ℕ
  -- the records that are there, as the disk reads
  pub records : List (List Event)

-- where the link failed, what was written is a prefix of what was to be
abbrev pub IsWritten : Bool → How → Reply → List ℕ → List (List Event) → Type 0
IsWritten false how r out records = GoesSo how r out records
IsWritten true how r out records = (rest : List ℕ) × GoesSo how r (out ++ rest) records

-- in this state, at that moment, the line may be given this
pub record IsGiven (limits : Limits) (s : State) (line : List ℕ) (m : ℕ) (g : Given) : Type 0 where
  pub is_reply : IsReply limits s line m g.reply
  pub is_written : IsWritten g.is_cut g.how g.reply g.out g.records
  pub are_ends : AreEnds g.out g.ends

-- The records that a crash may find: where the disk failed, also those that do not read as there.
abbrev pub tried_by : How → List (List Event) → List (List Event) → List (List Event)
tried_by whole all records = records
tried_by refused_on_the_way all records = records
tried_by ended all records = all

abbrev pub tried : Given → List (List Event)
tried g = tried_by g.how g.reply.records g.records

-- the run goes on
abbrev pub GoesOn : How → Type 0
GoesOn whole = Unit {0}
GoesOn refused_on_the_way = Unit {0}
GoesOn ended = ⊥

-- ---- turns

-- a line that was handled, with the reading of the clock for it
pub record Turn : Type 0 where
  pub line : List ℕ
  pub reading : ℕ
  pub given : Given

-- a turn in this state, at the moment used for its reading
abbrev pub IsTurn : Limits → State → Turn → Type 0
IsTurn limits s t = IsGiven limits s t.line (moment_used s.present.floor t.reading) t.given

-- the link took it all, and the run goes on
pub record IsAnswered (t : Turn) : Type 0 where
  pub not_cut : t.given.is_cut ≡ false
  pub goes_on : GoesOn t.given.how

abbrev pub records_of : List Turn → List (List Event)
records_of ts = flat_map (λ t. t.given.records) ts

-- each turn is answered, in the state after those before it
abbrev pub AreTurns : Limits → State → List Turn → Type 0
AreTurns limits s [] = Unit {0}
AreTurns limits s (t ∷ ts) = IsTurn limits s t × IsAnswered t × AreTurns limits (after_records s t.given.records) ts
