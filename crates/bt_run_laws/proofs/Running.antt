-- The turns of a run from a valid state, one after another.
use Rattle.std.proofs.Common.{◌≡◌, ◌≤◌, ◌++◌, ℕ, zero, suc, Bool, true, false, List, [], ◌∷◌, refl, subst, sym, ap, ◌∙◌, arith}
use Rattle.std.specs.Prelude.{take}
use Rattle.bt_plans.specs.Replies.{Reply}
use Rattle.bt_service.specs.Turns.{AreTurns, GoesSo, How, IsTurn, IsWritten, Turn, ended, records_of, refused_on_the_way, whole}
use Rattle.bt_state.specs.State.{Event, State, after_record, after_records, moment_used}
use Rattle.bt_store.specs.declared.limits.Limits.{Limits}
use Rattle.bt_top.proofs.Survivals.{after_records-append, records-append}
use Rattle.bt_top.specs.Runs.{AreTalks, EndsSo, IsTalk, Last, Talk, all_records, all_turns, closed, cut, stopped, stopped_of, talk_records, turns_of, unread}
use Rattle.bt_laws.specs.States.{AreLawfulRecords, IsValid, ValidAfterRecords}
use Rattle.bt_run_laws.proofs.Replying.{LeadOn, last_after, reply_leads}
use Rattle.bt_run_laws.specs.Replies.{MayBeNext}
use Rattle.bt_run_laws.specs.Runs.{RunsValid, StatesValid, TurnsValid, state_before}

-- ---- some of the records of a reply

last_rises : (s : State) (rs : List (List Event)) → s.present.last ≤ (after_records s rs).present.last
last_rises s [] = omega arith
last_rises s (r ∷ rs) =
    let first = last_after s r in
    let rest = last_rises (after_record s r) rs in
    omega (arith, first, rest)

leads_first : (n : ℕ) (s : State) (rs : List (List Event)) → LeadOn s rs → LeadOn s (take n rs)
leads_first zero s rs leads = let rises = last_rises s rs in let within = leads.within in record { lawful = tt; within = omega (arith, rises, within) }
leads_first (suc n) s [] leads = leads
leads_first (suc n) s (r ∷ rs) leads =
    let rest = leads_first n (after_record s r) rs (record { lawful = leads.lawful.1; within = leads.within }) in
    record { lawful = (leads.lawful.0, rest.lawful); within = rest.within }

goes_first : (s : State) (how : How) (r : Reply) (out : List ℕ) (records : List (List Event)) → LeadOn s r.records → GoesSo how r out records → LeadOn s records
goes_first s whole r out records leads goes = subst (LeadOn s) (sym goes.1) leads
goes_first s refused_on_the_way r out records leads goes = subst (LeadOn s) (sym goes.1.2) (leads_first goes.1.0 s r.records leads)
goes_first s ended r out records leads goes = subst (LeadOn s) (sym goes.1.1) (leads_first goes.1.0 s r.records leads)

written_first : (s : State) (is_cut : Bool) (how : How) (r : Reply) (out : List ℕ) (records : List (List Event)) → LeadOn s r.records → IsWritten is_cut how r out records → LeadOn s records
written_first s false how r out records leads is = goes_first s how r out records leads is
written_first s true how r out records leads is = goes_first s how r (out ++ is.0) records leads is.1

used : (s : State) (reading : ℕ) → IsValid s → MayBeNext s (moment_used s.present.floor reading)
used s reading valid = let floor = valid.floor in record { not_before = omega arith; not_past = omega (arith, floor) }

turn_leads : (limits : Limits) (s : State) (t : Turn) → IsValid s → IsTurn limits s t → LeadOn s t.given.records
turn_leads limits s t valid is =
    written_first s t.given.is_cut t.given.how t.given.reply t.given.out t.given.records
    (reply_leads limits s (moment_used s.present.floor t.reading) t.line t.given.reply valid (used s t.reading valid) is.is_reply) is.is_written

-- ---- turns

-- each turn is one in the state after those before it
abbrev pub AreTurnsFrom : Limits → State → List Turn → Type 0
AreTurnsFrom limits s [] = Unit {0}
AreTurnsFrom limits s (t ∷ ts) = IsTurn limits s t × AreTurnsFrom limits (after_records s t.given.records) ts

module _ (limits : Limits) where
  answered_from : (s : State) (ts : List Turn) → AreTurns limits s ts → AreTurnsFrom limits s ts
  answered_from s [] are = tt
  answered_from s (t ∷ ts) are = (are.0, answered_from (after_records s t.given.records) ts are.2)

  turns_then : (s : State) (ts us : List Turn) → AreTurnsFrom limits s ts → AreTurnsFrom limits (after_records s (records_of ts)) us → AreTurnsFrom limits s (ts ++ us)
  turns_then s [] us are also = also
  turns_then s (t ∷ ts) us are also =
      (are.0, turns_then (after_records s t.given.records) ts us are.1 (subst (λ x. AreTurnsFrom limits x us) (after_records-append s t.given.records (records_of ts)) also))

  last_from : (s : State) (bytes : List ℕ) (lines : List (List ℕ)) (last : Last) → EndsSo limits s bytes lines last → AreTurnsFrom limits s (stopped_of last)
  last_from s bytes lines (closed ending) ends = tt
  last_from s bytes lines unread ends = tt
  last_from s bytes lines (stopped turn) ends = (ends.1, tt)
  last_from s bytes lines (cut ending) ends = tt

  talk_from : (s : State) (bytes : List ℕ) (t : Talk) → IsTalk limits s bytes t → AreTurnsFrom limits s (turns_of t)
  talk_from s bytes t is = turns_then s t.answered (stopped_of t.last) (answered_from s t.answered is.answers) (last_from (after_records s (records_of t.answered)) bytes _ t.last is.ends)

  talks_from : (s : State) (connections : List (List ℕ)) (talks : List Talk) → AreTalks limits s connections talks → AreTurnsFrom limits s (all_turns talks)
  talks_from s [] [] are = tt
  talks_from s [] (t ∷ ts) are = absurd are
  talks_from s (bytes ∷ more) [] are = absurd are
  talks_from s (bytes ∷ more) (t ∷ ts) are = turns_then s (turns_of t) (all_turns ts) (talk_from s bytes t are.0) (talks_from (after_records s (talk_records t)) more ts are.2)

-- the records of all talks are those of all turns
same_records : (talks : List Talk) → all_records talks ≡ records_of (all_turns talks)
same_records [] = refl
same_records (t ∷ ts) = ap (λ rs. talk_records t ++ rs) (same_records ts) ∙ sym (records-append (turns_of t) (all_turns ts))

lawful_then : (s : State) (xs ys : List (List Event)) → AreLawfulRecords s xs → AreLawfulRecords (after_records s xs) ys → AreLawfulRecords s (xs ++ ys)
lawful_then s [] ys lawful also = also
lawful_then s (x ∷ xs) ys lawful also = (lawful.0, lawful_then (after_record s x) xs ys lawful.1 also)

module _ (after_all : ValidAfterRecords) (limits : Limits) where
  turn_valid : (s : State) (t : Turn) → IsValid s → IsTurn limits s t → IsValid (after_records s t.given.records)
  turn_valid s t valid is = let leads = turn_leads limits s t valid is in after_all s t.given.records valid leads.lawful leads.within

  turns_valid : (s : State) (ts : List Turn) → IsValid s → AreTurnsFrom limits s ts → AreLawfulRecords s (records_of ts) × IsValid (after_records s (records_of ts))
  turns_valid s [] valid are = (tt, valid)
  turns_valid s (t ∷ ts) valid are =
      let rest = turns_valid (after_records s t.given.records) ts (turn_valid s t valid are.0) are.1 in
      (lawful_then s t.given.records (records_of ts) (turn_leads limits s t valid are.0).lawful rest.0, subst IsValid (sym (after_records-append s t.given.records (records_of ts))) rest.1)

  turn_behind : (s : State) (before : List Turn) (t : Turn) (later : List Turn) → IsValid s → AreTurnsFrom limits s (before ++ t ∷ later) → IsValid (state_before s before) × IsTurn limits (state_before s before) t
  turn_behind s [] t later valid are = (valid, are.0)
  turn_behind s (u ∷ us) t later valid are =
      subst (λ x. IsValid x × IsTurn limits x t) (sym (after_records-append s u.given.records (records_of us))) (turn_behind (after_records s u.given.records) us t later (turn_valid s u valid are.0) are.1)

pub runs_valid : ValidAfterRecords → RunsValid
runs_valid after_all limits s connections readings outputs records new valid run =
    let turns = turns_valid after_all limits s (all_turns run.talks) valid (talks_from limits s connections run.talks run.each) in
    let are : records_of (all_turns run.talks) ≡ records = sym (run.changed ∙ same_records run.talks) in
    (subst (AreLawfulRecords s) are turns.0, subst IsValid (ap (after_records s) are ∙ sym run.kept) turns.1)

pub states_valid : ValidAfterRecords → StatesValid
states_valid after_all limits s connections readings outputs records new n valid run =
    let whole = runs_valid after_all limits s connections readings outputs records new valid run in
    let last : IsValid (after_records s records) = subst IsValid run.kept whole.1 in
    let leads = leads_first n s records (record { lawful = whole.0; within = last.within }) in
    after_all s (take n records) valid leads.lawful leads.within

pub turns_valid_in : ValidAfterRecords → TurnsValid
turns_valid_in after_all limits s connections readings outputs records new run before t valid behind =
    turn_behind after_all limits s before t behind.0 valid (subst (AreTurnsFrom limits s) behind.1 (talks_from limits s connections run.talks run.each))
