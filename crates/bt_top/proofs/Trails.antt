-- Turns, one after another.
use Rattle.std.proofs.Common.{◌≡◌, ◌⊎◌, inl, inr, ℕ, ◌+◌, List, [], ◌∷◌, ◌++◌, length, map, refl, sym, ap, subst, ◌∙◌, arith, append_assoc, length-append, Bool, true, false}
use Rattle.std.proofs.lemmas.Grind.{flat_map-append}
use Rattle.std.proofs.lemmas.List.{map-append, append-nil}
use Rattle.bt_crash.proofs.Chains.{OnlyNow}
use Rattle.bt_outside.specs.Links.{Sent}
use Rattle.bt_outside.specs.declared.disk.Disk.{Ghosts}
use Rattle.bt_send.specs.Writes.{IsMarked, notes_at}
use Rattle.bt_send.proofs.Sending.{goes_as, goes_then}
use Rattle.bt_service.specs.Steps.{CountedBy, GivenTo, Leaves, Turned}
use Rattle.bt_service.specs.Turns.{AreTurns, GoesOn, How, IsGiven, IsTurn, Turn, ended, records_of, refused_on_the_way, tried, whole}
use Rattle.bt_service.specs.declared.handled.Handled.{Handled}
use Rattle.bt_service.specs.declared.handled.Handled.TheVariants.{Answered, DiskEnded, LinkLost}
use Rattle.bt_state.specs.State.{Event, State, after_records, moment_used}
use Rattle.bt_store.specs.Stands.{Seen, Stands}
use Rattle.bt_store.specs.declared.limits.Limits.{Limits}
use Rattle.bt_top.specs.Crashes.{Survives}
use Rattle.bt_top.specs.Lines.{is_blank}
use Rattle.bt_top.specs.Runs.{IsStop, ends_run, notes_from, out_of}
use Rattle.bt_top.specs.Steps.{Goes, Says, Stops, Went, WentStopped, heard}
use Rattle.bt_top.proofs.Survivals.{Sooner, after_records-append, goes_on_stands, goes_on_tried, records-append, state_then, survives_none, survives_one, survives_then}

-- ---- what the links keep

pub out-append : (ts us : List Turn) → out_of (ts ++ us) ≡ out_of ts ++ out_of us
out-append ts us = flat_map-append (λ (t : Turn). t.given.out) ts us

pub notes-append : (before : ℕ) (ts us : List Turn) → notes_from before (ts ++ us) ≡ notes_from before ts ++ notes_from (before + length (out_of ts)) us
notes-append before [] us = let same : before ≡ before + length (out_of []) = omega arith in ap (λ (n : ℕ). notes_from n us) same
notes-append before (t ∷ ts) us =
    let further = before + length t.given.out in
    let same : further + length (out_of ts) ≡ before + length (out_of (t ∷ ts)) = omega (arith, length-append t.given.out (out_of ts)) in
    ap (λ (l : List (ℕ × ℕ)). notes_at before t.given.noted t.given.ends ++ l) (notes-append further ts us ∙ ap (λ (n : ℕ). notes_from further ts ++ notes_from n us) same)
    ∙ sym (append_assoc (notes_at before t.given.noted t.given.ends) (notes_from further ts) (notes_from (before + length (out_of (t ∷ ts))) us))

-- the notes of turns after others that were said
notes_behind : (ts us : List Turn) (a b : Sent) → Says ts a b → b.notes ++ notes_from (length b.bytes) us ≡ a.notes ++ notes_from (length a.bytes) (ts ++ us)
notes_behind ts us a b f =
    let size : length b.bytes ≡ length a.bytes + length (out_of ts) = ap length f.bytes ∙ length-append a.bytes (out_of ts) in
    ap (λ (l : List (ℕ × ℕ)). l ++ notes_from (length b.bytes) us) f.notes ∙ append_assoc a.notes (notes_from (length a.bytes) ts) (notes_from (length b.bytes) us)
    ∙ ap (λ (n : ℕ). a.notes ++ (notes_from (length a.bytes) ts ++ notes_from n us)) size ∙ ap (λ (l : List (ℕ × ℕ)). a.notes ++ l) (sym (notes-append (length a.bytes) ts us))

bytes_behind : (ts us : List Turn) (a b c : List ℕ) → b ≡ a ++ out_of ts → c ≡ b ++ out_of us → c ≡ a ++ out_of (ts ++ us)
bytes_behind ts us a b c f g = g ∙ ap (λ (l : List ℕ). l ++ out_of us) f ∙ append_assoc a (out_of ts) (out_of us) ∙ ap (λ (l : List ℕ). a ++ l) (sym (out-append ts us))

pub says_then : (ts us : List Turn) (a b c : Sent) → Says ts a b → Says us b c → Says (ts ++ us) a c
says_then ts us a b c f g = record {
  bytes = bytes_behind ts us a.bytes b.bytes c.bytes f.bytes g.bytes;
  notes = g.notes ∙ notes_behind ts us a b f;
  failed = g.failed ∙ f.failed;
}

pub stops_then : (ts us : List Turn) (last : Turn) (a b c : Sent) → Says ts a b → Stops us last b c → Stops (ts ++ us) last a c
stops_then ts us last a b c f g = record {
  bytes = bytes_behind ts (us ++ last ∷ []) a.bytes b.bytes c.bytes f.bytes g.bytes ∙ ap (λ (l : List Turn). a.bytes ++ out_of l) (sym (append_assoc ts us (last ∷ [])));
  notes = g.notes ∙ notes_behind ts (us ++ last ∷ []) a b f ∙ ap (λ (l : List Turn). a.notes ++ notes_from (length a.bytes) l) (sym (append_assoc ts us (last ∷ [])));
  failed = λ fine. g.failed (f.failed ∙ fine);
}

says_none : (c : Sent) → Says [] c c
says_none c = record { bytes = sym (append-nil c.bytes); notes = sym (append-nil c.notes); failed = refl }

one_noted : (turn : Turn) (before : ℕ) → notes_from before (turn ∷ []) ≡ notes_at before turn.given.noted turn.given.ends
one_noted turn before = append-nil (notes_at before turn.given.noted turn.given.ends)

one_out : (turn : Turn) → out_of (turn ∷ []) ≡ turn.given.out
one_out turn = append-nil turn.given.out

not_marked : (is_cut b old new : Bool) → is_cut ≡ b → b ≡ false → IsMarked is_cut old new → new ≡ old
not_marked true b old new same fine m = absurd cc
not_marked false b old new same fine m = m

marked_so : (is_cut b old new : Bool) → is_cut ≡ b → IsMarked is_cut old new → old ≡ false → new ≡ b
marked_so true b old new same m fine = m ∙ same
marked_so false b old new same m fine = m ∙ fine ∙ same

-- an answer, written whole
says_one : (turn : Turn) (a b : Sent) → turn.given.is_cut ≡ false → GivenTo turn.given a b → Says (turn ∷ []) a b
says_one turn a b fine w = record {
  bytes = w.bytes ∙ ap (λ (l : List ℕ). a.bytes ++ l) (sym (one_out turn));
  notes = w.notes ∙ ap (λ (l : List (ℕ × ℕ)). a.notes ++ l) (sym (one_noted turn (length a.bytes)));
  failed = not_marked turn.given.is_cut turn.given.is_cut a.failed b.failed refl fine w.failed;
}

-- what was written of an answer
stops_one : (turn : Turn) (a b : Sent) → GivenTo turn.given a b → Stops [] turn a b
stops_one turn a b w = record {
  bytes = w.bytes ∙ ap (λ (l : List ℕ). a.bytes ++ l) (sym (one_out turn));
  notes = w.notes ∙ ap (λ (l : List (ℕ × ℕ)). a.notes ++ l) (sym (one_noted turn (length a.bytes)));
  failed = marked_so turn.given.is_cut turn.given.is_cut a.failed b.failed refl w.failed;
}

-- ---- turns

pub turns_then : (limits : Limits) (s : State) (ts us : List Turn) → AreTurns limits s ts → AreTurns limits (after_records s (records_of ts)) us → AreTurns limits s (ts ++ us)
turns_then limits s [] us h k = k
turns_then limits s (t ∷ ts) us h k =
    (h.0, h.1, turns_then limits (after_records s t.given.records) ts us h.2 (subst (λ (x : State). AreTurns limits x us) (after_records-append s t.given.records (records_of ts)) k))

lines_behind : (ts us : List Turn) (ls ms : List (List ℕ)) → map (λ (t : Turn). t.line) ts ≡ ls → map (λ (t : Turn). t.line) us ≡ ms → map (λ (t : Turn). t.line) (ts ++ us) ≡ ls ++ ms
lines_behind ts us ls ms f g = map-append (λ (t : Turn). t.line) ts us ∙ ap (λ (l : List (List ℕ)). l ++ map (λ (t : Turn). t.line) us) f ∙ ap (λ (l : List (List ℕ)). ls ++ l) g

readings_behind : (ts us : List Turn) (told told1 told2 : List ℕ) → told1 ≡ told ++ map (λ (t : Turn). t.reading) ts → told2 ≡ told1 ++ map (λ (t : Turn). t.reading) us → told2 ≡ told ++ map (λ (t : Turn). t.reading) (ts ++ us)
readings_behind ts us told told1 told2 f g =
    g ∙ ap (λ (l : List ℕ). l ++ map (λ (t : Turn). t.reading) us) f ∙ append_assoc told (map (λ (t : Turn). t.reading) ts) (map (λ (t : Turn). t.reading) us) ∙ ap (λ (l : List ℕ). told ++ l) (sym (map-append (λ (t : Turn). t.reading) ts us))

module _ {D : Type 0} (disk : Ghosts D) (limits : Limits) (s : State) where
  -- nothing was done
  pub went_none : (store : Seen) (now : D) (sent : List Sent) (told : List ℕ) (faults : ℕ) → OnlyNow disk now → Stands store s (disk.held now) (disk.may_leave now) → Went disk limits s store now now sent sent told told faults faults []
  went_none store now sent told faults law stands = record {
    turns = [];
    of_lines = refl;
    answers = tt;
    written = λ before c is. (c, is, says_none c);
    read = sym (append-nil told);
    counted = refl;
    stands = stands;
    survives = survives_none disk store s now law stands;
  }

  -- a blank line is none
  pub heard_blank : (store : Seen) (now : D) (line : List ℕ) (sent : List Sent) (told : List ℕ) (faults : ℕ) → is_blank line ≡ true → OnlyNow disk now → Stands store s (disk.held now) (disk.may_leave now) → Went disk limits s store now now sent sent told told faults faults (heard line)
  heard_blank store now line sent told faults blank law stands = rw blank (went_none store now sent told faults law stands)

  module _ (store store1 : Seen) (old mid new : D) (sent sent1 sent2 : List Sent) (told told1 told2 : List ℕ) (faults faults1 faults2 : ℕ) (ls ms : List (List ℕ)) (f : Went disk limits s store old mid sent sent1 told told1 faults faults1 ls) (sooner : Sooner disk new) where
    pub went_then : Went disk limits (after_records s (records_of f.turns)) store1 mid new sent1 sent2 told1 told2 faults1 faults2 ms → Went disk limits s store1 old new sent sent2 told told2 faults faults2 (ls ++ ms)
    went_then g = record {
      turns = f.turns ++ g.turns;
      of_lines = lines_behind f.turns g.turns ls ms f.of_lines g.of_lines;
      answers = turns_then limits s f.turns g.turns f.answers g.answers;
      written = goes_then (Says f.turns) (Says g.turns) (Says (f.turns ++ g.turns)) (says_then f.turns g.turns) sent sent1 sent2 f.written g.written;
      read = readings_behind f.turns g.turns told told1 told2 f.read g.read;
      counted = g.counted ∙ f.counted;
      stands = subst (λ (x : State). Stands store1 x (disk.held new) (disk.may_leave new)) (state_then s f.turns g.turns) g.stands;
      survives = subst (λ (x : List (List Event)). Survives disk s x (f.turns ++ g.turns) old new) (sym (records-append f.turns g.turns))
          (survives_then disk s (records_of f.turns) (records_of g.turns) f.turns g.turns old mid new sooner f.survives g.survives refl);
    }

    pub stopped_then : (has_ended : Bool) → WentStopped disk limits (after_records s (records_of f.turns)) store1 mid new sent1 sent2 told1 told2 faults1 faults2 ms has_ended → WentStopped disk limits s store1 old new sent sent2 told told2 faults faults2 (ls ++ ms) has_ended
    stopped_then has_ended g =
        let more = g.turns ++ g.last ∷ [] in
        let same : f.turns ++ more ≡ (f.turns ++ g.turns) ++ g.last ∷ [] = sym (append_assoc f.turns g.turns (g.last ∷ [])) in
        record {
          turns = f.turns ++ g.turns;
          last = g.last;
          of_lines = ap (λ (l : List (List ℕ)). l ++ g.last.line ∷ []) (lines_behind f.turns g.turns ls (map (λ (t : Turn). t.line) g.turns) f.of_lines refl) ∙ append_assoc ls (map (λ (t : Turn). t.line) g.turns) (g.last.line ∷ []) ∙ ap (λ (l : List (List ℕ)). ls ++ l) g.of_lines;
          answers = turns_then limits s f.turns g.turns f.answers g.answers;
          is_turn = subst (λ (x : State). IsTurn limits x g.last) (state_then s f.turns g.turns) g.is_turn;
          is_stop = g.is_stop;
          ends = g.ends;
          written = goes_then (Says f.turns) (Stops g.turns g.last) (Stops (f.turns ++ g.turns) g.last) (stops_then f.turns g.turns g.last) sent sent1 sent2 f.written g.written;
          read = readings_behind f.turns more told told1 told2 f.read g.read ∙ ap (λ (l : List Turn). told ++ map (λ (t : Turn). t.reading) l) same;
          counted = subst (λ (n : ℕ). CountedBy g.last.given.is_cut n faults2) f.counted g.counted;
          leaves = subst (λ (x : State). Leaves disk g.last.given.how store1 x new) (state_then s f.turns more ∙ ap (λ (l : List Turn). after_records s (records_of l)) same) g.leaves;
          survives = subst (λ (x : List Turn). Survives disk s (records_of (f.turns ++ g.turns) ++ tried g.last.given) x old new) same
              (subst (λ (x : List (List Event)). Survives disk s x (f.turns ++ more) old new) (records_same f.turns g.turns (tried g.last.given))
              (survives_then disk s (records_of f.turns) (records_of g.turns ++ tried g.last.given) f.turns more old mid new sooner f.survives g.survives refl));
        }
      where
        records_same : (ts us : List Turn) (more : List (List Event)) → records_of ts ++ (records_of us ++ more) ≡ records_of (ts ++ us) ++ more
        records_same ts us more = sym (append_assoc (records_of ts) (records_of us) more) ∙ ap (λ (l : List (List Event)). l ++ more) (sym (records-append ts us))

-- what came of further lines, whichever it was
pub goes_further : {D : Type 0} (disk : Ghosts D) (limits : Limits) (s : State) (store store1 : Seen) (old mid new : D) (sent sent1 sent2 : List Sent) (told told1 told2 : List ℕ) (faults faults1 faults2 : ℕ) (ls ms : List (List ℕ)) (f : Went disk limits s store old mid sent sent1 told told1 faults faults1 ls) → Sooner disk new
    → (handled : Handled) → Goes disk handled limits (after_records s (records_of f.turns)) store1 mid new sent1 sent2 told1 told2 faults1 faults2 ms → Goes disk handled limits s store1 old new sent sent2 told told2 faults faults2 (ls ++ ms)
goes_further disk limits s store store1 old mid new sent sent1 sent2 told told1 told2 faults faults1 faults2 ls ms f sooner Answered g = went_then disk limits s store store1 old mid new sent sent1 sent2 told told1 told2 faults faults1 faults2 ls ms f sooner g
goes_further disk limits s store store1 old mid new sent sent1 sent2 told told1 told2 faults faults1 faults2 ls ms f sooner LinkLost g = stopped_then disk limits s store store1 old mid new sent sent1 sent2 told told1 told2 faults faults1 faults2 ls ms f sooner false g
goes_further disk limits s store store1 old mid new sent sent1 sent2 told told1 told2 faults faults1 faults2 ls ms f sooner DiskEnded g = stopped_then disk limits s store store1 old mid new sent sent1 sent2 told told1 told2 faults faults1 faults2 ls ms f sooner true g

-- ---- a line that was heard

goes_on_no_end : (how : How) → GoesOn how → ends_run how ≡ false
goes_on_no_end whole on = refl
goes_on_no_end refused_on_the_way on = refl
goes_on_no_end ended on = absurd on

counted_fine : (is_cut : Bool) (old new : ℕ) → is_cut ≡ false → CountedBy is_cut old new → new ≡ old
counted_fine true old new fine c = absurd cc
counted_fine false old new fine c = c

module _ {D : Type 0} (disk : Ghosts D) (limits : Limits) (s : State) (store : Seen) (line : List ℕ) (reading moment : ℕ) (old new : D) (sent new_sent : List Sent) (told new_told : List ℕ) (faults new_faults : ℕ)
    (some : is_blank line ≡ false) (used : moment ≡ moment_used s.present.floor reading) (sooner : Sooner disk new) (law : OnlyNow disk new) (read : new_told ≡ told ++ reading ∷ []) where
  module _ (handled : Handled) (x : Turned disk handled limits s line moment old new store sent new_sent faults new_faults) where
    abbrev turn : Turn
    turn = record { line = line; reading = reading; given = x.given }

    is_turn : IsTurn limits s turn
    is_turn = subst (λ (m : ℕ). IsGiven limits s line m x.given) used x.is_given

    survives : Survives disk s (tried x.given) (turn ∷ []) old new
    survives = survives_one disk s turn store old new sooner law x.noted x.leaves x.steps

    one_answered : GoesOn x.given.how → x.given.is_cut ≡ false → Went disk limits s store old new sent new_sent told new_told faults new_faults (heard line)
    one_answered on fine =
        let records : tried x.given ≡ records_of (turn ∷ []) = goes_on_tried x.given.how x.given.reply.records x.given.records on ∙ sym (append-nil x.given.records) in
        record {
          turns = turn ∷ [];
          of_lines = rw some refl;
          answers = (is_turn, record { not_cut = fine; goes_on = on }, tt);
          written = goes_as (GivenTo x.given) (Says (turn ∷ [])) (λ (a b : Sent) (w : GivenTo x.given a b). says_one turn a b fine w) sent new_sent x.written;
          read = read;
          counted = counted_fine x.given.is_cut faults new_faults fine x.counted;
          stands = subst (λ (r : List (List Event)). Stands store (after_records s r) (disk.held new) (disk.may_leave new)) (sym (append-nil x.given.records)) (goes_on_stands disk x.given.how store (after_records s x.given.records) new on x.leaves);
          survives = subst (λ (r : List (List Event)). Survives disk s r (turn ∷ []) old new) records survives;
        }

    one_stopped : (has_ended : Bool) → ends_run x.given.how ≡ has_ended → IsStop turn → WentStopped disk limits s store old new sent new_sent told new_told faults new_faults (heard line) has_ended
    one_stopped has_ended ends stop = record {
      turns = [];
      last = turn;
      of_lines = rw some refl;
      answers = tt;
      is_turn = is_turn;
      is_stop = stop;
      ends = ends;
      written = goes_as (GivenTo x.given) (Stops [] turn) (λ (a b : Sent) (w : GivenTo x.given a b). stops_one turn a b w) sent new_sent x.written;
      read = read;
      counted = x.counted;
      leaves = subst (λ (r : List (List Event)). Leaves disk x.given.how store (after_records s r) new) (sym (append-nil x.given.records)) x.leaves;
      survives = survives;
    }

  pub heard_one : (handled : Handled) → Turned disk handled limits s line moment old new store sent new_sent faults new_faults → Goes disk handled limits s store old new sent new_sent told new_told faults new_faults (heard line)
  heard_one Answered x = one_answered Answered x x.suits.0 x.suits.1
  heard_one LinkLost x = one_stopped LinkLost x false (goes_on_no_end x.given.how x.suits.0) (inl x.suits.1)
  heard_one DiskEnded x = one_stopped DiskEnded x true (ap ends_run x.suits) (inr x.suits)
