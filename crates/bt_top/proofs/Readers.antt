-- A connection, as far as it was read.
use Rattle.std.proofs.Common.{◌≡◌, ◌≤◌, ◌<◌, ◌⊎◌, inl, inr, zero, suc, ℕ, ◌+◌, ◌-◌, List, [], ◌∷◌, ◌++◌, length, take, drop, map, refl, sym, ap, subst, ◌∙◌, arith, append_assoc, length-append, Option, Some, None, Bool, true, false, cond, take-append-drop}
use Rattle.std.specs.Prelude.{IsSome, Result, Ok, Err, OnOk, OnErr, leb}
use Rattle.std.specs.List.{position}
use Rattle.std.proofs.lemmas.Bool.Decides.{nat_tests}
use Rattle.std.proofs.lemmas.List.{append-nil}
use Rattle.bt_base.specs.Counts.{Counts, Risen}
use Rattle.bt_crash.proofs.Chains.{OnlyNow}
use Rattle.bt_outside.specs.Links.{Adds, AddsPart, LastGoes, Marks, Sent, fresh}
use Rattle.bt_outside.specs.declared.disk.Disk.{Ghosts}
use Rattle.bt_send.specs.Writes.{notes_at}
use Rattle.bt_send.proofs.Sending.{Part, WritesPart, goes_as, writes_part}
use Rattle.bt_service.specs.Steps.{CountedBy, Leaves}
use Rattle.bt_service.specs.Turns.{How, Turn, ended, records_of, refused_on_the_way, whole}
use Rattle.bt_service.proofs.Handles.{counted_risen}
use Rattle.bt_state.specs.State.{Event, State, after_records}
use Rattle.bt_store.specs.Stands.{Seen, Stands}
use Rattle.bt_store.specs.declared.limits.Limits.{Limits}
use Rattle.bt_top.specs.Crashes.{Survives}
use Rattle.bt_top.specs.Lines.{connection_too_long, ending_in, ending_of_connection, is_blank, is_lf, line_not_ended, line_too_long, lines_in, lines_of_connection}
use Rattle.bt_top.specs.Runs.{EndsSo, IsPrefix, Last, closed, cut, ending_out, ends_run, has_ended, has_failed, last_tried, notes_from, out_of, stopped, stopped_of, unread}
use Rattle.bt_top.specs.Steps.{BeginsWith, Divides, LeavesIf, Talked, Went, WentStopped}
use Rattle.bt_top.proofs.Buffers.{take_past}
use Rattle.bt_top.proofs.Divisions.{at_rest, rest_ending, too_long}
use Rattle.bt_top.proofs.Survivals.{Sooner}
use Rattle.bt_top.proofs.Trails.{stopped_then, went_none, went_then}

-- So many of its bytes were read, and the lines in them had their turns, but for this text.
pub record Reached {D : Type 0} (disk : Ghosts D) (limits : Limits) (s : State) (bytes : List ℕ) (hand : Option (List ℕ)) (text : List ℕ) (count : ℕ) (store : Seen) (old now : D) (sent new_sent : List Sent) (told new_told : List ℕ) (faults new_faults : ℕ) : Type 0 where
  pub lines : List (List ℕ)
  pub rest : List ℕ
  pub at_hand : hand ≡ Some rest
  pub went : Went disk limits s store old now sent new_sent told new_told faults new_faults lines
  pub of_lines : lines_of_connection limits bytes ≡ lines ++ lines_in limits.line (text ++ take (limits.connection - count) rest)
  pub of_ending : ending_of_connection limits bytes ≡ ending_in limits.line (leb limits.connection (length bytes)) (text ++ take (limits.connection - count) rest)
  pub counted : count + length rest ≡ length bytes

same_some : (x y : List ℕ) → Some x ≡ Some y → x ≡ y
same_some x y h = ap (λ (o : Option (List ℕ)). elim o as (λ _. List ℕ) [ None ↦ x | Some z ↦ z ]) h

take_nil : (n : ℕ) → ◌≡◌ {A = List ℕ} (take n []) []
take_nil zero = refl
take_nil (suc n) = refl

no_bytes : (xs : List ℕ) → length xs ≡ 0 → xs ≡ []
no_bytes [] h = refl
no_bytes (x ∷ xs) h = absurd (omega arith)

-- ---- what is written behind the turns

-- new is old with this text behind it; there may be further notes
record EndsWith (out : List ℕ) (is_cut : Bool) (old new : Sent) : Type 0 where
  bytes : new.bytes ≡ old.bytes ++ out
  notes : IsPrefix old.notes new.notes
  failed : old.failed ≡ false → new.failed ≡ is_cut

ends_quietly : (c : Sent) → EndsWith [] false c c
ends_quietly c = record { bytes = sym (append-nil c.bytes); notes = ([], sym (append-nil c.notes)); failed = λ fine. fine }

ends_marked : (a b : Sent) → Marks a b → EndsWith [] true a b
ends_marked a b m = record { bytes = m.bytes ∙ sym (append-nil a.bytes); notes = ([], m.notes ∙ sym (append-nil a.notes)); failed = λ fine. m.failed }

ends_added : (text : List ℕ) (m : ℕ) (a b : Sent) → Adds text m a b → EndsWith text false a b
ends_added text m a b x = record { bytes = x.bytes; notes = ((length b.bytes, m) ∷ [], x.notes); failed = λ fine. x.failed ∙ fine }

ends_cut : (text : List ℕ) (m : ℕ) (p : Part text) (a b : Sent) → WritesPart text m p a b → EndsWith (take p.0 text) true a b
ends_cut text m p a b x = record { bytes = x.bytes; notes = (notes_at (length a.bytes) m p.1, x.notes); failed = λ fine. x.failed }

-- ---- how a talk ends

leaves_if : {D : Type 0} (disk : Ghosts D) (how : How) (has_ended : Bool) (store : Seen) (s : State) (now : D) → ends_run how ≡ has_ended → Leaves disk how store s now → LeavesIf disk has_ended store s now
leaves_if disk whole false store s now ends l = l
leaves_if disk whole true store s now ends l = absurd cc
leaves_if disk refused_on_the_way false store s now ends l = l
leaves_if disk refused_on_the_way true store s now ends l = absurd cc
leaves_if disk ended false store s now ends l = absurd cc
leaves_if disk ended true store s now ends l = l

module _ {D : Type 0} (disk : Ghosts D) (limits : Limits) (s : State) (bytes : List ℕ) (old : D) (sent : List Sent) (told : List ℕ) (faults : ℕ) where
  -- nothing was read
  pub reached_start : (hand : Option (List ℕ)) (store : Seen) → OnlyNow disk old → Stands store s (disk.held old) (disk.may_leave old) → hand ≡ Some bytes → Reached disk limits s bytes hand [] 0 store old old sent sent told told faults faults
  reached_start hand store law stands is =
      let same : limits.connection ≡ limits.connection - 0 = omega arith in
      record {
        lines = [];
        rest = bytes;
        at_hand = is;
        went = went_none disk limits s store old sent told faults law stands;
        of_lines = ap (λ (k : ℕ). lines_in limits.line (take k bytes)) same;
        of_ending = ap (λ (k : ℕ). ending_in limits.line (leb limits.connection (length bytes)) (take k bytes)) same;
        counted = omega arith;
      }

  module _ (hand : Option (List ℕ)) (text : List ℕ) (count : ℕ) (store : Seen) (mid : D) (sent1 : List Sent) (told1 : List ℕ) (faults1 : ℕ) (r : Reached disk limits s bytes hand text count store old mid sent sent1 told told1 faults faults1) where
    abbrev future : List ℕ
    future = text ++ take (limits.connection - count) r.rest

    -- some bytes more were read
    pub reached_read : (new_hand : Option (List ℕ)) (new_text : List ℕ) (new_count n : ℕ) (new_sent : List Sent) (new_faults : ℕ) (got more : List ℕ) → new_sent ≡ sent1 → new_faults ≡ faults1 → count ≤ limits.connection → n ≤ limits.connection - count → hand ≡ Some (got ++ more) → new_hand ≡ Some more
        → length got ≡ n → new_text ≡ text ++ got → new_count ≡ count + n → Reached disk limits s bytes new_hand new_text new_count store old mid sent new_sent told told1 faults new_faults
    reached_read new_hand new_text new_count n new_sent new_faults got more quiet calm within fits is new_is size t k =
        let rest : r.rest ≡ got ++ more = same_some r.rest (got ++ more) (sym r.at_hand ∙ is) in
        let same : future ≡ new_text ++ take (limits.connection - new_count) more =
        ap (λ (x : List ℕ). text ++ take (limits.connection - count) x) rest
        ∙ ap (λ (x : List ℕ). text ++ x) (take_past got more (limits.connection - new_count) (limits.connection - count) (omega (arith, within, fits, size, k)))
        ∙ sym (append_assoc text got (take (limits.connection - new_count) more)) ∙ ap (λ (x : List ℕ). x ++ take (limits.connection - new_count) more) (sym t) in
        record {
          lines = r.lines;
          rest = more;
          at_hand = new_is;
          went = subst (λ (x : List Sent). Went disk limits s store old mid sent x told told1 faults new_faults r.lines) (sym quiet) (subst (λ (x : ℕ). Went disk limits s store old mid sent sent1 told told1 faults x r.lines) (sym calm) r.went);
          of_lines = r.of_lines ∙ ap (λ (x : List ℕ). r.lines ++ lines_in limits.line x) same;
          of_ending = r.of_ending ∙ ap (ending_in limits.line (leb limits.connection (length bytes))) same;
          counted = omega (arith, r.counted, ap length rest, length-append got more, size, k);
        }

    -- some lines more had their turns
    pub reached_lines : (its : Limits) (most : ℕ) (new_hand : Option (List ℕ)) (new_text : List ℕ) (new_store : Seen) (new : D) (new_sent : List Sent) (new_told : List ℕ) (new_faults : ℕ) (lines : List (List ℕ)) → its ≡ limits → most ≡ limits.line → Sooner disk new → new_hand ≡ hand
        → Went disk its (after_records s (records_of r.went.turns)) new_store mid new sent1 new_sent told1 new_told faults1 new_faults lines → Divides most text new_text lines
        → Reached disk limits s bytes new_hand new_text count new_store old new sent new_sent told new_told faults new_faults
    reached_lines its most new_hand new_text new_store new new_sent new_told new_faults lines same_limits same_most sooner same its_went divides =
        let rest = take (limits.connection - count) r.rest in
        let state = after_records s (records_of r.went.turns) in
        let went = subst (λ (l : Limits). Went disk l state new_store mid new sent1 new_sent told1 new_told faults1 new_faults lines) same_limits its_went in
        let d = subst (λ (n : ℕ). Divides n text new_text lines) same_most divides in
        record {
          lines = r.lines ++ lines;
          rest = r.rest;
          at_hand = same ∙ r.at_hand;
          went = went_then disk limits s store new_store old mid new sent sent1 new_sent told told1 new_told faults faults1 new_faults r.lines lines r.went sooner went;
          of_lines = r.of_lines ∙ ap (λ (x : List (List ℕ)). r.lines ++ x) (d.next_lines rest) ∙ sym (append_assoc r.lines lines (lines_in limits.line (new_text ++ rest)));
          of_ending = r.of_ending ∙ d.ending (leb limits.connection (length bytes)) rest;
          counted = r.counted;
        }

    -- a further line stopped the connection
    pub stopped_in : (has_ended : Bool) (its : Limits) (most : ℕ) (new_store : Seen) (new : D) (new_sent : List Sent) (new_told : List ℕ) (new_faults : ℕ) (lines : List (List ℕ)) → its ≡ limits → most ≡ limits.line → Sooner disk new
        → WentStopped disk its (after_records s (records_of r.went.turns)) new_store mid new sent1 new_sent told1 new_told faults1 new_faults lines has_ended → BeginsWith most text lines
        → Talked disk has_ended limits s new_store bytes old new sent new_sent told new_told faults new_faults
    stopped_in has_ended its most new_store new new_sent new_told new_faults lines same_limits same_most sooner its_went begins_so =
        let state = after_records s (records_of r.went.turns) in
        let went = subst (λ (l : Limits). WentStopped disk l state new_store mid new sent1 new_sent told1 new_told faults1 new_faults lines has_ended) same_limits its_went in
        let all = stopped_then disk limits s store new_store old mid new sent sent1 new_sent told told1 new_told faults faults1 new_faults r.lines lines r.went sooner has_ended went in
        let begins = subst (λ (n : ℕ). BeginsWith n text lines) same_most begins_so (take (limits.connection - count) r.rest) in
        let its_lines = r.of_lines ∙ ap (λ (x : List (List ℕ)). r.lines ++ x) begins.1 ∙ sym (append_assoc r.lines lines begins.0) ∙ ap (λ (x : List (List ℕ)). x ++ begins.0) (sym all.of_lines) in
        record {
          talk = record { answered = all.turns; last = stopped all.last };
          is_talk = record { answers = all.answers; ends = ((begins.0, its_lines), all.is_turn, all.is_stop) };
          ends = all.ends;
          read = all.read;
          written = λ before is.
              let one = all.written before fresh is in
              (one.0, one.1, record { bytes = one.2.bytes ∙ sym (append-nil (out_of (all.turns ++ all.last ∷ []))); failed = one.2.failed refl; notes = ([], one.2.notes ∙ sym (append-nil (notes_from 0 (all.turns ++ all.last ∷ [])))) });
          counted = all.counted;
          leaves = leaves_if disk all.last.given.how has_ended new_store (after_records s (records_of (all.turns ++ all.last ∷ []))) new all.ends all.leaves;
          survives = all.survives;
        }

    -- it ended behind its lines, and the run goes on
    talked_so : (last : Last) (new_sent : List Sent) (new_faults : ℕ) → stopped_of last ≡ [] → last_tried last ≡ [] → has_ended last ≡ false → EndsSo limits (after_records s (records_of r.went.turns)) bytes (map (λ u. u.line) r.went.turns) last
        → LastGoes (EndsWith (ending_out last) (has_failed last)) sent1 new_sent → CountedBy (has_failed last) faults new_faults → Talked disk false limits s store bytes old mid sent new_sent told told1 faults new_faults
    talked_so last new_sent new_faults no_turn no_records no_end ends goes counts =
        let turns = r.went.turns in
        let same : turns ≡ turns ++ stopped_of last = sym (ap (λ (l : List Turn). turns ++ l) no_turn ∙ append-nil turns) in
        let tries : records_of turns ≡ records_of turns ++ last_tried last = sym (ap (λ (l : List (List Event)). records_of turns ++ l) no_records ∙ append-nil (records_of turns)) in
        record {
          talk = record { answered = turns; last = last };
          is_talk = record { answers = r.went.answers; ends = ends };
          ends = no_end;
          read = r.went.read ∙ ap (λ (ts : List Turn). told ++ map (λ t. t.reading) ts) same;
          written = λ before is.
              let one = r.went.written before fresh is in
              let two = goes before one.0 one.1 in (
                two.0,
                two.1,
                record {
                  bytes = two.2.bytes ∙ ap (λ (l : List ℕ). l ++ ending_out last) one.2.bytes ∙ ap (λ (ts : List Turn). out_of ts ++ ending_out last) same;
                  failed = two.2.failed one.2.failed;
                  notes = (two.2.notes.0, two.2.notes.1 ∙ ap (λ (l : List (ℕ × ℕ)). l ++ two.2.notes.0) (one.2.notes ∙ ap (notes_from 0) same));
                },
              );
          counted = counts;
          leaves = subst (λ (ts : List Turn). Stands store (after_records s (records_of ts)) (disk.held mid) (disk.may_leave mid)) same r.went.stands;
          survives = subst (λ (ts : List Turn). Survives disk s (records_of turns ++ last_tried last) ts old mid) same (subst (λ (l : List (List Event)). Survives disk s l turns old mid) tries r.went.survives);
        }

    all_lines : lines_in limits.line future ≡ [] → lines_of_connection limits bytes ≡ map (λ u. u.line) r.went.turns
    all_lines no_more = r.of_lines ∙ ap (λ (x : List (List ℕ)). r.lines ++ x) no_more ∙ append-nil r.lines ∙ sym r.went.of_lines

    -- nothing is written behind the lines
    pub closed_quietly : (new_sent : List Sent) (new_faults : ℕ) → lines_in limits.line future ≡ [] → ending_in limits.line (leb limits.connection (length bytes)) future ≡ [] → new_sent ≡ sent1 → new_faults ≡ faults1 → Talked disk false limits s store bytes old mid sent new_sent told told1 faults new_faults
    closed_quietly new_sent new_faults no_more nothing same calm =
        talked_so (closed []) new_sent new_faults refl refl refl (all_lines no_more, sym (r.of_ending ∙ nothing)) (λ before c is. (c, same ∙ is, ends_quietly c)) (calm ∙ r.went.counted)

    -- a read failed
    pub left_unread : (new_sent : List Sent) (new_faults : ℕ) → LastGoes Marks sent1 new_sent → Risen faults1 new_faults → Talked disk false limits s store bytes old mid sent new_sent told told1 faults new_faults
    left_unread new_sent new_faults marks rose =
        talked_so unread new_sent new_faults refl refl refl
        (lines_in limits.line future, r.of_lines ∙ ap (λ (x : List (List ℕ)). x ++ lines_in limits.line future) (sym r.went.of_lines))
        (goes_as Marks (EndsWith [] true) ends_marked sent1 new_sent marks) (subst (λ (n : ℕ). Risen n new_faults) r.went.counted rose)

    -- a refusal is written behind the lines
    pub refused_behind : {T E : Type 0} (ending written : List ℕ) (m : ℕ) (w : Result T E) (new_sent : List Sent) (new_faults : ℕ) → written ≡ ending → lines_in limits.line future ≡ [] → ending_in limits.line (leb limits.connection (length bytes)) future ≡ ending
        → OnOk w (LastGoes (Adds written m) sent1 new_sent) → OnErr w (LastGoes (AddsPart written m) sent1 new_sent) → Counts faults1 new_faults w → Talked disk false limits s store bytes old mid sent new_sent told told1 faults new_faults
    refused_behind ending written m (Ok x) new_sent new_faults same no_more is wrote part counts =
        talked_so (closed ending) new_sent new_faults refl refl refl (all_lines no_more, sym (r.of_ending ∙ is))
        (subst (λ (l : List ℕ). LastGoes (EndsWith l false) sent1 new_sent) same (goes_as (Adds written m) (EndsWith written false) (ends_added written m) sent1 new_sent wrote)) (counts.fine refl ∙ r.went.counted)
    refused_behind ending written m (Err x) new_sent new_faults same no_more is wrote part counts =
        let piece = writes_part written m sent1 new_sent part in
        let n = piece.0.0 in
        let some = take n written in
        let whole : ending_of_connection limits bytes ≡ some ++ drop n written = r.of_ending ∙ is ∙ sym same ∙ sym (take-append-drop n written) in
        talked_so (cut some) new_sent new_faults refl refl refl (all_lines no_more, (drop n written, whole))
        (goes_as (WritesPart written m piece.0) (EndsWith some true) (ends_cut written m piece.0) sent1 new_sent piece.1) (subst (λ (n : ℕ). Risen n new_faults) r.went.counted (counted_risen faults1 new_faults (counts.failed refl)))

    -- the connection is at its end
    at_end : position is_lf text ≡ None → length text ≤ limits.line → count < limits.connection → hand ≡ Some [] → (lines_in limits.line future ≡ []) × (ending_in limits.line (leb limits.connection (length bytes)) future ≡ rest_ending false text)
    at_end none fits less is =
        let rest : r.rest ≡ [] = same_some r.rest [] (sym r.at_hand ∙ is) in
        let all : future ≡ text = ap (λ (x : List ℕ). text ++ take (limits.connection - count) x) rest ∙ ap (λ (x : List ℕ). text ++ x) (take_nil (limits.connection - count)) ∙ append-nil text in
        let size : length r.rest ≡ 0 = ap length rest in
        let short : length bytes < limits.connection = omega (arith, r.counted, size, less) in
        let part : leb limits.connection (length bytes) ≡ false = grind (arith, nat_tests) in
        let facts = at_rest limits.line false text none fits in
        (ap (lines_in limits.line) all ∙ facts.0, ap (ending_in limits.line (leb limits.connection (length bytes))) all ∙ ap (λ (b : Bool). ending_in limits.line b text) part ∙ facts.1)

    module _ (new_text got : List ℕ) (none : position is_lf text ≡ None) (fits : length text ≤ limits.line) (less : count < limits.connection) (is : hand ≡ Some []) (read : new_text ≡ text ++ got) (nothing : length got ≡ 0) where
      text_same : new_text ≡ text
      text_same = read ∙ ap (λ (x : List ℕ). text ++ x) (no_bytes got nothing) ∙ append-nil text

      pub ended_blank : (new_sent : List Sent) (new_faults : ℕ) → is_blank new_text ≡ true → new_sent ≡ sent1 → new_faults ≡ faults1 → Talked disk false limits s store bytes old mid sent new_sent told told1 faults new_faults
      ended_blank new_sent new_faults blank same calm =
          let facts = at_end none fits less is in
          let blank_too : is_blank text ≡ true = sym (ap is_blank text_same) ∙ blank in
          closed_quietly new_sent new_faults facts.0 (facts.1 ∙ ap (λ (b : Bool). cond b [] line_not_ended) blank_too) same calm

      pub ended_rest : {T E : Type 0} (written : List ℕ) (m : ℕ) (w : Result T E) (between : List Sent) (fault : ℕ) (new_sent : List Sent) (new_faults : ℕ) → written ≡ line_not_ended → is_blank new_text ≡ false → between ≡ sent1 → fault ≡ faults1
          → OnOk w (LastGoes (Adds written m) between new_sent) → OnErr w (LastGoes (AddsPart written m) between new_sent) → Counts fault new_faults w → Talked disk false limits s store bytes old mid sent new_sent told told1 faults new_faults
      ended_rest written m w between fault new_sent new_faults its blank same calm wrote part counts =
          let facts = at_end none fits less is in
          let some : is_blank text ≡ false = sym (ap is_blank text_same) ∙ blank in
          refused_behind line_not_ended written m w new_sent new_faults its facts.0 (facts.1 ∙ ap (λ (b : Bool). cond b [] line_not_ended) some)
          (subst (λ (x : List Sent). OnOk w (LastGoes (Adds written m) x new_sent)) same wrote) (subst (λ (x : List Sent). OnErr w (LastGoes (AddsPart written m) x new_sent)) same part) (subst (λ (n : ℕ). Counts n new_faults w) calm counts)

    -- as many bytes as are allowed were read
    pub all_read : {T E : Type 0} (written : List ℕ) (m : ℕ) (w : Result T E) (new_sent : List Sent) (new_faults : ℕ) → written ≡ connection_too_long → position is_lf text ≡ None → length text ≤ limits.line → count ≡ limits.connection
        → OnOk w (LastGoes (Adds written m) sent1 new_sent) → OnErr w (LastGoes (AddsPart written m) sent1 new_sent) → Counts faults1 new_faults w → Talked disk false limits s store bytes old mid sent new_sent told told1 faults new_faults
    all_read written m w new_sent new_faults its none fits full_count wrote part counts =
        let zero_left : limits.connection - count ≡ 0 = omega (arith, full_count) in
        let all : future ≡ text = ap (λ (k : ℕ). text ++ take k r.rest) zero_left ∙ append-nil text in
        let long : limits.connection ≤ length bytes = omega (arith, r.counted, full_count) in
        let full : leb limits.connection (length bytes) ≡ true = grind (arith, nat_tests) in
        let facts = at_rest limits.line true text none fits in
        refused_behind connection_too_long written m w new_sent new_faults its (ap (lines_in limits.line) all ∙ facts.0) (ap (ending_in limits.line (leb limits.connection (length bytes))) all ∙ ap (λ (b : Bool). ending_in limits.line b text) full ∙ facts.1) wrote part counts

    -- the line at hand is too long
    pub line_full : {T E : Type 0} (written : List ℕ) (m : ℕ) (w : Result T E) (new_sent : List Sent) (new_faults : ℕ) → written ≡ line_too_long → position is_lf text ≡ None → limits.line < length text
        → OnOk w (LastGoes (Adds written m) sent1 new_sent) → OnErr w (LastGoes (AddsPart written m) sent1 new_sent) → Counts faults1 new_faults w → Talked disk false limits s store bytes old mid sent new_sent told told1 faults new_faults
    line_full written m w new_sent new_faults its none long wrote part counts =
        let facts = too_long limits.line (leb limits.connection (length bytes)) text (take (limits.connection - count) r.rest) none long in
        refused_behind line_too_long written m w new_sent new_faults its facts.0 facts.1 wrote part counts

pub or_right : {P : Type 0} → ⊥ ⊎ P → P
or_right (inl x) = absurd x
or_right (inr x) = x

pub is_some_of : (o : Option (List ℕ)) (x : List ℕ) → o ≡ Some x → IsSome o
is_some_of o x h = subst (λ (p : Option (List ℕ)). IsSome p) (sym h) refl
