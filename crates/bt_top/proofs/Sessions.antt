-- One connection after another.
use Rattle.std.proofs.Common.{◌≡◌, inl, inr, ℕ, ◌+◌, List, [], ◌∷◌, ◌++◌, ◌||◌, refl, sym, ap, subst, ◌∙◌, arith, append_assoc, length-append, Bool, true, false, Option, Some}
use Rattle.std.specs.List.{flat_map, list_any}
use Rattle.std.proofs.lemmas.Grind.{flat_map-append}
use Rattle.std.proofs.Math.Bool.{or-false}
use Rattle.std.proofs.lemmas.Bool.{or_parts}
use Rattle.std.proofs.lemmas.List.{append-nil}
use Rattle.std.proofs.lemmas.List.Folds.{list_any-append}
use Rattle.bt_base.specs.Counts.{counted, Risen}
use Rattle.bt_crash.proofs.Chains.{OnlyNow}
use Rattle.bt_outside.specs.Links.{Sent, fresh, WentOn}
use Rattle.bt_outside.specs.declared.disk.Disk.{Ghosts}
use Rattle.bt_service.specs.Steps.{CountedBy}
use Rattle.bt_service.specs.Turns.{How, Turn, ended, records_of, refused_on_the_way, tried_by, whole}
use Rattle.bt_service.proofs.Handles.{counted_risen}
use Rattle.bt_state.specs.State.{Event, State, after_records}
use Rattle.bt_store.specs.Stands.{Seen, Stands}
use Rattle.bt_store.specs.declared.limits.Limits.{Limits}
use Rattle.bt_top.specs.Crashes.{AreAcknowledged, Survives}
use Rattle.bt_top.specs.Ends.{AreWhole, Blamed, Ended, EndedSession, IsWholeTalk, Ran, is_disk_fault}
use Rattle.bt_top.specs.Runs.{AreSent, AreTalks, IsLastIf, IsSent, IsStop, IsTalk, Last, Talk, all_records, all_tried, all_turns, closed, cut, ends_run, has_ended, has_failed, last_tried, out_of, stopped, stopped_of, talk_ended, talk_failed, talk_readings, talk_records, talk_tried, turns_of, unread}
use Rattle.bt_top.specs.Steps.{LeavesIf, Talked}
use Rattle.bt_top.specs.declared.exit.Exit.{Exit}
use Rattle.bt_top.proofs.Survivals.{Sooner, after_records-append, survives_none, survives_then}

-- ---- lists

any_last : {A : Type 0} (p : A → Bool) (xs : List A) (x : A) → list_any p (xs ++ x ∷ []) ≡ list_any p xs || p x
any_last p xs x = list_any-append p xs (x ∷ []) ∙ ap (λ (b : Bool). list_any p xs || b) (or-false (p x))

flat_last : {A B : Type 0} (f : A → List B) (xs : List A) (x : A) → flat_map f (xs ++ x ∷ []) ≡ flat_map f xs ++ f x
flat_last f xs x = flat_map-append f xs (x ∷ []) ∙ ap (λ l. flat_map f xs ++ l) (append-nil (f x))

-- ---- counts

risen_then : (f m n : ℕ) → Risen f m → Risen m n → Risen f n
risen_then f m n (inl a) (inl b) = inl (omega (arith, a.0, b.0), b.1)
risen_then f m n (inl a) (inr b) = inr b
risen_then f m n (inr a) (inl b) = absurd (omega (arith, a, b.0, b.1))
risen_then f m n (inr a) (inr b) = inr b

blamed_then : (b d : Bool) (f m n : ℕ) → Blamed b f m → CountedBy d m n → Blamed (b || d) f n
blamed_then true false f m n h k = subst (λ (x : ℕ). Risen f x) (sym k) h
blamed_then true true f m n h k = risen_then f m n h k
blamed_then false false f m n (inl h) k = inl (k ∙ h)
blamed_then false false f m n (inr h) k = inr (subst (λ (x : ℕ). Risen f x) (sym k) h)
blamed_then false true f m n (inl h) k = subst (λ (x : ℕ). Risen x n) h k
blamed_then false true f m n (inr h) k = risen_then f m n h k

pub blamed_next : (b : Bool) (f m n : ℕ) → Blamed b f m → n ≡ counted m → Blamed b f n
blamed_next true f m n h k = risen_then f m n h (counted_risen m n k)
blamed_next false f m n (inl h) k = inr (subst (λ (x : ℕ). Risen x n) h (counted_risen m n k))
blamed_next false f m n (inr h) k = inr (risen_then f m n h (counted_risen m n k))

pub same_blame : (f f1 f2 : ℕ) → f2 ≡ f1 → (b : Bool) → Blamed b f f1 → Blamed b f f2
same_blame f f1 f2 is b h = subst (λ (x : ℕ). Blamed b f x) (sym is) h

-- ---- talks

going_if : (b : Bool) (more : List (List ℕ)) → b ≡ false → IsLastIf b more
going_if true more e = absurd (cc)
going_if false more e = tt

last_here : (b : Bool) → IsLastIf b []
last_here true = refl
last_here false = tt

talks_then : (limits : Limits) (s : State) (served : List (List ℕ)) (talks : List Talk) (bytes : List ℕ) (t : Talk) → AreTalks limits s served talks → list_any talk_ended talks ≡ false → IsTalk limits (after_records s (all_records talks)) bytes t → AreTalks limits s (served ++ bytes ∷ []) (talks ++ t ∷ [])
talks_then limits s [] [] bytes t h e k = (k, last_here (talk_ended t), tt)
talks_then limits s [] (u ∷ us) bytes t h e k = absurd h
talks_then limits s (b ∷ bs) [] bytes t h e k = absurd h
talks_then limits s (b ∷ bs) (u ∷ us) bytes t h e k =
    let parts = or_parts (talk_ended u) (list_any talk_ended us) e in
    (h.0, going_if (talk_ended u) (bs ++ bytes ∷ []) parts.0, talks_then limits (after_records s (talk_records u)) bs us bytes t h.2 parts.1 (subst (λ (x : State). IsTalk limits x bytes t) (after_records-append s (talk_records u) (all_records us)) k))

sent_then : (talks : List Talk) (made : List Sent) (t : Talk) (d : Sent) → AreSent talks made → IsSent t d → AreSent (talks ++ t ∷ []) (made ++ d ∷ [])
sent_then [] [] t d h k = (k, tt)
sent_then [] (c ∷ cs) t d h k = absurd h
sent_then (u ∷ us) [] t d h k = absurd h
sent_then (u ∷ us) (c ∷ cs) t d h k = (h.0, sent_then us cs t d h.1 k)

-- ---- records that a crash may find

tried_same : (how : How) (all records : List (List Event)) → ends_run how ≡ false → tried_by how all records ≡ records
tried_same whole all records e = refl
tried_same refused_on_the_way all records e = refl
tried_same ended all records e = absurd (cc)

last_same : (last : Last) → has_ended last ≡ false → last_tried last ≡ records_of (stopped_of last)
last_same (closed ending) e = refl
last_same unread e = refl
last_same (stopped turn) e = tried_same turn.given.how turn.given.reply.records turn.given.records e ∙ sym (append-nil turn.given.records)
last_same (cut ending) e = refl

-- unless the run ended, those are the records that are there
pub talk_same : (t : Talk) → talk_ended t ≡ false → talk_tried t ≡ talk_records t
talk_same t e = ap (λ (x : List (List Event)). records_of t.answered ++ x) (last_same t.last e) ∙ sym (flat_map-append (λ (u : Turn). u.given.records) t.answered (stopped_of t.last))

pub talks_same : (talks : List Talk) → list_any talk_ended talks ≡ false → all_tried talks ≡ all_records talks
talks_same [] e = refl
talks_same (t ∷ ts) e =
    let parts = or_parts (talk_ended t) (list_any talk_ended ts) e in
    ap (λ (x : List (List Event)). x ++ all_tried ts) (talk_same t parts.0) ∙ ap (λ (x : List (List Event)). talk_records t ++ x) (talks_same ts parts.1)

records_of_turns : (talks : List Talk) → records_of (all_turns talks) ≡ all_records talks
records_of_turns [] = refl
records_of_turns (t ∷ ts) = flat_map-append (λ (u : Turn). u.given.records) (turns_of t) (all_turns ts) ∙ ap (λ (x : List (List Event)). talk_records t ++ x) (records_of_turns ts)

-- ---- whole talks

not_stopped : (turn : Turn) → turn.given.is_cut ≡ false → ends_run turn.given.how ≡ false → IsStop turn → ⊥
not_stopped turn whole_out goes (inl is) = absurd (cc)
not_stopped turn whole_out goes (inr is) = let e = ap ends_run is in absurd (cc)

whole_of : (limits : Limits) (s : State) (bytes : List ℕ) (answered : List Turn) (last : Last) → has_failed last ≡ false → has_ended last ≡ false → IsTalk limits s bytes (record { answered = answered; last = last }) → IsWholeTalk limits s bytes (record { answered = answered; last = last })
whole_of limits s bytes answered (closed ending) e f h = record {
  lines = sym h.ends.0;
  answers = h.answers;
  out = ap (λ (ts : List Turn). out_of ts ++ ending) (append-nil answered) ∙ ap (λ (x : List ℕ). out_of answered ++ x) h.ends.1;
}
whole_of limits s bytes answered unread e f h = absurd (cc)
whole_of limits s bytes answered (stopped turn) e f h = absurd (not_stopped turn e f h.ends.2)
whole_of limits s bytes answered (cut ending) e f h = absurd (cc)

whole_all : (limits : Limits) (s : State) (served : List (List ℕ)) (talks : List Talk) (made : List Sent) → AreTalks limits s served talks → AreSent talks made → list_any talk_ended talks ≡ false → list_any (λ (c : Sent). c.failed) made ≡ false → AreWhole limits s served talks
whole_all limits s [] talks made h m e f = tt
whole_all limits s (b ∷ bs) [] made h m e f = absurd h
whole_all limits s (b ∷ bs) (u ∷ us) [] h m e f = absurd m
whole_all limits s (b ∷ bs) (u ∷ us) (c ∷ cs) h m e f =
    let calm = or_parts c.failed (list_any (λ (x : Sent). x.failed) cs) f in
    let going = or_parts (talk_ended u) (list_any talk_ended us) e in
    (whole_of limits s b u.answered u.last (sym m.0.failed ∙ calm.0) going.0 h.0, whole_all limits (after_records s (talk_records u)) bs us cs h.2 m.1 going.1 calm.1)

calm_of : (b : Bool) (f n : ℕ) → Blamed b f n → (Risen f n → ⊥) → b ≡ false
calm_of true f n h k = absurd (k h)
calm_of false f n h k = refl

complete_of : (limits : Limits) (s : State) (served : List (List ℕ)) (talks : List Talk) (made : List Sent) (b : Bool) (f n : ℕ) → AreTalks limits s served talks → AreSent talks made → list_any talk_ended talks ≡ b → Blamed (list_any (λ (c : Sent). c.failed) made) f n → b ≡ false → (Risen f n → ⊥) → AreWhole limits s served talks
complete_of limits s served talks made b f n h m ends cause going k = whole_all limits s served talks made h m (ends ∙ going) (calm_of (list_any (λ (c : Sent). c.failed) made) f n cause k)

-- ---- crashes

no_turn : (before : List Turn) (turn : Turn) (behind : List Turn) → [] ≡ before ++ turn ∷ behind → ⊥
no_turn [] turn behind e = absurd (cc)
no_turn (t ∷ ts) turn behind e = absurd (cc)

-- of no turns none is acknowledged
pub none_acknowledged : {P : Type 0} (t n : ℕ) → AreAcknowledged t [] n → P
none_acknowledged t n a = absurd (no_turn a.before a.turn a.behind a.stands)

-- ---- the session so far

-- From this state, so many connections were served, and the last one ended the run or none did.
pub record SoFar {D : Type 0} (disk : Ghosts D) (ended_it : Bool) (limits : Limits) (s : State) (store : Seen) (old now : D) (left new_left : List (List ℕ)) (sent new_sent : List Sent) (told new_told : List ℕ) (number faults new_faults : ℕ) : Type 0 where
  pub new : State
  pub ran : Ran ended_it limits s new left new_left sent new_sent told new_told number faults new_faults
  pub ends : list_any talk_ended ran.run.talks ≡ ended_it
  pub leaves : LeavesIf disk ended_it store new now
  pub survives : Survives disk s (all_tried ran.run.talks) (all_turns ran.run.talks) old now

pub ran_none : {D : Type 0} (disk : Ghosts D) (limits : Limits) (s : State) (store : Seen) (old : D) (left : List (List ℕ)) (sent : List Sent) (told : List ℕ) (f : ℕ) → OnlyNow disk old → Stands store s (disk.held old) (disk.may_leave old)
    → SoFar disk false limits s store old old left left sent sent told told 0 f f
ran_none disk limits s store old left sent told f law stands = record {
  new = s;
  ran = record {
    served = [];
    readings = [];
    made = [];
    records = [];
    run = record { talks = []; each = tt; read = refl; written = tt; changed = refl; kept = refl };
    count = refl;
    taken = refl;
    written = sym (append-nil sent);
    read = sym (append-nil told);
    cause = inl refl;
    complete = λ going k. tt;
  };
  ends = refl;
  leaves = stands;
  survives = survives_none disk store s old law stands;
}

pub ran_more : {D : Type 0} (disk : Ghosts D) (ended_it : Bool) (limits : Limits) (s : State) (store store1 : Seen) (old mid now : D) (left left1 left2 : List (List ℕ)) (sent sent1 sent2 sent3 : List Sent) (told told1 told2 : List ℕ) (number f f1 f2 : ℕ) (bytes : List ℕ)
    (r : SoFar disk false limits s store old mid left left1 sent sent1 told told1 number f f1) → Sooner disk now → left1 ≡ bytes ∷ left2 → sent2 ≡ sent1 ++ fresh ∷ [] → Talked disk ended_it limits r.new store1 bytes mid now sent2 sent3 told1 told2 f1 f2
    → SoFar disk ended_it limits s store1 old now left left2 sent sent3 told told2 (number + 1) f f2
ran_more disk ended_it limits s store store1 old mid now left left1 left2 sent sent1 sent2 sent3 told told1 told2 number f f1 f2 bytes r sooner l n t =
    let ran = r.ran in
    let talks = ran.run.talks in
    let d = t.written sent1 n in
    let state : r.new ≡ after_records s (all_records talks) = ran.run.kept ∙ ap (after_records s) ran.run.changed in
    let same : all_tried talks ≡ all_records talks = talks_same talks r.ends in
    let each : AreTalks limits s (ran.served ++ bytes ∷ []) (talks ++ t.talk ∷ []) = talks_then limits s ran.served talks bytes t.talk ran.run.each r.ends (subst (λ (x : State). IsTalk limits x bytes t.talk) state t.is_talk) in
    let sent_all : AreSent (talks ++ t.talk ∷ []) (ran.made ++ d.0 ∷ []) = sent_then talks ran.made t.talk d.0 ran.run.written d.2 in
    let ends : list_any talk_ended (talks ++ t.talk ∷ []) ≡ ended_it = any_last talk_ended talks t.talk ∙ ap (λ (b : Bool). b || talk_ended t.talk) r.ends ∙ t.ends in
    let marks : list_any (λ (c : Sent). c.failed) (ran.made ++ d.0 ∷ []) ≡ list_any (λ (c : Sent). c.failed) ran.made || talk_failed t.talk = any_last (λ (c : Sent). c.failed) ran.made d.0 ∙ ap (λ (b : Bool). list_any (λ (c : Sent). c.failed) ran.made || b) d.2.failed in
    let cause : Blamed (list_any (λ (c : Sent). c.failed) (ran.made ++ d.0 ∷ [])) f f2 = subst (λ (b : Bool). Blamed b f f2) (sym marks) (blamed_then (list_any (λ (c : Sent). c.failed) ran.made) (talk_failed t.talk) f f1 f2 ran.cause t.counted) in
    let survives : Survives disk s (all_tried talks ++ talk_tried t.talk) (all_turns talks ++ turns_of t.talk) old now = survives_then disk s (all_tried talks) (talk_tried t.talk) (all_turns talks) (turns_of t.talk) old mid now sooner r.survives
    (subst (λ (x : State). Survives disk x (talk_tried t.talk) (turns_of t.talk) mid now) (state ∙ ap (after_records s) (sym same)) t.survives) (records_of_turns talks ∙ sym same) in
    record {
      new = after_records r.new (talk_records t.talk);
      ran = record {
        served = ran.served ++ bytes ∷ [];
        readings = ran.readings ++ talk_readings t.talk;
        made = ran.made ++ d.0 ∷ [];
        records = ran.records ++ talk_records t.talk;
        run = record {
          talks = talks ++ t.talk ∷ [];
          each = each;
          read = ap (λ (x : List ℕ). x ++ talk_readings t.talk) ran.run.read ∙ sym (flat_last talk_readings talks t.talk);
          written = sent_all;
          changed = ap (λ (x : List (List Event)). x ++ talk_records t.talk) ran.run.changed ∙ sym (flat_last talk_records talks t.talk);
          kept = ap (λ (x : State). after_records x (talk_records t.talk)) ran.run.kept ∙ sym (after_records-append s ran.records (talk_records t.talk));
        };
        count = omega (arith, ran.count, length-append ran.served (bytes ∷ []));
        taken = ran.taken ∙ ap (λ (x : List (List ℕ)). ran.served ++ x) l ∙ sym (append_assoc ran.served (bytes ∷ []) left2);
        written = d.1 ∙ ap (λ (x : List Sent). x ++ d.0 ∷ []) ran.written ∙ append_assoc sent ran.made (d.0 ∷ []);
        read = t.read ∙ ap (λ (x : List ℕ). x ++ talk_readings t.talk) ran.read ∙ append_assoc told ran.readings (talk_readings t.talk);
        cause = cause;
        complete = complete_of limits s (ran.served ++ bytes ∷ []) (talks ++ t.talk ∷ []) (ran.made ++ d.0 ∷ []) ended_it f f2 each sent_all ends cause;
      };
      ends = ends;
      leaves = t.leaves;
      survives = subst (λ (x : List (List Event)). Survives disk s x (all_turns (talks ++ t.talk ∷ [])) old now) (sym (flat_last talk_tried talks t.talk))
          (subst (λ (x : List Turn). Survives disk s (all_tried talks ++ talk_tried t.talk) x old now) (sym (flat_last turns_of talks t.talk)) survives);
    }

-- nothing more was served
pub ran_still : {D : Type 0} (disk : Ghosts D) (ended_it : Bool) (limits : Limits) (s : State) (store : Seen) (old now : D) (left left1 left2 : List (List ℕ)) (sent sent1 sent2 : List Sent) (told told1 : List ℕ) (number f f1 f2 : ℕ)
    → SoFar disk ended_it limits s store old now left left1 sent sent1 told told1 number f f1 → left2 ≡ left1 → sent2 ≡ sent1 → ((b : Bool) → Blamed b f f1 → Blamed b f f2)
    → SoFar disk ended_it limits s store old now left left2 sent sent2 told told1 number f f2
ran_still disk ended_it limits s store old now left left1 left2 sent sent1 sent2 told told1 number f f1 f2 r l n cause =
    let ran = r.ran in
    let blamed = cause (list_any (λ (c : Sent). c.failed) ran.made) ran.cause in
    record {
      new = r.new;
      ran = record {
        served = ran.served;
        readings = ran.readings;
        made = ran.made;
        records = ran.records;
        run = ran.run;
        count = ran.count;
        taken = ran.taken ∙ ap (λ (x : List (List ℕ)). ran.served ++ x) (sym l);
        written = n ∙ ran.written;
        read = ran.read;
        cause = blamed;
        complete = complete_of limits s ran.served ran.run.talks ran.made ended_it f f2 ran.run.each ran.run.written r.ends blamed;
      };
      ends = r.ends;
      leaves = r.leaves;
      survives = r.survives;
    }

pub ran_as : {D : Type 0} (disk : Ghosts D) (b d : Bool) (limits : Limits) (s : State) (store : Seen) (old now : D) (left left1 : List (List ℕ)) (sent sent1 : List Sent) (told told1 : List ℕ) (number f f1 : ℕ)
    → b ≡ d → SoFar disk b limits s store old now left left1 sent sent1 told told1 number f f1 → SoFar disk d limits s store old now left left1 sent sent1 told told1 number f f1
ran_as disk b d limits s store old now left left1 sent sent1 told told1 number f f1 is r = subst (λ (x : Bool). SoFar disk x limits s store old now left left1 sent sent1 told told1 number f f1) is r

pub ended_session : {D : Type 0} (disk : Ghosts D) (exit : Exit) (limits : Limits) (count : ℕ) (s : State) (store : Seen) (old now : D) (left left1 : List (List ℕ)) (sent sent1 : List Sent) (told told1 : List ℕ) (number f f1 : ℕ)
    → Ended exit count number left1 → SoFar disk (is_disk_fault exit) limits s store old now left left1 sent sent1 told told1 number f f1 → EndedSession disk exit limits count s store old now left left1 sent sent1 told told1 f f1
ended_session disk exit limits count s store old now left left1 sent sent1 told told1 number f f1 is r = record { new = r.new; number = number; ended = is; ran = r.ran; ends = r.ends; leaves = r.leaves; survives = r.survives }

pub went_as : (b d : Bool) (left new_left : List (List ℕ)) (hand : Option (List ℕ)) (sent new_sent : List Sent) → b ≡ d → WentOn b left new_left hand sent new_sent → WentOn d left new_left hand sent new_sent
went_as b d left new_left hand sent new_sent is h = subst (λ (x : Bool). WentOn x left new_left hand sent new_sent) is h

-- a connection came, was served and left
pub ran_next : {D : Type 0} (disk : Ghosts D) (b ended_it : Bool) (limits its : Limits) (s : State) (store store1 : Seen) (old mid now : D) (left left1 left2 left3 : List (List ℕ)) (hand : Option (List ℕ)) (sent sent1 sent2 sent3 sent4 : List Sent) (told told1 told2 : List ℕ) (number f f1 f2 f3 f4 : ℕ)
    (r : SoFar disk false limits s store old mid left left1 sent sent1 told told1 number f f1) → Sooner disk now → b ≡ true → WentOn b left1 left2 hand sent1 sent2 → f2 ≡ f1 → its ≡ limits
    → ((bytes : List ℕ) → hand ≡ Some bytes → Talked disk ended_it its r.new store1 bytes mid now sent2 sent3 told1 told2 f2 f3) → left3 ≡ left2 → sent4 ≡ sent3 → f4 ≡ f3
    → SoFar disk ended_it limits s store1 old now left left3 sent sent4 told told2 (number + 1) f f4
ran_next disk b ended_it limits its s store store1 old mid now left left1 left2 left3 hand sent sent1 sent2 sent3 sent4 told told1 told2 number f f1 f2 f3 f4 r sooner more came calm same talked l n stayed =
    let on = went_as b true left1 left2 hand sent1 sent2 more came in
    let talk = subst (λ (x : ℕ). Talked disk ended_it limits r.new store1 on.0 mid now sent2 sent3 told1 told2 x f3) calm
    (subst (λ (x : Limits). Talked disk ended_it x r.new store1 on.0 mid now sent2 sent3 told1 told2 f2 f3) same (talked on.0 on.2)) in
    ran_still disk ended_it limits s store1 old now left left2 left3 sent sent3 sent4 told told2 (number + 1) f f3 f4
    (ran_more disk ended_it limits s store store1 old mid now left left1 left2 sent sent1 sent2 sent3 told told1 told2 number f f1 f3 on.0 r sooner on.1 on.3 talk) l n (same_blame f f3 f4 stayed)
