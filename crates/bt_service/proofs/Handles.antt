-- A reply, written.
use Rattle.std.proofs.Common.{◌≡◌, ℕ, Bool, true, false, List, [], ◌++◌, refl, ap, ◌∙◌, subst, arith}
use Rattle.std.proofs.lemmas.Bool.Decides.{nat_tests}
use Rattle.std.proofs.lemmas.List.{append-nil}
use Rattle.std.specs.Prelude.{Result, Ok, Err}
use Rattle.bt_base.specs.Counts.{Counts, Risen, counted}
use Rattle.bt_outside.specs.Links.{Sent}
use Rattle.bt_outside.specs.declared.disk.Disk.{Ghosts}
use Rattle.bt_plans.specs.Replies.{Reply}
use Rattle.bt_send.specs.Writes.{Sends, has_failed}
use Rattle.bt_service.specs.Outcomes.{SaysSo, handled_by, has_ended}
use Rattle.bt_service.specs.Steps.{CountedBy, EndsIf, MadeBy, Suits, Turned}
use Rattle.bt_service.specs.Turns.{Given, GoesSo, How, IsReply, IsWritten, unless_too_large}
use Rattle.bt_service.specs.declared.outcome.Outcome.{Outcome}
use Rattle.bt_state.specs.State.{Event, State}
use Rattle.bt_store.specs.Stands.{Seen}
use Rattle.bt_store.specs.declared.limits.Limits.{Limits}

pub counted_risen : (old new : ℕ) → new ≡ counted old → Risen old new
counted_risen old new is = grind (arith, nat_tests)

suits : {T E : Type 0} (ends : Bool) (w : Result T E) (given : Given) → EndsIf ends given.how → given.is_cut ≡ has_failed w → Suits (handled_by ends w) given
suits true w given end cut = end
suits false (Ok x) given end cut = (end, cut)
suits false (Err x) given end cut = (end, cut)

-- what goes with a reply as far as it was written
written_so : (b : Bool) (how : How) (r : Reply) (out rest : List ℕ) (records : List (List Event)) → (b ≡ false → rest ≡ []) → GoesSo how r (out ++ rest) records → IsWritten b how r out records
written_so true how r out rest records all goes = (rest, goes)
written_so false how r out rest records all goes = subst (λ (o : List ℕ). GoesSo how r o records) (ap (λ (l : List ℕ). out ++ l) (all refl) ∙ append-nil out) goes

counted_by : {T E : Type 0} (w : Result T E) (faults new_faults : ℕ) → Counts faults new_faults w → CountedBy (has_failed w) faults new_faults
counted_by (Ok x) faults new_faults counts = counts.fine refl
counted_by (Err x) faults new_faults counts = counted_risen faults new_faults (counts.failed refl)

module _ {D : Type 0} (disk : Ghosts D) (limits : Limits) (s : State) (line : List ℕ) (m : ℕ) (old new : D) (store : Seen) (outcome : Outcome)
    (made : MadeBy disk limits s s.present m line old new store outcome) where
  is_reply : IsReply limits s line m (unless_too_large limits s.present made.reply)
  unfolding IsReply
  is_reply = (made.reply, made.is_reply, refl)

  -- the reply was written, or a part of it
  pub turned : {T E : Type 0} (w : Result T E) (sent new_sent : List Sent) (faults new_faults : ℕ) → Sends (SaysSo store.present outcome) (has_failed w) (disk.moment new) sent new_sent → Counts faults new_faults w
      → Turned disk (handled_by (has_ended outcome) w) limits s line m old new store sent new_sent faults new_faults
  turned w sent new_sent faults new_faults sends counts =
      let it = made.makes (sends.out ++ sends.rest) sends.goes_so in
      let given : Given =
      record { reply = unless_too_large limits s.present made.reply; how = it.how; out = sends.out; is_cut = has_failed w; ends = sends.ends; noted = disk.moment new; records = it.records }
      in
      record {
        given = given;
        is_given = record {
          is_reply = is_reply;
          is_written = written_so (has_failed w) it.how (unless_too_large limits s.present made.reply) sends.out sends.rest it.records sends.all it.goes;
          are_ends = sends.are_ends;
        };
        suits = suits (has_ended outcome) w given it.ends refl;
        written = sends.written;
        noted = refl;
        counted = counted_by w faults new_faults counts;
        leaves = it.leaves;
        steps = it.steps;
      }
