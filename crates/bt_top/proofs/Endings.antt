-- A run, from the loading of the tables on.
use Rattle.std.proofs.Common.{◌≡◌, inl, inr, ℕ, List, [], Bool, true, false, Result, Ok, refl, sym, subst, ◌∙◌, arith}
use Rattle.std.specs.Prelude.{IsOk}
use Rattle.std.proofs.lemmas.List.{append-nil}
use Rattle.bt_crash.specs.Changes.{HoldsSome}
use Rattle.bt_crash.specs.Moments.{Keeps}
use Rattle.bt_crash.proofs.Chains.{OnlyNow, begun, goes_through, none_some, weakens}
use Rattle.bt_gate.specs.declared.log_fault.LogFault.{LogFault}
use Rattle.bt_gate.specs.declared.log_fault.LogFault.TheVariants as fault
use Rattle.bt_outside.specs.Disk.{Files}
use Rattle.bt_outside.specs.Links.{Sent}
use Rattle.bt_outside.specs.declared.disk.Disk.{Ghosts}
use Rattle.bt_service.specs.Turns.{Turn}
use Rattle.bt_state.specs.State.{Event, State, after_record}
use Rattle.bt_store.specs.Held.{HoldsState, IsSound, LikeSome, Place, disk_state}
use Rattle.bt_store.specs.Stands.{Seen}
use Rattle.bt_store.specs.declared.limits.Limits.{Limits}
use Rattle.bt_store.proofs.Holds.{holds_same, reads_log}
use Rattle.bt_top.specs.Crashes.{IsBeforeOrAfter, Survives, SurvivesFrom}
use Rattle.bt_top.specs.Ends.{Ended, EndedRun, EndedSession, IsOfLoading, exit_of, is_disk_fault}
use Rattle.bt_top.specs.Steps.{LeavesIf}
use Rattle.bt_top.specs.declared.exit.Exit.{Exit}
use Rattle.bt_top.proofs.Sessions.{none_acknowledged}

-- ---- images

sound_at : (c : Files) (s : State) → HoldsState s c → IsSound c
sound_at c s h = subst (λ (r : Result State Place). IsOk r) (sym h) refl

sound_like : (images : Files → Type 0) (c : Files) → LikeSome images c → ((d : Files) → images d → IsSound d) → IsSound c
sound_like images c like all = subst (λ (r : Result State Place). IsOk r) (sym like.2) (all like.0 like.1)

module _ {D : Type 0} (disk : Ghosts D) where
  -- before the first call of the disk
  pub at_once : (old : D) → OnlyNow disk old → Keeps disk old old (LikeSome (disk.may_leave old))
  at_once old law = begun disk old (LikeSome (disk.may_leave old)) law (λ tells c left. (c, left, refl))

  -- loading, and then a session
  from_load : (s : State) (records : List (List Event)) (turns : List Turn) (old mid new : D) → Keeps disk old mid (LikeSome (disk.may_leave old)) → Survives disk s records turns mid new → SurvivesFrom disk s records turns old new
  from_load s records turns old mid new load session =
      let before = LikeSome (disk.may_leave old) in
      let after = HoldsSome HoldsState after_record s records in
      record {
        steps = goes_through disk old mid new before after (IsBeforeOrAfter (disk.may_leave old) s records) load session.steps (λ tells c like. inl like) (λ tells c has. inr has);
        settled = λ all. goes_through disk old mid new before after after load session.steps (λ tells c like. none_some HoldsState after_record c s records (like.2 ∙ all tells like.0 like.1)) (λ tells c has. has);
        sound = λ all. goes_through disk old mid new before after IsSound load session.steps (λ tells c like. sound_like (disk.may_leave old) c like (all tells)) (λ tells c has. sound_at c _ has.2);
        acknowledged = session.acknowledged;
      }

  -- loading alone
  from_none : (s : State) (old new : D) → Keeps disk old new (LikeSome (disk.may_leave old)) → SurvivesFrom disk s [] [] old new
  from_none s old new load =
      let before = LikeSome (disk.may_leave old) in
      record {
        steps = weakens disk old new before (IsBeforeOrAfter (disk.may_leave old) s []) load (λ tells c like. inl like);
        settled = λ all. weakens disk old new before (HoldsSome HoldsState after_record s []) load (λ tells c like. none_some HoldsState after_record c s [] (like.2 ∙ all tells like.0 like.1));
        sound = λ all. weakens disk old new before IsSound load (λ tells c like. sound_like (disk.may_leave old) c like (all tells));
        acknowledged = λ t n a. none_acknowledged t n a;
      }

  holds_at_end : (b : Bool) (store : Seen) (s : State) (now : D) → LeavesIf disk b store s now → HoldsState s (disk.held now)
  holds_at_end true store s now leaves = leaves
  holds_at_end false store s now leaves = holds_same store s (disk.held now) (disk.may_leave now) leaves (disk.held now) refl refl (reads_log store s (disk.held now) (disk.may_leave now) leaves)

  -- ---- runs

  -- the tables were loaded
  pub ended_run : (exit : Exit) (its limits : Limits) (count : ℕ) (its_first s : State) (store : Seen) (old mid new : D) (left left1 : List (List ℕ)) (sent sent1 : List Sent) (told told1 : List ℕ) (f f1 : ℕ)
      → its ≡ limits → disk_state (disk.held old) ≡ Ok its_first → HoldsState s (disk.held old) → Keeps disk old mid (LikeSome (disk.may_leave old))
      → EndedSession disk exit its count its_first store mid new left left1 sent sent1 told told1 f f1 → EndedRun disk exit limits count s old new left left1 sent sent1 told told1 f f1
  ended_run exit its limits count its_first s store old mid new left left1 sent sent1 told told1 f f1 same_limits loaded holds load session =
      let same : its_first ≡ s = cc in
      subst (λ (x : Limits). EndedRun disk exit x count s old new left left1 sent sent1 told told1 f f1) same_limits
      (subst (λ (x : State). EndedRun disk exit its count x old new left left1 sent sent1 told told1 f f1) same (record {
        new = session.new;
        number = session.number;
        ended = session.ended;
        ran = session.ran;
        ends = inl session.ends;
        holds = holds_at_end (is_disk_fault exit) store session.new new session.leaves;
        survives = from_load its_first _ _ old mid new load session.survives;
      }))

  -- nothing was served
  pub ended_unserved : (exit : Exit) (limits : Limits) (count : ℕ) (s : State) (old new : D) (left : List (List ℕ)) (sent : List Sent) (told : List ℕ) (f : ℕ) → Ended exit count 0 left → HoldsState s (disk.held old) → disk_state (disk.held new) ≡ disk_state (disk.held old)
      → Keeps disk old new (LikeSome (disk.may_leave old)) → EndedRun disk exit limits count s old new left left sent sent told told f f
  ended_unserved exit limits count s old new left sent told f ended holds same load = record {
    new = s;
    number = 0;
    ended = ended;
    ran = record {
      served = [];
      readings = [];
      made = [];
      records = [];
      run = record { talks = []; each = tt; read = refl; written = tt; changed = refl; kept = refl };
      count = refl;
      taken = refl;
      written = sym (append-nil sent);
      read = sym (append-nil told);
      cause = inl refl;
      complete = λ going k. tt;
    };
    ends = inr refl;
    holds = same ∙ holds;
    survives = from_none s old new load;
  }

-- ---- exits

unserved_so : (e : LogFault) (count : ℕ) (left : List (List ℕ)) → Ended (exit_of e) count 0 left
unserved_so fault.DiskFailed count left = omega arith
unserved_so (fault.Damaged file at) count left = refl
unserved_so (fault.TooLarge n) count left = omega arith
unserved_so fault.OutOfMemory count left = refl

-- how a run ends that could not load the tables
pub unserved_ends : (exit : Exit) (e : LogFault) (count : ℕ) (left : List (List ℕ)) → exit ≡ exit_of e → Ended exit count 0 left
unserved_ends exit e count left is = subst (λ (x : Exit). Ended x count 0 left) (sym is) (unserved_so e count left)

loading_so : (e : LogFault) → IsOfLoading (exit_of e)
loading_so fault.DiskFailed = tt
loading_so (fault.Damaged file at) = tt
loading_so (fault.TooLarge n) = tt
loading_so fault.OutOfMemory = tt

pub unloaded_ends : (exit : Exit) (e : LogFault) → exit ≡ exit_of e → IsOfLoading exit
unloaded_ends exit e is = subst IsOfLoading (sym is) (loading_so e)
