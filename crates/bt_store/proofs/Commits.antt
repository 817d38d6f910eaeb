-- What a commit makes of a store and its disk.
use Rattle.std.proofs.Common.{◌≡◌, ◌≢◌, ⊎_elim, ℕ, ◌+◌, List, [], ◌∷◌, ◌++◌, length, Some, Ok, sym, ◌∙◌, ap, subst, arith}
use Rattle.bt_outside.specs.Disk.{Files, AtFile, Settles}
use Rattle.bt_outside.specs.declared.disk.Disk.{Ghosts}
use Rattle.bt_crash.specs.Moments.{AllImages, Keeps}
use Rattle.bt_crash.specs.Steps.{Anyhow, StepsAt}
use Rattle.bt_crash.specs.Changes.{HoldsSome, StepsThrough}
use Rattle.bt_crash.proofs.Chains.{OnlyNow, not_begun, lifts, none_some, all_some}
use Rattle.bt_entry.specs.declared.numbered.Numbered.{Numbered}
use Rattle.bt_entry.specs.Grammar.{IsSpellable, AreNumbered}
use Rattle.bt_entry.specs.Spelling.{spelling}
use Rattle.bt_log.specs.Place as places
use Rattle.bt_log.specs.Segment.{segment}
use Rattle.bt_log.specs.Log.{IsOpen, IsSomeOpen, WithOrWithout}
use Rattle.bt_state.specs.State.{State, Event, Present, AreLawful, after_record, events_of, presents_after}
use Rattle.bt_store.specs.Held.{HoldsState}
use Rattle.bt_store.specs.Stands.{Seen, Stands}
use Rattle.bt_store.proofs.Follows.{follow_more, last_counts, present_same}
use Rattle.bt_store.proofs.Holds.{slots_same, holds, holds_same, stands_hold, zeroth_apart, first_apart}

-- what is asked of a batch
pub record MayCome (p : Present) (batch : List Numbered) : Type 0 where
  pub spellable : IsSpellable batch
  pub numbered : AreNumbered (p.last + 1) batch
  pub lawful : AreLawful p (events_of batch)

abbrev pub changes : List Numbered → List (List Event)
changes batch = events_of batch ∷ []

module _ (store : Seen) (s : State) (held : Files) (images : Files → Type 0) (is : Stands store s held images) (batch : List Numbered) (may : MayCome store.present batch) where
  lawful_here : AreLawful s.present (events_of batch)
  lawful_here = subst (λ p. AreLawful p (events_of batch)) is.present may.lawful

  pub some_open : IsSomeOpen store.log held images
  some_open = (is.snapshot.base + 1, is.entries, is.is_open)

  pub own : AreNumbered (is.snapshot.base + 1 + length is.entries) batch
  own =
      let next : store.present.last + 1 ≡ is.snapshot.base + 1 + length is.entries = omega (arith, last_counts _ is.entries s is.leads, ap (λ (p : Present). p.last) is.present) in
      subst (λ (n : ℕ). AreNumbered n batch) next may.numbered

  pub holds_more : (c : Files) → c 0 ≡ held 0 → c 1 ≡ held 1 → segment (is.snapshot.base + 1) (c store.log.file) ≡ Ok (is.entries ++ batch) → HoldsState (after_record s (events_of batch)) c
  holds_more c zeroth first reads =
      holds c is.snapshot is.generation store.log.file (is.entries ++ batch) (after_record s (events_of batch)) (slots_same held c zeroth first ∙ is.counts) is.names reads
      (follow_more _ is.entries batch s is.leads lawful_here)

  -- an image of a step of the log
  pub stepped : (d c : Files) → images d → AtFile store.log.file (WithOrWithout (is.snapshot.base + 1) is.entries batch) d c → HoldsSome HoldsState after_record s (changes batch) c
  stepped d c left at =
      let zeroth = at.others 0 (zeroth_apart store s held images is) ∙ is.slots.0 d left in
      let first = at.others 1 (first_apart store s held images is) ∙ is.slots.1 d left in
      ⊎_elim
      (λ without. none_some HoldsState after_record c s (changes batch) (holds_same store s held images is c zeroth first without))
      (λ with_it. all_some HoldsState after_record c s (changes batch) (holds_more c zeroth first with_it))
      at.here

  -- the store stands behind the entries
  pub stands_again : (next : Seen) (new : Files) (now : Files → Type 0) → next.log.file ≡ store.log.file → next.present ≡ presents_after store.present (events_of batch)
      → IsOpen next.log (is.snapshot.base + 1) (is.entries ++ batch) new now → AtFile store.log.file Anyhow held new
      → ((c : Files) → now c → (d : Files) × images d × ((f : ℕ) → f ≢ store.log.file → c f ≡ d f)) → Stands next (after_record s (events_of batch)) new now
  stands_again next new now file present open_now step from = record {
    snapshot = is.snapshot;
    generation = is.generation;
    counts = slots_same held new (step.others 0 (zeroth_apart store s held images is)) (step.others 1 (first_apart store s held images is)) ∙ is.counts;
    names = is.names ∙ ap (λ (n : ℕ). Some n) (sym file);
    entries = is.entries ++ batch;
    is_open = open_now;
    leads = follow_more _ is.entries batch s is.leads lawful_here;
    slots = (slot 0 (zeroth_apart store s held images is) is.slots.0, slot 1 (first_apart store s held images is) is.slots.1);
    present = present ∙ ap (λ p. presents_after p (events_of batch)) is.present ∙ sym (present_same s (events_of batch));
  }
    where
      slot : (f : ℕ) → f ≢ store.log.file → Settles f (held f) images → Settles f (new f) now
      slot f apart settles c left = let r = from c left in r.2 f apart ∙ settles r.0 r.1 ∙ sym (step.others f apart)

module _ {D : Type 0} (disk : Ghosts D) (store : Seen) (s : State) (batch : List Numbered) (old : D) (is : disk.tells → Stands store s (disk.held old) (disk.may_leave old)) where
  -- each image that a crash leaves holds the state
  pub images_hold : AllImages disk old (HoldsState s)
  images_hold tells = stands_hold store s (disk.held old) (disk.may_leave old) (is tells)

  -- before the first call
  pub unchanged : (new : D) → OnlyNow disk old → new ≡ old → StepsThrough disk HoldsState after_record s (changes batch) old new
  unchanged new law same = subst (λ (d : D). StepsThrough disk HoldsState after_record s (changes batch) old d) (sym same) (not_begun disk HoldsState after_record s (changes batch) old law images_hold)

  under : (P : Files → Type 0) (new : D) → (disk.tells → Keeps disk old new P) → Keeps disk old new P
  under P new told = record { moments = λ tells. (told tells).moments tells; now = λ tells. (told tells).now tells }

  -- the steps of the log are a chain of the one record
  pub committed : (new : D) (body : List ℕ) (log : places.Place) → MayCome store.present batch → body ≡ spelling batch → log ≡ store.log
      → ((first : ℕ) (entries batch : List Numbered) → IsSpellable batch → AreNumbered (first + length entries) batch → body ≡ spelling batch → (disk.tells → IsOpen log first entries (disk.held old) (disk.may_leave old))
      → StepsAt disk log.file (WithOrWithout first entries batch) old new)
      → StepsThrough disk HoldsState after_record s (changes batch) old new
  committed new body log may spells same steps =
      under (HoldsSome HoldsState after_record s (changes batch)) new
      (λ tells.
      let now = is tells in
      let held = disk.held old in
      let images = disk.may_leave old in
      let first = now.snapshot.base + 1 in
      let open_log : disk.tells → IsOpen log first now.entries held images = λ t. subst (λ (p : places.Place). IsOpen p first now.entries held images) (sym same) now.is_open in
      let step = subst (λ (p : places.Place). StepsAt disk p.file (WithOrWithout first now.entries batch) old new) same
      (steps first now.entries batch may.spellable (own store s held images now batch may) spells open_log) in
      lifts disk HoldsState after_record s (changes batch) store.log.file (WithOrWithout first now.entries batch) old new images_hold step
      (λ t d c left has at. stepped store s held images now batch may d c left at))

  -- the store stands behind the entries
  pub stands_next : (new : D) (body : List ℕ) (log : places.Place) (next : Seen) → MayCome store.present batch → body ≡ spelling batch → log ≡ store.log → next.log.file ≡ log.file → next.present ≡ presents_after store.present (events_of batch)
      → ((first : ℕ) (entries batch : List Numbered) → IsSpellable batch → AreNumbered (first + length entries) batch → body ≡ spelling batch → disk.tells → IsOpen log first entries (disk.held old) (disk.may_leave old)
      → IsOpen next.log first (entries ++ batch) (disk.held new) (disk.may_leave new))
      → ((first : ℕ) (entries batch : List Numbered) → IsSpellable batch → AreNumbered (first + length entries) batch → body ≡ spelling batch → (disk.tells → IsOpen log first entries (disk.held old) (disk.may_leave old))
      → StepsAt disk log.file (WithOrWithout first entries batch) old new)
      → (disk.tells → AtFile log.file Anyhow (disk.held old) (disk.held new)) → disk.tells → Stands next (after_record s (events_of batch)) (disk.held new) (disk.may_leave new)
  stands_next new body log next may spells same file present opens steps others tells =
      let now = is tells in
      let held = disk.held old in
      let images = disk.may_leave old in
      let first = now.snapshot.base + 1 in
      let open_log : IsOpen log first now.entries held images = subst (λ (p : places.Place). IsOpen p first now.entries held images) (sym same) now.is_open in
      let on = own store s held images now batch may in
      let step = subst (λ (p : places.Place). StepsAt disk p.file (WithOrWithout first now.entries batch) old new) same (steps first now.entries batch may.spellable on spells (λ t. open_log)) in
      let at = subst (λ (p : places.Place). AtFile p.file Anyhow held (disk.held new)) same (others tells) in
      stands_again store s held images now batch may next (disk.held new) (disk.may_leave new)
      (file ∙ ap (λ (p : places.Place). p.file) same) present (opens first now.entries batch may.spellable on spells tells open_log) at
      (λ c left. let r = step.now tells c left in (r.0, r.1, r.2.others))
