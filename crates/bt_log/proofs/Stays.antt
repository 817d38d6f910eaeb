-- What the images hold while a log is open, and what an append is in a run of calls.
use Rattle.std.proofs.Common.{◌≡◌, ◌≢◌, ⊎_elim, ℕ, List, [], ◌∷◌, sym, ◌∙◌, ap}
use Rattle.bt_outside.specs.declared.disk.Disk.{Ghosts}
use Rattle.bt_outside.specs.Disk.{Files}
use Rattle.bt_crash.specs.Moments.{AllImages}
use Rattle.bt_crash.specs.Steps.{StepsAt}
use Rattle.bt_crash.specs.Changes.{StepsThrough}
use Rattle.bt_crash.proofs.Chains.{lifts, none_some, all_some}
use Rattle.bt_entry.specs.declared.numbered.Numbered.{Numbered}
use Rattle.bt_log.specs.Place.{Place}
use Rattle.bt_log.specs.Segment.{segment, segment_in, entries_of}
use Rattle.bt_log.specs.Log.{IsOpen, HasEntries, added, WithOrWithout}

-- a log stays open while its file stays as it is
pub open_elsewhere : (log : Place) (first : ℕ) (entries : List Numbered) (held new : Files) (images now : Files → Type 0) → IsOpen log first entries held images
    → new log.file ≡ held log.file → ((c : Files) → now c → (d : Files) × images d × (c log.file ≡ d log.file)) → IsOpen log first entries new now
open_elsewhere log first entries held new images now is same from = record {
  reads = ap (segment_in first) same ∙ is.reads;
  settled = λ c left. let r = from c left in r.2 ∙ is.settled r.0 r.1 ∙ sym same;
}

module _ {D : Type 0} (disk : Ghosts D) where
  -- each image has the entries of a log that is open
  pub holds_now : (log : Place) (first : ℕ) (entries : List Numbered) (d : D) → (disk.tells → IsOpen log first entries (disk.held d) (disk.may_leave d)) → AllImages disk d (HasEntries log.file first entries)
  holds_now log first entries d open_now tells c left =
      let is = open_now tells in
      ap (segment first) (is.settled c left) ∙ ap entries_of is.reads

  module _ (file first : ℕ) (entries : List Numbered) (old new : D) (here : AllImages disk old (HasEntries file first entries)) where
    -- an append is a chain of one change
    pub appended : (batch : List Numbered) → StepsAt disk file (WithOrWithout first entries batch) old new → StepsThrough disk (HasEntries file first) added entries (batch ∷ []) old new
    appended batch steps =
        lifts disk (HasEntries file first) added entries (batch ∷ []) file (WithOrWithout first entries batch) old new here steps
        (λ tells d c left has step. ⊎_elim
        (λ without. none_some (HasEntries file first) added c entries (batch ∷ []) without)
        (λ with_it. all_some (HasEntries file first) added c entries (batch ∷ []) with_it)
        step.here)

    -- a step of another file is a chain of none
    pub elsewhere : (other : ℕ) (step : List ℕ → List ℕ → Type 0) → file ≢ other → StepsAt disk other step old new → StepsThrough disk (HasEntries file first) added entries [] old new
    elsewhere other step apart steps =
        lifts disk (HasEntries file first) added entries [] other step old new here steps
        (λ tells d c left has at. none_some (HasEntries file first) added c entries [] (ap (segment first) (at.others file apart) ∙ has))
