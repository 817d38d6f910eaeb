-- A store, and what it stands for over its disk.
use Rattle.std.specs.Prelude.{◌≡◌, ℕ, ◌+◌, List, Some, Ok}
use Rattle.bt_outside.specs.Disk.{Files}
use Rattle.bt_entry.specs.declared.numbered.Numbered.{Numbered}
use Rattle.bt_log.specs.Place as log
use Rattle.bt_log.specs.Log.{IsOpen}
use Rattle.bt_manifest.specs.declared.snapshot.Snapshot.{Snapshot}
use Rattle.bt_manifest.specs.Slots.{counting, SlotsSettle}
use Rattle.bt_state.specs.State.{State, Present}
use Rattle.bt_store.specs.declared.limits.Limits.{Limits}
use Rattle.bt_store.specs.Held.{segment_of, base_state, follow}

-- a store, as its callers see it
pub record Seen : Type 0 where
  pub present : Present
  pub log : log.Place
  pub limits : Limits

-- The store stands for this state: the slot that counts names its log, the log's entries lead to the state, its present is
-- the store's, and nothing of what the disk names is pending.
pub record Stands (store : Seen) (s : State) (held : Files) (images : Files → Type 0) : Type 0 where
  pub snapshot : Snapshot
  pub generation : ℕ
  pub counts : counting held ≡ Ok (Some (snapshot, generation))
  pub names : segment_of snapshot ≡ Some store.log.file
  pub entries : List Numbered
  pub is_open : IsOpen store.log (snapshot.base + 1) entries held images
  pub leads : follow (base_state snapshot) entries ≡ Some s
  pub slots : SlotsSettle held images
  pub present : store.present ≡ s.present
