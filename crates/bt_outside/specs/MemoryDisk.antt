-- A disk in memory, as its callers see it.
use Rattle.std.specs.Prelude.{◌≡◌, ℕ, List, [], Bool, false, Option, None}
use Rattle.bt_outside.specs.History.{Core}

-- its files with all calls, its counts, and what is to fail
pub record DiskSeen : Type 0 where
  -- the files, and all calls
  pub core : Core
  -- the bytes that reads asked for
  pub asked : ℕ
  pub faults : ℕ
  pub write_faults : ℕ
  -- the last call failed
  pub failing : Bool
  -- the numbers of the calls that are to fail, and the first of those that all fail
  pub fails : List ℕ
  pub stop : Option ℕ

-- no call was made, and none is to fail
pub record IsFresh (disk : DiskSeen) : Type 0 where
  pub asked : disk.asked ≡ 0
  pub faults : disk.faults ≡ 0
  pub write_faults : disk.write_faults ≡ 0
  pub failing : disk.failing ≡ false
  pub fails : disk.fails ≡ []
  pub stop : disk.stop ≡ None
