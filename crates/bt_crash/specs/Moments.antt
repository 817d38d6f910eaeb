-- What a crash at some moment of a run of disk calls may leave.
use Rattle.std.specs.Prelude.{◌⊎◌, ◌≤◌, ◌<◌, ℕ}
use Rattle.bt_base.specs.Counts.{most}
use Rattle.bt_outside.specs.declared.disk.Disk.{Ghosts}
use Rattle.bt_outside.specs.Disk.{Files}

-- A crash at any moment since old leaves an image that has P.
pub record LeavesOnly {D : Type 0} (disk : Ghosts D) (old new : D) (P : Files → Type 0) : Type 0 where
  -- a run takes no moment back
  pub later : disk.moment old ≤ disk.moment new
  pub each : (c : Files) → disk.left_since new (disk.moment old) c → P c
  -- a run that began before old leaves what it left by then, or an image that has P
  pub before : (t : ℕ) (c : Files) → t ≤ disk.moment old → disk.left_since new t c → disk.left_since old t c ⊎ P c

-- the same, where the disk tells its images and its count of calls has not reached its end
abbrev pub EachMomentLeaves : {D : Type 0} → Ghosts D → D → D → (Files → Type 0) → Type 0
EachMomentLeaves disk old new P = disk.tells → disk.moment new < most → LeavesOnly disk old new P

-- each image that a crash now may leave has P
abbrev pub AllImages : {D : Type 0} → Ghosts D → D → (Files → Type 0) → Type 0
AllImages disk now P = disk.tells → (c : Files) → disk.may_leave now c → P c

-- each image that a crash at a moment since old, or now, may leave has P
pub record Keeps {D : Type 0} (disk : Ghosts D) (old new : D) (P : Files → Type 0) : Type 0 where
  pub moments : EachMomentLeaves disk old new P
  pub now : AllImages disk new P
