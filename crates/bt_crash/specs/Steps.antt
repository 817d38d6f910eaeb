-- Steps of one file. A step says what the bytes of the file may be after it, by those before it. One that may also leave
-- them as they are says that a crash finds the state before or the state after, and nothing in between.
use Rattle.std.specs.Prelude.{ℕ, List}
use Rattle.bt_outside.specs.declared.disk.Disk.{Ghosts}
use Rattle.bt_outside.specs.Disk.{Files, AtFile}
use Rattle.bt_crash.specs.Moments.{Keeps}

-- the image is one of these after a step of one file
abbrev pub Reaches : ℕ → (List ℕ → List ℕ → Type 0) → (Files → Type 0) → Files → Type 0
Reaches file step images c = (d : Files) × images d × AtFile file step d c

-- at each moment the disk's images are those from before after a step of one file
abbrev pub StepsAt : {D : Type 0} → Ghosts D → ℕ → (List ℕ → List ℕ → Type 0) → D → D → Type 0
StepsAt disk file step old new = Keeps disk old new (Reaches file step (disk.may_leave old))

-- any bytes
abbrev pub Anyhow : List ℕ → List ℕ → Type 0
Anyhow old new = Unit {0}
