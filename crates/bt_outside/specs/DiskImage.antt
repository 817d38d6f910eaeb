-- Images as data.
use Rattle.std.specs.Prelude.{◌≡◌, ℕ, List, [], ◌∷◌, if◌then◌else◌, ◌==◌}
use Rattle.bt_outside.specs.declared.image.FileBytes.{FileBytes}
use Rattle.bt_outside.specs.Disk.{Files}
use Rattle.bt_outside.specs.Model.{State, settled, IsBounded, Chosen}
use Rattle.bt_outside.specs.FileStates.{OfFile}

-- of two items of one number the first counts
abbrev pub files_of : List FileBytes → Files
files_of [] file = []
files_of (x ∷ xs) file = if file == x.number then x.bytes else files_of xs file

-- the files of a disk that begins with an image
abbrev pub start_of : List FileBytes → ℕ → State
start_of base file = settled (files_of base file)

-- one by one, what this choice leaves of these files
abbrev pub IsImageOf : ℕ → List FileBytes → List OfFile → Type 0
IsImageOf choice [] [] = Unit {0}
IsImageOf choice [] (x ∷ xs) = ⊥
IsImageOf choice (b ∷ bs) [] = ⊥
IsImageOf choice (b ∷ bs) (x ∷ xs) = (b.number ≡ x.number) × (IsBounded x.state → Chosen choice x.state b.bytes) × IsImageOf choice bs xs
