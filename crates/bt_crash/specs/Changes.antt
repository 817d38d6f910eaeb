-- A state that the disk's images hold, and changes of it, of which a crash keeps the first ones. Here S is the type of
-- states and R that of changes; holds says when an image holds a state, and after makes a change.
use Rattle.std.specs.Prelude.{◌≤◌, ◌<◌, ℕ, List, [], ◌∷◌, length, take}
use Rattle.bt_base.specs.Counts.{most}
use Rattle.bt_outside.specs.declared.disk.Disk.{Ghosts}
use Rattle.bt_outside.specs.Disk.{Files}
use Rattle.bt_crash.specs.Moments.{AllImages, Keeps}

-- the state after these changes, in order
abbrev pub after_all : {S R : Type 0} → (S → R → S) → S → List R → S
after_all after s [] = s
after_all after s (r ∷ changes) = after_all after (after s r) changes

-- the image holds the state after the first n of the changes, for some n: none is skipped
abbrev pub HoldsSome : {S R : Type 0} → (S → Files → Type 0) → (S → R → S) → S → List R → Files → Type 0
HoldsSome holds after s changes c = (n : ℕ) × (n ≤ length changes) × holds (after_all after s (take n changes)) c

-- at each moment each image holds the state after the first ones of the changes
abbrev pub StepsThrough : {D S R : Type 0} → Ghosts D → (S → Files → Type 0) → (S → R → S) → S → List R → D → D → Type 0
StepsThrough disk holds after s changes old new = Keeps disk old new (HoldsSome holds after s changes)

-- each image holds the state after all of the changes
abbrev pub HasAll : {D S R : Type 0} → Ghosts D → (S → Files → Type 0) → (S → R → S) → S → List R → D → Type 0
HasAll disk holds after s changes now = AllImages disk now (holds (after_all after s changes))

-- each image that a crash since moment t leaves holds the state after the first ones of the changes, at least n
abbrev pub HasSince : {D S R : Type 0} → Ghosts D → (S → Files → Type 0) → (S → R → S) → S → List R → D → ℕ → ℕ → Type 0
HasSince disk holds after s changes now t n =
    disk.tells → disk.moment now < most → (c : Files) → disk.left_since now t c
    → (m : ℕ) × (n ≤ m) × (m ≤ length changes) × holds (after_all after s (take m changes)) c
