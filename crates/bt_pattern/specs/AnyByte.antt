-- `\C` in the text of a pattern.
use Rattle.std.specs.Prelude.{ℕ, List, [], ◌∷◌, ◌++◌, ◌==◌, if◌then◌else◌, codes}
use Rattle.bt_pattern.specs.declared.any_byte.Place.{Place}
use Rattle.bt_pattern.specs.declared.any_byte.Place.TheVariants.{Outside, Slashed, Opened, Negated, Inside, Escaped}

-- the place after a byte: a class ends at the next `]` that is not escaped and not its first
abbrev pub next : Place → ℕ → Place
next Outside b = if b == 0x5C then Slashed else if b == 0x5B then Opened else Outside
next Slashed b = Outside
next Opened b = if b == 0x5E then Negated else if b == 0x5C then Escaped else Inside
next Negated b = if b == 0x5C then Escaped else Inside
next Inside b = if b == 0x5C then Escaped else if b == 0x5D then Outside else Inside
next Escaped b = Inside

-- what is written at a byte: outside a class a backslash waits for the byte that it escapes
abbrev pub written : Place → ℕ → List ℕ
written Outside b = if b == 0x5C then [] else b ∷ []
written Slashed b = if b == 0x43 then codes "(?s-u:.)" else 0x5C ∷ b ∷ []
written _ b = b ∷ []

-- what is written at the end: a backslash that still waits
abbrev pub last_written : Place → List ℕ
last_written Slashed = 0x5C ∷ []
last_written _ = []

-- the text with `(?s-u:.)` for each `\C` outside a class
abbrev pub rewrite : Place → List ℕ → List ℕ
rewrite place [] = last_written place
rewrite place (b ∷ bs) = written place b ++ rewrite (next place b) bs
