-- What is said of the items of a list, one behind the other.
use Rattle.std.specs.Prelude.{List, [], ◌∷◌}

-- each item fits where it stands, and next goes on behind it
abbrev pub AllFrom : {S A : Type 0} → (S → A → S) → (S → A → Type 0) → S → List A → Type 0
AllFrom next Fits s [] = Unit {0}
AllFrom next Fits s (x ∷ xs) = Fits s x × AllFrom next Fits (next s x) xs
