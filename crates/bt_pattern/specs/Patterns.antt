-- What a pattern's text stands for.
use Rattle.std.specs.Prelude.{◌≡◌, ◌⊎◌, ℕ, ◌<◌, Bool, true, false, ◌||◌, ◌==◌, List, ◌++◌, length, Option, Some, None, is_some, if◌then◌else◌, codes, nat_eq, IsUtf8, IsTrue}
use Rattle.std.specs.List.{list_all, list_any}
use Rattle.std.specs.Char.{is_ascii_alphanumeric}
use lib.Pointwise.{pointwise}
use Rattle.regex_syntax.specs.Brackets.{Nested}
use Rattle.regex_syntax.specs.Grammar.{Names}
use Rattle.regex.specs.Patterns.{Re, find}
use Rattle.bt_pattern.specs.declared.any_byte.Place.TheVariants.{Outside}
use Rattle.bt_pattern.specs.AnyByte.{rewrite}
use Rattle.bt_pattern.specs.Readings.{reading, IsReadable, IsOutside}

abbrev pub is_plain_byte : ℕ → Bool
is_plain_byte b = is_ascii_alphanumeric b || b == 0x5F || b == 0x2D

-- only letters, digits, `_` and `-`
abbrev pub is_plain : List ℕ → Bool
is_plain = list_all is_plain_byte

-- the source that a text stands for
abbrev pub alone : List ℕ → List ℕ
alone text = rewrite Outside text

-- a source made to match whole texts
abbrev pub wrapped : List ℕ → List ℕ
wrapped source = codes "\\A(?:" ++ source ++ codes ")\\z"

abbrev pub whole : List ℕ → List ℕ
whole text = wrapped (alone text)

abbrev pub IsPattern : List ℕ → Type 0
IsPattern text = (is_plain text ≡ true) ⊎ (IsUtf8 text × IsReadable (alone text) × IsReadable (whole text))

-- not plain, and not UTF-8, or outside the grammar or nested too deep, alone or wrapped
abbrev pub IsBad : List ℕ → Type 0
IsBad text = (is_plain text ≡ false) × (¬ (IsUtf8 text) ⊎ (IsOutside (alone text) ⊎ IsOutside (whole text)))

-- not plain, readable alone or wrapped, and with more than 256 bytes or a `{`
abbrev pub MayBeLarge : List ℕ → Type 0
MayBeLarge text =
    (is_plain text ≡ false) × IsUtf8 text × ((256 < length text) ⊎ IsTrue (list_any (λ b. b == 0x7B) text))
    × (IsReadable (alone text) ⊎ IsReadable (whole text))

-- the expression has a match in the text
abbrev pub is_found : Option (Nested Re × Names) → List ℕ → Bool
is_found None text = false
is_found (Some found) text = is_some (find found.0.value text 0)

-- the pattern matches the whole text
abbrev pub matches : List ℕ → List ℕ → Bool
matches pattern text = if is_plain pattern then pointwise nat_eq pattern text else is_found (reading (whole pattern)) text
