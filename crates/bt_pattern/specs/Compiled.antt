-- How what was built for a pattern stands to its text.
use Rattle.std.specs.Prelude.{◌≡◌, ℕ, true, false, List, Option, Some, None, Box}
use Rattle.std.specs.Global.{Global}
use Rattle.bt_pattern.specs.declared.finder.Finder.{Finder}
use Rattle.bt_pattern.specs.Readings.{IsReadAs}
use Rattle.bt_pattern.specs.Patterns.{is_plain, whole}

abbrev pub IsCompiled : List ℕ → Option (Box Finder Global) → Type 0
IsCompiled text None = is_plain text ≡ true
IsCompiled text (Some finder) = (is_plain text ≡ false) × IsReadAs (whole text) finder.value.program.hir
