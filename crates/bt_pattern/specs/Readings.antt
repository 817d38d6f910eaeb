-- What `regex`, over bytes and with its own options, reads in a source.
use Rattle.std.specs.Prelude.{◌≡◌, ◌⊎◌, ℕ, ◌<◌, ◌≤◌, false, List, Option, None, IsSomeAnd, IfSome, chars}
use Rattle.regex_hir.specs.declared.hir.Hir.{Hir}
use Rattle.regex_hir.specs.Meaning.{meaning}
use Rattle.regex_syntax.specs.Brackets.{Nested}
use Rattle.regex_syntax.specs.Captures.{SameCaptures}
use Rattle.regex_syntax.specs.Grammar.{read, Names}
use Rattle.regex_syntax.specs.Verdict.{default_config}
use Rattle.regex_syntax.specs.declared.Config.{Config}
use Rattle.regex.specs.Patterns.{Re}

abbrev pub byte_config : Config
byte_config = record default_config { utf8 = false }

-- the expression and its names, if the source is in the grammar
abbrev pub reading : List ℕ → Option (Nested Re × Names)
reading source = read byte_config (chars source)

-- in the grammar, and not nested too deep
abbrev pub IsReadable : List ℕ → Type 0
IsReadable source = IsSomeAnd (reading source) (λ (re, _). re.depth ≤ 250)

-- outside the grammar, or nested too deep
abbrev pub IsOutside : List ℕ → Type 0
IsOutside source = (reading source ≡ None) ⊎ IfSome (reading source) (λ (re, _). 250 < re.depth)

-- readable, and the tree has the matches of the expression
abbrev pub IsReadAs : List ℕ → Hir → Type 0
IsReadAs source hir = IsSomeAnd (reading source) (λ (re, _). (re.depth ≤ 250) × SameCaptures (meaning hir) re.value)
