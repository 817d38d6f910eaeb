-- What a parser's answer tells of a source.
use Rattle.std.proofs.Common.{◌≡◌, ◌≢◌, ℕ, ◌<◌, ◌≤◌, List, length, All, Option, Some, None, IsSomeAnd, is_some, sym, ap, ◌∙◌, subst, inl, inr}
use Rattle.regex_hir.specs.declared.hir.Hir.{Hir}
use Rattle.regex_hir.specs.Meaning.{meaning}
use Rattle.regex_syntax.specs.Grammar.{Names, group_count}
use Rattle.regex_syntax.specs.Brackets.{Nested}
use Rattle.regex_syntax.specs.Captures.{SameCaptures}
use Rattle.regex_syntax.specs.Verdict.{Reads, Refuses}
use Rattle.regex_syntax.specs.declared.Config.{Config}
use Rattle.regex_syntax.specs.declared.error.ErrorKind.{ErrorKind}
use Rattle.regex_syntax.specs.declared.error.ErrorKind.TheVariants as kind
use Rattle.regex_syntax.proofs.CapturesLemmas.{spans, find_alike}
use Rattle.regex_syntax.proofs.Written.{is_some-option_map}
use Rattle.regex.specs.Patterns.{Re, find}
use Rattle.bt_pattern.specs.Readings.{byte_config, reading, IsReadable, IsOutside, IsReadAs}
use Rattle.bt_pattern.specs.Patterns.{is_found}

abbrev Told : Hir → Names → Nested Re × Names → Type 0
Told hir names (re, found) =
    (re.depth ≤ 250) × SameCaptures (meaning hir) re.value × (names ≡ found) × (group_count (meaning hir) ≤ length names)

read_told : (o : Option (Nested Re × Names)) (hir : Hir) (names : Names) → IsSomeAnd o (Told hir names) →
    IsSomeAnd o (λ (re, _). (re.depth ≤ 250) × SameCaptures (meaning hir) re.value)
read_told None hir names h = absurd h
read_told (Some found) hir names h = (h.0, h.1)

read_by_bytes : (source : List ℕ) (hir : Hir) (names : Names) → Reads byte_config source hir names → IsReadAs source hir
unfolding Reads
read_by_bytes source hir names h = read_told (reading source) hir names h

pub read_from_reads : (config : Config) (source : List ℕ) (hir : Hir) (names : Names) → config ≡ byte_config →
    Reads config source hir names → IsReadAs source hir
read_from_reads config source hir names e h =
    read_by_bytes source hir names (subst (λ k. Reads k source hir names) e h)

readable_told : (o : Option (Nested Re × Names)) (hir : Hir) →
    IsSomeAnd o (λ (re, _). (re.depth ≤ 250) × SameCaptures (meaning hir) re.value) → IsSomeAnd o (λ (re, _). re.depth ≤ 250)
readable_told None hir h = absurd h
readable_told (Some found) hir h = h.0

pub readable_from_read : (source : List ℕ) (hir : Hir) → IsReadAs source hir → IsReadable source
readable_from_read source hir h = readable_told (reading source) hir h

outside_by_bytes : (source : List ℕ) (k : ErrorKind) → k ≢ kind.OutOfMemory → Refuses byte_config source k → IsOutside source
unfolding Refuses
outside_by_bytes source k n (inl h) = absurd (n h)
outside_by_bytes source k n (inr (inl h)) = inl h
outside_by_bytes source k n (inr (inr h)) = inr h.1

pub outside_from_refused : (config : Config) (source : List ℕ) (k : ErrorKind) → config ≡ byte_config → k ≢ kind.OutOfMemory →
    Refuses config source k → IsOutside source
outside_from_refused config source k e n h = outside_by_bytes source k n (subst (λ c. Refuses c source k) e h)

found_told : (o : Option (Nested Re × Names)) (hir : Hir) →
    IsSomeAnd o (λ (re, _). (re.depth ≤ 250) × SameCaptures (meaning hir) re.value) →
    (text : List ℕ) → All (λ x. x < 256) text → is_some (find (meaning hir) text 0) ≡ is_found o text
found_told None hir h text small = absurd h
found_told (Some found) hir h text small =
    sym (is_some-option_map spans (find (meaning hir) text 0)) ∙ ap is_some (find_alike (meaning hir) found.0.value h.1 text small 0)
    ∙ is_some-option_map spans (find found.0.value text 0)

pub found_from_read : (source : List ℕ) (hir : Hir) → IsReadAs source hir → (text : List ℕ) → All (λ x. x < 256) text →
    is_some (find (meaning hir) text 0) ≡ is_found (reading source) text
found_from_read source hir h = found_told (reading source) hir h
