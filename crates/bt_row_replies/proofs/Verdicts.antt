-- Each filter is valid, or is refused for something.
use Rattle.std.proofs.Common.{◌≡◌, ◌⊎◌, ℕ, ◌+◌, ◌<◌, ◌≤◌, Bool, true, false, List, [], ◌∷◌, Option, Some, None, IsSomeAnd, refl, inl, inr}
use Rattle.std.specs.Prelude.{IfSome}
use Rattle.std.specs.List.{AllByRecursion}
use Rattle.std.specs.Str.{is_utf8}
use Rattle.std.proofs.lemmas.Bool.{cases_lt}
use Rattle.std.proofs.lemmas.Str.{IsUtf8-from_is_utf8, is_utf8-from_IsUtf8}
use Rattle.regex_syntax.specs.Brackets.{Nested}
use Rattle.regex_syntax.specs.Grammar.{Names}
use Rattle.regex.specs.Patterns.{Re}
use Rattle.bt_pattern.specs.Patterns.{IsBad, IsPattern, alone, is_plain, whole}
use Rattle.bt_pattern.specs.Readings.{IsOutside, IsReadable, reading}
use Rattle.bt_filter.specs.Flaws.{Check, Fine, Reads, Wrong, IsCause, IsFine, IsFirst, IsRefusedFor, IsValidFilter, extent_flaw, extent_of, node_list}
use Rattle.bt_filter.specs.declared.asked.AskedFilter.{AskedFilter}
use Rattle.bt_filter.specs.declared.refusal.FilterRefusal.TheVariants.{BadFilter}
use Rattle.bt_filter.specs.declared.refusal.Why.{Why}
use Rattle.bt_filter.specs.declared.refusal.Why.TheVariants.{BadPattern}

read_by : (o : Option (Nested Re × Names)) → IsSomeAnd o (λ (re, _). re.depth ≤ 250) ⊎ ((o ≡ None) ⊎ IfSome o (λ (re, _). 250 < re.depth))
read_by None = inr (inl refl)
read_by (Some found) = elim (cases_lt 250 found.0.depth) as (λ _. (found.0.depth ≤ 250) ⊎ ((Some found ≡ None) ⊎ (250 < found.0.depth))) [
  | inl deep ↦ inr (inr deep)
  | inr shallow ↦ inl shallow
]

readable_or_outside : (source : List ℕ) → IsReadable source ⊎ IsOutside source
readable_or_outside source = read_by (reading source)

-- a text is a pattern, or a bad one
pattern_by : (text : List ℕ) (plain utf8 : Bool) → is_plain text ≡ plain → is_utf8 text ≡ utf8 → IsReadable (alone text) ⊎ IsOutside (alone text) → IsReadable (whole text) ⊎ IsOutside (whole text)
    → IsPattern text ⊎ IsBad text
pattern_by text true utf8 p u a w = inl (inl p)
pattern_by text false false p u a w = inr (p, inl (λ is. absurd (cc (is_utf8-from_IsUtf8 text is))))
pattern_by text false true p u (inr outside) w = inr (p, inr (inl outside))
pattern_by text false true p u (inl readable) (inr outside) = inr (p, inr (inr outside))
pattern_by text false true p u (inl readable) (inl again) = inl (inr (IsUtf8-from_is_utf8 text u, readable, again))

pattern_or_bad : (text : List ℕ) → IsPattern text ⊎ IsBad text
pattern_or_bad text = pattern_by text (is_plain text) (is_utf8 text) refl refl (readable_or_outside (alone text)) (readable_or_outside (whole text))

fine_or_not : (c : Check) → IsFine c ⊎ ((why : Why) × IsCause why c)
fine_or_not Fine = inl tt
fine_or_not (Reads text) = elim (pattern_or_bad text) as (λ _. IsPattern text ⊎ ((why : Why) × IsCause why (Reads text))) [
  | inl pattern ↦ inl pattern
  | inr bad ↦ inr (BadPattern, bad)
]
fine_or_not (Wrong why) = inr (why, refl)

-- all are fine, or one is the first that is not
abbrev Verdict : ℕ → List Check → Type 0
Verdict n cs = AllByRecursion IsFine cs ⊎ ((why : Why) × (node : ℕ) × IsFirst n cs why node)

all_fine_or_first : (n : ℕ) (cs : List Check) → Verdict n cs
all_fine_or_first n [] = inl tt
all_fine_or_first n (c ∷ cs) = elim (fine_or_not c) as (λ _. Verdict n (c ∷ cs)) [
  | inl fine ↦ elim (all_fine_or_first (n + 1) cs) as (λ _. Verdict n (c ∷ cs)) [
    | inl all ↦ inl (fine, all)
    | inr first ↦ inr (first.0, first.1, inr (fine, first.2))
  ]
  | inr cause ↦ inr (cause.0, n, inl (refl, cause.1))
]

-- there is nothing against it, or it is refused for something
abbrev pub IsJudged : AskedFilter → Type 0
IsJudged f = IsValidFilter f ⊎ ((why : Why) × (node : ℕ) × IsRefusedFor f (BadFilter why node))

judged_by : (f : AskedFilter) (o : Option Why) → extent_flaw (extent_of f) ≡ o → Verdict 0 (node_list f) → IsJudged f
judged_by f (Some why) flawed verdict = inr (why, 0, inl (flawed, refl))
judged_by f None none (inl all) = inl (record { whole = none; nodes = all })
judged_by f None none (inr first) = inr (first.0, first.1, inr (none, first.2))

pub valid_or_refused : (f : AskedFilter) → IsJudged f
valid_or_refused f = judged_by f (extent_flaw (extent_of f)) refl (all_fine_or_first 0 (node_list f))
