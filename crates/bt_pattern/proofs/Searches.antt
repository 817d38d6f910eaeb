-- What the engines answer, in the words of the pattern.
use Rattle.std.proofs.Common.{◌≡◌, ℕ, ◌<◌, List, length, All, Box, Some, true, false, nat_eq, is_some, sym, ap, ◌∙◌, subst, arith}
use Rattle.std.proofs.lemmas.Bool.{cond-false}
use Rattle.std.specs.Global.{Global}
use lib.Pointwise.{pointwise}
use Rattle.regex_dfa.specs.Search.{end_from, entry, IsEnd}
use Rattle.regex_dfa.specs.declared.forward.End.{End}
use Rattle.regex_dfa.specs.declared.forward.End.TheVariants.{At, NoMatch}
use Rattle.regex_extract.specs.Bounds.{IsAnchored}
use Rattle.regex_meta.specs.Programs.{pattern_of, leftmost}
use Rattle.regex_meta.specs.declared.program.Program.{Program}
use Rattle.regex_meta.proofs.PlansLemmas.{anchored_none}
use Rattle.regex_meta.proofs.ProgramLemmas.{IsLocated_anchored, attempt_no_end, first_match-leftmost}
use Rattle.regex_vm.specs.Found.{first_match}
use Rattle.bt_pattern.specs.declared.finder.Finder.{Finder}
use Rattle.bt_pattern.specs.Compiled.{IsCompiled}
use Rattle.bt_pattern.specs.Patterns.{is_plain, whole, is_found, matches}
use Rattle.bt_pattern.specs.Readings.{reading}
use Rattle.bt_pattern.proofs.Readings.{found_from_read}

abbrev Ended : Program → List ℕ → End → Type 0
Ended p text end =
    IsEnd p.dfa.nfa text 0 (length text) true true (end_from p.dfa.nfa text (length text) (entry p.dfa.nfa true) 0) end

pub some_from_at : (p : Program) (text : List ℕ) (at : ℕ) (end : End) → end ≡ At at → Ended p text end →
    true ≡ is_some (leftmost p text 0)
some_from_at p text at end is h =
    let ended : Ended p text (At at) = subst (Ended p text) is h in
    sym (IsLocated_anchored p text 0 at true (omega arith) ended.0 ended.1).0

pub none_from_no_match : (p : Program) (text : List ℕ) (end : End) → end ≡ NoMatch → IsAnchored true (pattern_of p) →
    Ended p text end → false ≡ is_some (leftmost p text 0)
none_from_no_match p text end is anchored h =
    let ended : Ended p text NoMatch = subst (Ended p text) is h in
    sym (ap is_some (anchored_none (pattern_of p) text anchored (attempt_no_end p text 0 ended)))

pub leftmost_from_first : (p : Program) (text : List ℕ) →
    is_some (first_match p.dfa.nfa text (length text) 0 (length text)) ≡ is_some (leftmost p text 0)
leftmost_from_first p text = ap is_some (first_match-leftmost p text 0)

pub matches_from_program : (finder : Box Finder Global) (pattern text : List ℕ) → IsCompiled pattern (Some finder) →
    All (λ b. b < 256) text → is_some (leftmost finder.value.program text 0) ≡ matches pattern text
matches_from_program finder pattern text h small =
    found_from_read (whole pattern) finder.value.program.hir h.1 text small
    ∙ sym (cond-false (is_plain pattern) (pointwise nat_eq pattern text) (is_found (reading (whole pattern)) text) h.0)
