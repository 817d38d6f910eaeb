use Rattle.std.proofs.Common.{ap, ◌∙◌, subst, is_some}
use Rattle.regex_meta.specs.Programs.{leftmost}
use Rattle.bt_pattern.specs.declared.finder.Finder.{Finder}
use Rattle.bt_pattern.specs.Patterns.{matches}
use Rattle.bt_pattern.specs.Compiled.{IsCompiled}
use Rattle.bt_pattern.proofs.Searches.{matches_from_program}
use Rattle.bt_pattern.proofs.pattern.Pattern.is_match.Goals as goal

pub returns-clause-answer : goal.returns-clause-answer
returns-clause-answer c =
    c.in_ok-found.ensures.found
    ∙ ap (λ (f : Finder). is_some (leftmost f.program c.args.text.now 0)) c.deref_mut.ensures.value
    ∙ matches_from_program c.in-Some.finder c.self.inside.text.items c.args.text.now (subst (IsCompiled c.self.inside.text.items) c.in-Some.is c.self.invariant) c.are_bytes.ensures
    ∙ ap (λ t. matches t c.args.text.now) c.self.view_is
