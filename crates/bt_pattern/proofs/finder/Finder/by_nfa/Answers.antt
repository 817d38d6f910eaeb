use Rattle.std.proofs.Common.{◌∙◌}
use Rattle.bt_pattern.proofs.Searches.{leftmost_from_first}
use Rattle.bt_pattern.proofs.finder.Finder.by_nfa.Goals as goal

pub returns-clause-found : goal.returns-clause-found
returns-clause-found c = c.is_match-found.ensures.found ∙ leftmost_from_first c.args.self.now.program c.args.text.now
