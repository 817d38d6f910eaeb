use Rattle.std.proofs.Common.{rules}
use Rattle.bt_pattern.proofs.Searches.{some_from_at, none_from_no_match}
use Rattle.bt_pattern.proofs.finder.Finder.by_dfa.Goals as goal

pub returns-in-At-clause-found : goal.returns-in-At-clause-found
returns-in-At-clause-found c = some_from_at c.args.self.now.program c.args.text.now _ _ c.in-At.is c.find_end.ensures.end

pub returns-in-NoMatch-clause-found : goal.returns-in-NoMatch-clause-found
returns-in-NoMatch-clause-found c =
    none_from_no_match c.args.self.now.program c.args.text.now _ c.in-NoMatch.is (c.is_anchored_start.ensures.anchored (search rules)) c.find_end.ensures.end
