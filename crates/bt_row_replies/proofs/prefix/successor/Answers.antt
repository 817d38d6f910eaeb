use Rattle.std.proofs.Common.{◌≡◌, ◌<◌, ◌+◌, ◌++◌, [], ◌∷◌, Some, rules, arith, ap, sym, ◌∙◌}
use Rattle.bt_row_replies.proofs.Prefixes.{successor-push, successor-push_greatest}
use Rattle.bt_row_replies.specs.Prefixes.{successor}
use Rattle.bt_row_replies.proofs.prefix.successor.Goals as goal

pub returns-then-last-lt255 : goal.returns-then-last-lt255
returns-then-last-lt255 c =
    let popped : c.loop-last.end.items ≡ c.pop.new.self.items ++ c.in-Some.last ∷ [] = search rules in
    let less : c.in-Some.last < 255 = search rules in
    let made : c.from_vec.result ≡ c.pop.new.self.items ++ (c.in-Some.last + 1) ∷ [] = search rules in
    ap Some made ∙ sym (successor-push c.pop.new.self.items c.in-Some.last less) ∙ ap successor (sym popped) ∙ c.loop-last.invariant

pub loop-last-preserved : goal.loop-last-preserved
loop-last-preserved c =
    let popped : c.loop-last.end.items ≡ c.pop.new.self.items ++ c.in-Some.last ∷ [] = search rules in
    let byte : c.in-Some.last < 256 = search rules in
    let greatest : c.in-Some.last ≡ 255 = omega (arith, byte) in
    sym (successor-push_greatest c.pop.new.self.items c.in-Some.last greatest) ∙ ap successor (sym popped) ∙ c.loop-last.invariant
