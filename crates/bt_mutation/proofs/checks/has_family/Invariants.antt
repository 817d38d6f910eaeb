use Rattle.std.proofs.Common.{◌≡◌, take, false}
use Rattle.bt_mutation.specs.Checks.{has_family}
use Rattle.bt_mutation.proofs.checks.has_family.Given as goal

-- none of the families so far has the name
abbrev pub invariant-loop-family : goal.invariant-loop-family
invariant-loop-family l = has_family (take l.family-index l.families) l.name ≡ false
