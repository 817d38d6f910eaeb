use Rattle.std.proofs.Common.{◌≡◌, ◌++◌}
use Rattle.std.specs.Vec.Iter.{into_iter_items}
use Rattle.bt_table_replies.specs.Tables.{families_of, first_bad_family}
use Rattle.bt_table_replies.proofs.families.lawful_families.Given as goal

-- no family so far has a fault, and the families so far are those that were asked for
abbrev pub invariant-loop-family : goal.invariant-loop-family
invariant-loop-family l = record {
  passed : first_bad_family l.fn.asked ≡ first_bad_family (into_iter_items l.family-iterator);
  made : l.families ++ families_of (into_iter_items l.family-iterator) ≡ families_of l.fn.asked;
}
