use Rattle.std.proofs.Common.{◌≡◌, ◌+◌, length, map}
use Rattle.std.specs.List.{AllByRecursion}
use Rattle.bt_plans.specs.Records.{numbered_on}
use Rattle.bt_row_replies.specs.Drops.{IsKey, cut_every, deletion_of}
use Rattle.bt_row_replies.proofs.drop_row_range.deletions.Given as goal

-- the deletions of the rows so far
abbrev pub invariant-loop-key : goal.invariant-loop-key
invariant-loop-key l = record {
  records : l.records.items ≡ numbered_on l.first l.moment (cut_every 1000 (map (deletion_of l.table) l.yielded));
  sequence : l.sequence ≡ l.first + length l.yielded;
  keys : AllByRecursion IsKey l.yielded;
}
