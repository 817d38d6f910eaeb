use Rattle.std.proofs.Common.{◌≡◌, ◌+◌, ◌++◌, length, map}
use Rattle.std.specs.List.{AllByRecursion}
use Rattle.std.specs.Vec.Iter.{into_iter_items}
use Rattle.bt_entry.specs.Grammar.{IsSpellableEntry}
use Rattle.bt_plans.specs.Records.{numbered_from}
use Rattle.bt_row_replies.specs.MutateRows.{accepted, entry_refusal, row_of, status_of}
use Rattle.bt_row_replies.proofs.mutate_rows.judge_all.Given as goal

-- what became of the entries so far, and what becomes of the others
abbrev pub invariant-loop-entry : goal.invariant-loop-entry
invariant-loop-entry l = record {
  statuses : l.judged.statuses ++ map (λ e. status_of (entry_refusal l.table e)) (into_iter_items l.entry-iterator) ≡ map (λ e. status_of (entry_refusal l.table e)) l.fn.entries;
  rows : l.judged.rows ++ numbered_from (l.first + length l.judged.rows) l.moment (map (row_of l.moment l.table) (accepted l.table (into_iter_items l.entry-iterator)))
      ≡ numbered_from l.first l.moment (map (row_of l.moment l.table) (accepted l.table l.fn.entries));
  spellable : AllByRecursion (λ n. IsSpellableEntry n.entry) l.judged.rows;
}
