use Rattle.std.proofs.Common.{◌≡◌, ◌+◌, ◌++◌, length, map}
use Rattle.std.specs.Prelude.{IsTrue}
use Rattle.std.specs.List.{AllByRecursion}
use Rattle.bt_table_replies.specs.Losses.{loss_entry}
use Rattle.bt_plans.specs.Records.{numbered_from}
use Rattle.bt_types.specs.Grammar.{is_row_key}
use Rattle.bt_table_replies.proofs.losses.loss_entries.Given as goal

-- the entries so far, and those of the rows that are left, by whose keys all keys can be written
abbrev pub invariant-loop-key : goal.invariant-loop-key
invariant-loop-key l = (goal.iterator-loop-key).can_next l.key-iterator
    × (l.batch ++ numbered_from (l.first + length l.batch) l.moment (map (loss_entry l.incarnation) l.key-iterator) ≡ numbered_from l.first l.moment (map (loss_entry l.incarnation) l.initial.key-iterator))
    × (AllByRecursion (λ e. IsTrue (is_row_key e.0)) l.key-iterator → AllByRecursion (λ e. IsTrue (is_row_key e.0)) l.initial.key-iterator)
