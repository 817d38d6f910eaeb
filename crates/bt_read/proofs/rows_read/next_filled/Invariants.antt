use Rattle.std.proofs.Common.{◌≡◌, ℕ, ◌≤◌, List}
use Rattle.bt_read.specs.Answers.{found}
use Rattle.bt_read.proofs.Finding.{IsPast}
use Rattle.bt_read.proofs.rows_read.next_filled.Given as goal

-- the rows so far were passed over
abbrev pub invariant-loop-row : goal.invariant-loop-row
invariant-loop-row g l = record {
  same : g.X.Reading.same l.initial.x l.x;
  most : g.R.Rows.most l.rows ≤ g.R.Rows.most l.initial.rows;
  node : l.node ≡ l.initial.node;
  order : (key : List ℕ) → IsPast (g.R.Rows.key_at_hand l.rows) key → IsPast (g.R.Rows.key_at_hand l.initial.rows) key;
  found : g.X.Reading.tells l.initial.x → found l.initial.node (g.R.Rows.left l.initial.rows l.initial.x).rows ≡ found l.initial.node (g.R.Rows.left l.rows l.x).rows;
}

abbrev pub decreases-loop-row : goal.decreases-loop-row
decreases-loop-row g l = g.R.Rows.most l.rows
