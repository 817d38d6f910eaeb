use Rattle.bt_filter_run.proofs.Weights.{weight, total_weight, part_weight}
use Rattle.bt_filter_run.proofs.step.+run.Given as goal

abbrev pub decreases-run : goal.decreases-run
decreases-run l = weight l.step.now

abbrev pub decreases-run_chain : goal.decreases-run_chain
decreases-run_chain l = total_weight l.steps.now

abbrev pub decreases-run_interleave : goal.decreases-run_interleave
decreases-run_interleave l = total_weight l.steps.now

abbrev pub decreases-gives_some : goal.decreases-gives_some
decreases-gives_some l = part_weight l.predicate.now

abbrev pub decreases-run_branch : goal.decreases-run_branch
decreases-run_branch l = part_weight l.branch.now
