-- `differ::first_difference` meets its contract: up to k all is the same.
-- Assumes nothing.
use Rattle.trials.proofs.DifferenceLaws.{Same}
use Rattle.trials.proofs.differ.first_difference.Given as goal

abbrev pub invariant-loop-k : goal.invariant-loop-k
invariant-loop-k l = Same l.table l.expected l.k
