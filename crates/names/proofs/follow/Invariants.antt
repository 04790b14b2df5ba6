-- `names::follow` meets its contract: the chain from the loop's entry ends like the whole one.
use Rattle.names.specs.Names.{matches}
use Rattle.rows.specs.Marks.{marked}
use Rattle.names.proofs.ChainLaws.{Following}
use Rattle.names.proofs.follow.Given as goal

abbrev pub invariant-loop-entry : goal.invariant-loop-entry
invariant-loop-entry l = Following (matches l.src l.tag (marked l.name)) l.entries l.first l.at

abbrev pub decreases-loop-entry : goal.decreases-loop-entry
decreases-loop-entry l = l.at
