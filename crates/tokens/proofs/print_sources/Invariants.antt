-- `print_sources` ends: what is left after a separator is shorter.
use Rattle.std.proofs.Common.{◌≤◌, length}
use Rattle.tokens.proofs.print_sources.Given as goal

abbrev pub invariant-loop-end : goal.invariant-loop-end
invariant-loop-end g l = length l.rest ≤ length l.src

abbrev pub decreases-loop-end : goal.decreases-loop-end
decreases-loop-end g l = length l.rest
