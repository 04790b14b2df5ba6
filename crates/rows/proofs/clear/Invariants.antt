-- `rows::clear` meets its contract: what the loop has passed is zero.
use Rattle.std.proofs.Common.{◌≡◌, take, replicate}
use Rattle.rows.proofs.clear.Given as goal

abbrev pub invariant-loop-x : goal.invariant-loop-x
invariant-loop-x g l = take l.x-index l.rest ≡ replicate l.x-index g.T.Cleared.ZERO
