-- `family::is_bad` meets its contract.
-- Assumes nothing.
use Rattle.family.specs.Family.{is_bad}
use Rattle.family.proofs.is_bad.Goals as goal

pub returns : goal.returns
unfolding is_bad
returns c = rw c.bad_ends.ensures
