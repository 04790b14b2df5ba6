-- `read::accept::finish` meets its contract: the index has room for the names.
-- Assumes nothing.
use native.Mathlib.Omega.{arith}
use Rattle.read.proofs.FinishLaws.{index_few}
use Rattle.read.proofs.accept.finish.Goals as goal

pub finish_with-requires : goal.finish_with-requires
finish_with-requires c = (c.requires, index_few c.requires 2048 c.index_names-named.ensures.index_after (omega (arith, c.index_names-named.ensures.value, c.if-named-gt-FEW.false)))
