-- `read::accept::finish_large` meets its contract: the index has room for as many names as a source can declare.
-- Assumes nothing.
use native.Mathlib.Omega.{arith}
use Rattle.read.proofs.FinishLaws.{index_most}
use Rattle.read.proofs.accept.finish_large.Goals as goal

pub finish_with-requires : goal.finish_with-requires
finish_with-requires c =
    let pre = c.requires in
    (pre, index_most pre 11946 c.index_names.ensures.index_after (omega arith))
