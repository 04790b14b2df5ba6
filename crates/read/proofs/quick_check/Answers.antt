-- `read::quick_check` meets its contract: a survey of the source, whatever table is lent.
-- Assumes nothing.
use Rattle.read.proofs.ReadLaws.{quick_passed, quick_refused}
use Rattle.read.proofs.quick_check.Goals as goal

pub returns-in-Ok : goal.returns-in-Ok
returns-in-Ok c = quick_passed c.in-Ok.ensures

pub returns-in-Err : goal.returns-in-Err
returns-in-Err c = quick_refused _ _ c.in-Err.ensures.0 c.from.ensures
