-- `walk::finish` meets its contract, one return for each way in which a walk ends.
-- Assumes nothing.
use mathlib.Core.Path.{◌≡◌}
use borrow.Author.Tests.{eq-eqb, ne_eqb}
use Rattle.walk.specs.Whole.{ended}
use Rattle.walk.proofs.Walks.{halts}
use Rattle.walk.proofs.finish.Goals as goal

pub returns-in-Ok : goal.returns-in-Ok
unfolding ended
returns-in-Ok c = rw (c.in-Ok.is, eq-eqb _ _ c.if-s-eq-END.true)

pub returns-in-Ok-2 : goal.returns-in-Ok-2
unfolding ended
returns-in-Ok-2 c =
    let same : c.in-Ok-2.s ≡ c.in-Ok.s = cc in
    rw (c.in-Ok-2.is, same, ne_eqb _ _ c.if-s-eq-END.false)

pub returns-in-Err : goal.returns-in-Err
unfolding ended
returns-in-Err c = rw (c.in-Err.is, ne_eqb _ _ (halts c.in-Err.halt), eq-eqb _ _ c.if-halt-eq-END.true)

pub returns-in-Err-2 : goal.returns-in-Err-2
unfolding ended
returns-in-Err-2 c =
    let same : c.in-Err-2.halt ≡ c.in-Err.halt = cc in
    rw (c.in-Err-2.is, same, ne_eqb _ _ (halts c.in-Err.halt), ne_eqb _ _ c.if-halt-eq-END.false)
