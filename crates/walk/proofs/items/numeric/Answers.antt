-- `walk::items::numeric` meets its contract: a phrase, its row, and the first number that does not fit.
-- Assumes nothing.
use Rattle.std.proofs.lemmas.Result.{err_from_is_err_and}
use Rattle.walk.proofs.Walks.{halts}
use Rattle.walk.proofs.ItemSteps.{numeric_off, numeric_reads}
use Rattle.walk.proofs.items.numeric.Goals as goal

pub returns-in_err-end : goal.returns-in_err-end
returns-in_err-end c =
    let p = err_from_is_err_and c.from_residual.result c.from_residual.ensures.1 in
    rw (p.1, p.2) (numeric_off c.requires.1 c.in_err-end.ensures (halts c.in_err-end.field-0.0))

pub returns : goal.returns
returns c = numeric_reads c.requires.1 c.in_ok-end.ensures c.put_phrase_row.ensures (rw c.with_outside-noted.ensures (rw c.first_oversized.ensures))
