-- `walk::steps::put_phrase_row` meets its contract: where no whole row fits, the table stays as it is.
-- Assumes nothing.
use mathlib.Core.Path.{sym}
use native.Mathlib.Omega.{arith}
use Rattle.rows.proofs.RowLaws.{with_row_outside}
use Rattle.walk.proofs.steps.put_phrase_row.Goals as goal

pub returns-else-s-whole_rows : goal.returns-else-s-whole_rows
returns-else-s-whole_rows c =
    let a = c.args in
    sym (with_row_outside a.table.now a.s.rows _ (omega arith))
