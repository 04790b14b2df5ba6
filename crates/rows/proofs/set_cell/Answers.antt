-- `rows::set_cell` meets its contract.
use Rattle.std.proofs.Common.{arith, sym}
use Rattle.rows.proofs.CellLaws.{with_cell_inside, with_cell_outside, with_cell_past}
use Rattle.rows.proofs.set_cell.Goals as goal
use Rattle.rows.proofs.set_cell.Goals.{else-row-whole_rows-via-then-row-whole_rows+else-column-lt-ROW, else-row-whole_rows-via-else-row-whole_rows}

pub returns-then-column-lt-ROW : goal.returns-then-column-lt-ROW
returns-then-column-lt-ROW c = let a = c.args in with_cell_inside a.table.now a.row a.column a.value (omega arith) (omega arith)

pub returns-else-row-whole_rows : goal.returns-else-row-whole_rows
returns-else-row-whole_rows c =
    let a = c.args in
    elim c.else-row-whole_rows.branch [
      | else-row-whole_rows-via-then-row-whole_rows+else-column-lt-ROW w ↦ sym (with_cell_past a.table.now a.row a.column a.value (omega arith))
      | else-row-whole_rows-via-else-row-whole_rows w ↦ sym (with_cell_outside a.table.now a.row a.column a.value (omega arith))
    ]
