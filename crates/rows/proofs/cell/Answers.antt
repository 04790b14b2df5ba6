-- `rows::cell` meets its contract.
use Rattle.std.proofs.Common.{arith, sym}
use Rattle.rows.proofs.CellLaws.{cell_inside, cell_outside, cell_past}
use Rattle.rows.proofs.cell.Goals as goal
use Rattle.rows.proofs.cell.Goals.{then-whole_rows-row-via-then-whole_rows-row, then-whole_rows-row-via-else-whole_rows-row+then-column-ge-ROW}

pub returns-then-whole_rows-row : goal.returns-then-whole_rows-row
returns-then-whole_rows-row c =
    let a = c.args in
    elim c.then-whole_rows-row.branch [
      | then-whole_rows-row-via-then-whole_rows-row w ↦ sym (cell_outside a.table.now a.row a.column (omega arith))
      | then-whole_rows-row-via-else-whole_rows-row+then-column-ge-ROW w ↦ sym (cell_past a.table.now a.row a.column (omega arith))
    ]

pub returns : goal.returns
returns c = let a = c.args in cell_inside a.table.now a.row a.column (omega arith) (omega arith)
