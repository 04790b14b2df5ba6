-- `finish::strip_row` meets its contract.
use Rattle.finish.proofs.RowLoops.{row_stripped}
use Rattle.finish.proofs.strip_row.Goals as goal

pub returns : goal.returns
returns c = row_stripped c.args.table.now c.args.row c.strip_cell.ensures c.strip_cell-2.ensures c.strip_cell-3.ensures
