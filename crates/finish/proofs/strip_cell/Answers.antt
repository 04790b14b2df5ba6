-- `finish::strip_cell` meets its contract.
use Rattle.finish.proofs.RowLoops.{cell_stripped}
use Rattle.finish.proofs.strip_cell.Goals as goal

pub returns : goal.returns
returns c = cell_stripped c.args.table.now c.args.row c.args.column c.cell.ensures c.low-kept.ensures c.set_cell.ensures
