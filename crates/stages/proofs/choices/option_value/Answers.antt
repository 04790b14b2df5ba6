-- `choices::option_value` meets its contract.
use Rattle.std.proofs.Common.{arith}
use Rattle.rows.specs.Columns as column
use Rattle.rows.proofs.CellLaws.{cell_inside}
use Rattle.stages.proofs.choices.option_value.Goals as goal

pub returns : goal.returns
returns c = let a = c.args in cell_inside a.table.now a.row column.A c.requires (omega arith)
