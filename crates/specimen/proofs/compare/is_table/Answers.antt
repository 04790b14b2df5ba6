-- `compare::is_table` meets its contract: a table that differs nowhere is the cells with zeros behind them.
-- Assumes nothing.
use Rattle.std.proofs.Common.{length, arith}
use Rattle.trials.proofs.DifferenceLaws.{no_difference}
use Rattle.specimen.proofs.compare.is_table.Goals as goal

pub returns-in_default : goal.returns-in_default
returns-in_default g c e =
    no_difference c.args.table.now c.args.cells.now (length c.args.table.now) c.in_default.ensures.first (omega arith) (omega arith)
