-- `positions::position_at` meets its contract: no line and no column of a source is as large as 2^64.
use Rattle.std.proofs.Common.{◌∙◌, arith}
use Rattle.positions.proofs.Laws.{position_start}
use Rattle.positions.proofs.position_at.Goals as goal

pub returns : goal.returns
returns c =
    let args = c.args in
    c.onward.ensures ∙ position_start args.src.now args.at (omega (arith, c.well_formed.0.1))
