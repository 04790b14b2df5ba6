-- `finish::strip` meets its contract: stripping the rows from the loop's on comes to the same table.
use Rattle.finish.proofs.RowLoops.{mapping_next, mapping_end, length_stripped}
use Rattle.finish.proofs.strip.Goals as goal

pub loop-row-preserved : goal.loop-row-preserved
loop-row-preserved c = mapping_next c.loop-row.invariant length_stripped c.loop-row-test.true c.strip_row.ensures

pub returns : goal.returns
returns c = mapping_end c.loop-row.invariant c.loop-row-test.false
