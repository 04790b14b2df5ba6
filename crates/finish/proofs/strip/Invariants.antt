-- `finish::strip` meets its contract: stripping the rows from the loop's on comes to the same table.

use Rattle.finish.specs.Finish.{stripped}
use Rattle.finish.proofs.RowLoops.{Mapping}
use Rattle.finish.proofs.strip.Given as goal

abbrev pub invariant-loop-row : goal.invariant-loop-row
invariant-loop-row l = Mapping stripped l.initial.table l.count l.table l.row
