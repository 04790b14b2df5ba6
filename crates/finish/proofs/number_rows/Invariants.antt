-- `finish::number_rows` meets its contract: numbering the rows from the loop's on comes to the same table and map.

use Rattle.finish.proofs.NumberLaws.{Numbering}
use Rattle.finish.proofs.number_rows.Given as goal

abbrev pub invariant-loop-row : goal.invariant-loop-row
invariant-loop-row l = Numbering l.initial.used l.initial.table l.count l.used l.table l.at l.row
