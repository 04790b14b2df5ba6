-- `finish::resolve_references` meets its contract: resolving the rows from the loop's on comes to the same table.

use Rattle.finish.proofs.ReferenceLaws.{Resolving}
use Rattle.finish.proofs.resolve_references.Given as goal

abbrev pub invariant-loop-row : goal.invariant-loop-row
invariant-loop-row l = Resolving l.src l.index l.initial.table l.count l.table l.row
