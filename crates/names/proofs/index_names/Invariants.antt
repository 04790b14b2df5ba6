-- `names::index_names` meets its contract: the rows from the loop's on are entered.
use Rattle.names.proofs.NameLaws.{Entering}
use Rattle.names.proofs.index_names.Given as goal

abbrev pub invariant-loop-row : goal.invariant-loop-row
invariant-loop-row l = Entering l.src l.table l.count l.initial.index l.index l.named l.row
