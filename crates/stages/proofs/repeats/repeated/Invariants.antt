-- `repeats::repeated` meets its contract: from the loop's row on with its map it comes to the same mark and map.
use Rattle.stages.proofs.RepeatLaws.{Repeating}
use Rattle.stages.proofs.repeats.repeated.Given as goal

abbrev pub invariant-loop-row : goal.invariant-loop-row
invariant-loop-row g l = Repeating g.of_draft l.initial.map l.table l.count l.map l.row
