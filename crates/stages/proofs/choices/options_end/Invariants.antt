-- `choices::options_end` meets its contract.
use Rattle.stages.proofs.ChoiceLaws.{Passing}
use Rattle.stages.proofs.choices.options_end.Given as goal

abbrev pub invariant-loop-row : goal.invariant-loop-row
invariant-loop-row l = Passing l.table l.first l.count l.row
