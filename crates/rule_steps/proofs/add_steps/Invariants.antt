-- `rule_steps::add_steps` meets its contract: what is left of the rows is still to be added.
use Rattle.rule_steps.specs.Steps.{rule_or_zero}
use Rattle.rule_steps.proofs.Loop.{Adding}
use Rattle.rule_steps.proofs.add_steps.Given as goal

abbrev pub invariant-loop-row : goal.invariant-loop-row
invariant-loop-row l = Adding l.table l.count l.initial.map l.map (rule_or_zero l.last) l.row
