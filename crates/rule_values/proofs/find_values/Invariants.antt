-- `rule_values::find_values` meets its contract: the values of the rules at the places left of the order are still to be found.
use Rattle.rule_values.proofs.ValueLaws.{Finding}
use Rattle.rule_values.proofs.find_values.Given as goal

abbrev pub invariant-loop-k : goal.invariant-loop-k
invariant-loop-k l =
    Finding l.answers.saved.now l.answers.gotos.now l.answers.checkboxes.now l.table l.count l.places l.order l.initial.values l.values l.k-index
