-- `repeats::repeated_question` meets its contract.
use Rattle.stages.specs.Repeats.{written_number}
use Rattle.stages.proofs.repeats.repeated_question.Given as goal

abbrev pub ghost-repeated : goal.ghost-repeated
ghost-repeated a = written_number
