-- `repeats::repeated_form` meets its contract.
use Rattle.stages.specs.Repeats.{form_number}
use Rattle.stages.proofs.repeats.repeated_form.Given as goal

abbrev pub ghost-repeated : goal.ghost-repeated
ghost-repeated a = form_number
