-- `circle_stage::circular_reference` meets its contract: without steps there is no fault, and else the closed map tells the first.
use Rattle.std.proofs.Common.{◌∙◌, ap, sym}
use Rattle.rows.specs.Marks.{marked}
use Rattle.rule_steps.specs.Steps.{rule_or_zero}
use Rattle.circle_stage.proofs.Circles.{none_found, first_found}
use Rattle.circle_stage.proofs.circular_reference.Goals as goal

pub returns-in_err-last : goal.returns-in_err-last
returns-in_err-last c = ap marked c.from_residual.ensures ∙ none_found _ _ c.add_steps.ensures.tells (ap rule_or_zero c.in_err-last.was)

pub returns : goal.returns
returns c =
    first_found _ _ c.empty-map.ensures c.add_steps.ensures.adds (ap rule_or_zero (sym c.in_ok-last.was) ∙ c.add_steps.ensures.tells)
    c.close.ensures c.first_place.ensures
