-- `choices::bad_choice` meets its contract: the first row that answers a place is the first fault.
use Rattle.std.proofs.Common.{rules}
use Rattle.stages.specs.Choices.{choice_fault}
use Rattle.drafts.proofs.FaultLaws.{first_answer, first_found}
use Rattle.stages.proofs.choices.bad_choice.Goals as goal

pub returns : goal.returns
returns c = first_found choice_fault _ _ (λ row m l e. search rules) _ (first_answer (λ a r f e. search rules) _ _ c.find_map.ensures.runs)
