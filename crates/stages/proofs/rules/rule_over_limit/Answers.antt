-- `rules::rule_over_limit` meets its contract: the first row that answers a place is the first fault.
use Rattle.std.proofs.Common.{rules}
use Rattle.drafts.specs.Faults.{alone}
use Rattle.drafts.proofs.FaultLaws.{first_answer, first_found}
use Rattle.stages.specs.Rules.{rule_fault}
use Rattle.stages.proofs.rules.rule_over_limit.Goals as goal

pub returns : goal.returns
returns c = first_found (alone rule_fault) _ _ (λ row m l e. search rules) _ (first_answer (λ a r f e. search rules) _ _ c.find_map.ensures.runs)
