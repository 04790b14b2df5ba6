-- `names::repeated_name` meets its contract: the first row that answers a place is the first that repeats a name.
use Rattle.std.proofs.Common.{rules}
use Rattle.drafts.proofs.FaultLaws.{first_answer}
use Rattle.names.proofs.NameLaws.{first_repeated}
use Rattle.names.proofs.repeated_name.Goals as goal

pub returns : goal.returns
returns c = first_repeated _ _ _ _ (λ row m l e. search rules) _ (first_answer (λ a r f e. search rules) _ _ c.find_map.ensures.runs)
