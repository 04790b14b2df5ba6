-- `references::unfound` meets its contract: the first row that answers a place is the first fault.
use Rattle.std.proofs.Common.{rules}
use Rattle.answers.specs.Drafts.{drafts_from}
use Rattle.drafts.specs.Faults.{alone}
use Rattle.drafts.proofs.FaultLaws.{first_answer, first_found}
use Rattle.stages.specs.References.{reference_fault}
use Rattle.stages.proofs.references.unfound.Goals as goal

pub returns : goal.returns
returns c =
    let fault = reference_fault c.args.src.now c.args.index.now c.args.forms.now c.args.used.now (drafts_from c.args.table.now 0 c.args.count) in
    first_found (alone fault) _ _ (λ row m l e. search rules) _ (first_answer (λ a r f e. search rules) _ _ c.find_map.ensures.runs)
