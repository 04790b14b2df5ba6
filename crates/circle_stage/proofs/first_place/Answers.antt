-- `circle_stage::first_place` meets its contract: the first row that answers a place is the first fault.
use Rattle.std.proofs.Common.{rules}
use Rattle.answers.specs.Drafts.{drafts_from}
use Rattle.answers.specs.Stages.{draft_rows}
use Rattle.circles.specs.Circles.{circular_in}
use Rattle.drafts.specs.Faults.{alone}
use Rattle.drafts.proofs.FaultLaws.{first_answer, first_found}
use Rattle.circle_stage.specs.Circular.{mark_if}
use Rattle.circle_stage.proofs.first_place.Goals as goal

pub returns : goal.returns
returns c =
    first_found (alone (mark_if (circular_in c.args.map.now) (draft_rows (drafts_from c.args.table.now 0 c.args.count)))) _ _
    (λ row m l e. search rules) _ (first_answer (λ a r f e. search rules) _ _ c.find_map.ensures.runs)
