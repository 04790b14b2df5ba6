-- `references::Found::rule` meets its contract.
use Rattle.answers.specs.Drafts.{drafts_from}
use Rattle.drafts.specs.Faults.{draft_at}
use Rattle.stages.proofs.ReferenceLaws.{rule_nowhere, rule_somewhere}
use Rattle.stages.proofs.references.Found.rule.Goals as goal

pub returns-in-Some : goal.returns-in-Some
returns-in-Some c =
    let self = c.args.self.now in
    rule_somewhere self.src.now self.index.now (drafts_from self.table.now 0 self.count) (draft_at self.table.now c.args.row) c.own_mark.ensures _ c.in-Some.ensures
    c.parent.ensures c.form_round.ensures

pub returns-in-None : goal.returns-in-None
returns-in-None c =
    let self = c.args.self.now in
    rule_nowhere self.src.now self.index.now (drafts_from self.table.now 0 self.count) (draft_at self.table.now c.args.row) c.own_mark.ensures c.in-None.ensures
