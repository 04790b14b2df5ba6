-- `references::Found::question` meets its contract.
use mathlib.Core.Path.{refl, ◌∙◌}
use Rattle.rows.specs.Columns as column
use Rattle.drafts.specs.Faults.{draft_at}
use Rattle.drafts.proofs.DraftLaws.{cell_read}
use Rattle.stages.proofs.ReferenceLaws.{question_named, question_numbered}
use Rattle.stages.proofs.references.Found.question.Goals as goal

pub returns-then-n-eq0 : goal.returns-then-n-eq0
returns-then-n-eq0 c =
    let self = c.args.self.now in
    c.is_some.ensures
    ∙ question_named self.src.now self.index.now self.used.now (draft_at self.table.now c.args.row) (cell_read _ _ column.A refl c.cell-n.ensures) c.if-n-eq0.true _
    c.own_mark.ensures c.find.ensures

pub returns-else-n-eq0 : goal.returns-else-n-eq0
returns-else-n-eq0 c =
    let self = c.args.self.now in
    c.has.ensures
    ∙ question_numbered self.src.now self.index.now self.used.now (draft_at self.table.now c.args.row) (cell_read _ _ column.A refl c.cell-n.ensures) c.if-n-eq0.false
