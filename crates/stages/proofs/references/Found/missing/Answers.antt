-- `references::Found::missing` meets its contract.
use mathlib.Core.Path.{refl, ◌∙◌}
use native.Mathlib.Omega.{arith}
use Rattle.rows.specs.Columns as column
use Rattle.answers.specs.Drafts.{drafts_from}
use Rattle.drafts.specs.Faults.{draft_at}
use Rattle.drafts.proofs.DraftLaws.{cell_read}
use Rattle.stages.proofs.ReferenceLaws.{goto_found, goto_unfound, question_found, question_unfound, rule_found_lem, rule_unfound, refers_not}
use Rattle.stages.proofs.references.Found.missing.Goals as goal

pub returns-in-15 : goal.returns-in-15
returns-in-15 c =
    let self = c.args.self.now in
    c.limit_mark.ensures
    ∙ goto_unfound self.src.now self.index.now self.forms.now self.used.now (drafts_from self.table.now 0 self.count) (draft_at self.table.now c.args.row)
    (cell_read _ _ column.CODE refl c.cell.ensures) c.in-15.is refl c.form.ensures c.if-not-form.true

pub returns-in-64 : goal.returns-in-64
returns-in-64 c =
    let self = c.args.self.now in
    c.own_mark.ensures
    ∙ question_unfound self.src.now self.index.now self.forms.now self.used.now (drafts_from self.table.now 0 self.count) (draft_at self.table.now c.args.row)
    (cell_read _ _ column.CODE refl c.cell.ensures) c.in-64.is c.question.ensures c.if-not-question.true

pub returns-in-63 : goal.returns-in-63
returns-in-63 c =
    let self = c.args.self.now in
    c.own_mark-in-63.ensures
    ∙ rule_unfound self.src.now self.index.now self.forms.now self.used.now (drafts_from self.table.now 0 self.count) (draft_at self.table.now c.args.row)
    (cell_read _ _ column.CODE refl c.cell.ensures) c.in-63.is c.rule.ensures c.if-not-rule.true

pub returns-in_default : goal.returns-in_default
returns-in_default c =
    let self = c.args.self.now in
    goto_found self.src.now self.index.now self.forms.now self.used.now (drafts_from self.table.now 0 self.count) (draft_at self.table.now c.args.row)
    (cell_read _ _ column.CODE refl c.cell.ensures) c.in-15.is refl c.form.ensures c.if-not-form.false

pub returns-in_default-2 : goal.returns-in_default-2
returns-in_default-2 c =
    let self = c.args.self.now in
    question_found self.src.now self.index.now self.forms.now self.used.now (drafts_from self.table.now 0 self.count) (draft_at self.table.now c.args.row)
    (cell_read _ _ column.CODE refl c.cell.ensures) c.in-64.is c.question.ensures c.if-not-question.false

pub returns-in_default-3 : goal.returns-in_default-3
returns-in_default-3 c =
    let self = c.args.self.now in
    rule_found_lem self.src.now self.index.now self.forms.now self.used.now (drafts_from self.table.now 0 self.count) (draft_at self.table.now c.args.row)
    (cell_read _ _ column.CODE refl c.cell.ensures) c.in-63.is c.rule.ensures c.if-not-rule.false

pub returns-in_default-4 : goal.returns-in_default-4
returns-in_default-4 c =
    let self = c.args.self.now in
    refers_not self.src.now self.index.now self.forms.now self.used.now (drafts_from self.table.now 0 self.count) (draft_at self.table.now c.args.row)
    (cell_read _ _ column.CODE refl c.cell.ensures) (λ e. omega arith) (λ e. omega arith) (λ e. omega arith)
