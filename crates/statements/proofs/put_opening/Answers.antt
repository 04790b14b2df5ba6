-- `statements::put_opening` meets its contract.
-- Assumes nothing.
use mathlib.Core.Path.{sym, ◌∙◌}
use Rattle.rows.specs.Table.{row_at}
use Rattle.spellings.proofs.Printing.{as_words}
use Rattle.statements.proofs.StatementLaws.{form_words, rule_words, subtitle_words, text_words, label_words, option_words, opens, opens_condition}
use Rattle.statements.proofs.put_opening.Goals as goal

pub put_question-requires : goal.put_question-requires
put_question-requires c = (c.cell-code.ensures, sym c.is_question.ensures ∙ c.if-is_question.true)

pub returns-in-14 : goal.returns-in-14
returns-in-14 c = as_words (opens (row_at c.args.table.now c.args.row) 14 (sym c.cell-code.ensures ∙ c.in-14.is)) c.put_form_set.ensures

pub returns-in-1 : goal.returns-in-1
returns-in-1 c = as_words (form_words _ ∙ opens (row_at c.args.table.now c.args.row) 1 (sym c.cell-code.ensures ∙ c.in-1.is)) c.put_phrase.ensures

pub returns-in-24 : goal.returns-in-24
returns-in-24 c = as_words (rule_words _ ∙ opens (row_at c.args.table.now c.args.row) 24 (sym c.cell-code.ensures ∙ c.in-24.is)) c.put_phrase-in-24.ensures

pub returns-in-2 : goal.returns-in-2
returns-in-2 c = as_words (subtitle_words _ ∙ opens (row_at c.args.table.now c.args.row) 2 (sym c.cell-code.ensures ∙ c.in-2.is)) c.put_phrase-in-2.ensures

pub returns-in-3 : goal.returns-in-3
returns-in-3 c = as_words (text_words _ ∙ opens (row_at c.args.table.now c.args.row) 3 (sym c.cell-code.ensures ∙ c.in-3.is)) c.put_phrase-in-3.ensures

pub returns-in-95 : goal.returns-in-95
returns-in-95 c = as_words (label_words _ ∙ opens (row_at c.args.table.now c.args.row) 95 (sym c.cell-code.ensures ∙ c.in-95.is)) c.put_phrase-in-95.ensures

pub returns-in-9 : goal.returns-in-9
returns-in-9 c = as_words (option_words _ ∙ opens (row_at c.args.table.now c.args.row) 9 (sym c.cell-code.ensures ∙ c.in-9.is)) c.put_phrase-in-9.ensures

pub returns-in_default : goal.returns-in_default
returns-in_default c = as_words (opens_condition (row_at c.args.table.now c.args.row) _ (sym c.cell-code.ensures) (sym c.is_question.ensures ∙ c.if-is_question.false) c.in_default.in_default-own.rest) c.put_condition.ensures
