-- `statements::put_question` meets its contract.
-- Assumes nothing.
use mathlib.Core.Path.{sym, ◌∙◌}
use Rattle.rows.specs.Table.{row_at}
use Rattle.spellings.proofs.Printing.{as_words}
use Rattle.statements.proofs.StatementLaws.{goto_opens, checkbox_opens, numeric_opens, one_of_opens, question_rest}
use Rattle.statements.proofs.put_question.Goals as goal

pub returns-in-15 : goal.returns-in-15
returns-in-15 c =
    let m = c in
    let s = m in
    as_words (goto_opens (row_at s.args.table.now s.args.row) (sym s.requires.0 ∙ m.in-15.is)) c.put_phrase.ensures

pub returns-in-6 : goal.returns-in-6
returns-in-6 c =
    let m = c in
    let s = m in
    as_words (checkbox_opens (row_at s.args.table.now s.args.row) (sym s.requires.0 ∙ m.in-6.is)) c.put_phrase-in-6.ensures

pub returns-in-7 : goal.returns-in-7
returns-in-7 c =
    let m = c in
    let s = m in
    as_words (numeric_opens (row_at s.args.table.now s.args.row) (sym s.requires.0 ∙ m.in-7.is)) c.put_phrase-in-7.ensures

pub returns-in_default : goal.returns-in_default
returns-in_default c =
    let m = c in
    let s = m in
    let k = question_rest _ s.requires.1 m.in_default.in_default-own.rest in
    as_words (one_of_opens (row_at s.args.table.now s.args.row) (sym s.requires.0 ∙ k)) c.put_phrase-in_default.ensures
