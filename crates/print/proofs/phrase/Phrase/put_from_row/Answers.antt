-- `print::phrase::Phrase::put_from_row` meets its contract.
-- Assumes nothing.
use Rattle.rows.specs.Table.{row_at}
use Rattle.spellings.proofs.Printing.{as_words}
use Rattle.print.proofs.PhraseLaws.{numeric_element, value_element}
use Rattle.print.proofs.phrase.Phrase.put_from_row.Goals as goal

pub returns-then-want-eq-NUMERIC_FLAGS : goal.returns-then-want-eq-NUMERIC_FLAGS
returns-then-want-eq-NUMERIC_FLAGS c =
    let a = c.args in
    as_words (numeric_element (row_at a.self.now.table.now a.self.now.row) a.want a.source c.if-want-eq-NUMERIC_FLAGS.true c.cell.ensures c.cell-then-want-eq-NUMERIC_FLAGS.ensures)
    c.put_numeric_flags.ensures

pub returns : goal.returns
returns c =
    let a = c.args in
    as_words (value_element (row_at a.self.now.table.now a.self.now.row) a.want a.source c.if-want-eq-NUMERIC_FLAGS.false c.value_from.ensures) c.put_element.ensures
