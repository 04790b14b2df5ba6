-- `rows::put_row` meets its contract: the cells stand in place of the row, where there is one.
use Rattle.std.proofs.Common.{◌*◌, ◌∙◌, arith, rules, sym}
use Rattle.std.proofs.lemmas.Slice.{put_mid-paste}
use Rattle.rows.specs.Columns.{ROW}
use Rattle.rows.proofs.RowLaws.{pasted_row, with_row_outside}
use Rattle.rows.proofs.put_row.Goals as goal

pub returns-then-row-whole_rows : goal.returns-then-row-whole_rows
returns-then-row-whole_rows c =
    let a = c.args in
    put_mid-paste (a.row * ROW) _ a.table.now _ a.cells ROW c.copy_from_slice.ensures.after (omega arith) (sym (search rules))
    ∙ pasted_row a.table.now a.row a.cells (omega arith) (search rules)

pub returns-else-row-whole_rows : goal.returns-else-row-whole_rows
returns-else-row-whole_rows c = sym (with_row_outside c.args.table.now c.args.row c.args.cells (omega arith))
