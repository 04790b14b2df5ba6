-- `finish::number_found` meets its contract.
use Rattle.finish.proofs.ReferenceLaws.{number_written, number_none, number_named}
use Rattle.finish.proofs.number_found.Goals as goal

pub returns-then-n-ne0 : goal.returns-then-n-ne0
returns-then-n-ne0 c = number_written c.args.src.now c.args.index.now c.args.table.now c.args.row c.cell-n.ensures c.if-n-ne0.true

pub returns-in-Some : goal.returns-in-Some
returns-in-Some c =
    number_named c.args.src.now c.args.index.now c.args.table.now c.args.row c.cell-n.ensures c.if-n-ne0.false c.cell-rule.ensures c.own_mark.ensures _
    c.in-Some.ensures c.cell.ensures

pub returns-in-None : goal.returns-in-None
returns-in-None c =
    number_none c.args.src.now c.args.index.now c.args.table.now c.args.row c.cell-n.ensures c.if-n-ne0.false c.cell-rule.ensures c.own_mark.ensures
    c.in-None.ensures
