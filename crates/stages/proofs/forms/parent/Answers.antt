-- `forms::parent` meets its contract.
use Rattle.stages.proofs.FormLaws.{parent_read, no_parent}
use Rattle.stages.proofs.forms.parent.Goals as goal

pub returns-then-row-count : goal.returns-then-row-count
returns-then-row-count c = parent_read c.args.table.now c.args.count c.args.row c.if-row-count.true c.cell.ensures

pub returns-else-row-count : goal.returns-else-row-count
returns-else-row-count c = no_parent c.args.table.now c.args.count c.args.row c.if-row-count.false
