-- `forms::is_form` meets its contract.
use Rattle.std.proofs.Common.{arith}
use Rattle.std.proofs.lemmas.Grind.{common_steps}
use Rattle.stages.proofs.FormLaws.{form_read, no_form}
use Rattle.stages.proofs.forms.is_form.Goals as goal

pub returns-then-row-count : goal.returns-then-row-count
returns-then-row-count c = form_read c.args.table.now c.args.count c.args.row c.if-row-count.true c.cell.ensures

pub returns-else-row-count : goal.returns-else-row-count
returns-else-row-count c = grind (arith, common_steps, no_form c.args.table.now c.args.count c.args.row c.if-row-count.false)
