-- `text::resolve` meets its contract.
-- Assumes nothing.
use mathlib.Core.Path.{sym, ap, ◌∙◌}
use Rattle.read.specs.Answers as read
use Rattle.text.proofs.ResolveLaws.{resolved, unread}
use borrow.Author.Rules.{rules}
use Rattle.text.proofs.resolve.Goals as goal

pub returns-in-Ok : goal.returns-in-Ok
returns-in-Ok c =
    let args = c.args in
    let reading = c.read in let it = resolved args.src.now _ (ap read.told (sym c.in-Ok.is) ∙ reading.ensures.result_value) reading.ensures.table_after (search rules)
    (λ i. search rules) c.print_rows.ensures in record { result_value = it.0; table_after = it.1.0; out_after = it.1.1 }

pub returns-in-Err : goal.returns-in-Err
returns-in-Err c =
    let args = c.args in
    let reading = c.read in
    let it = unread args.src.now _ args.out.now _ (ap read.told (sym c.in-Err.is) ∙ reading.ensures.result_value) reading.ensures.table_after c.clear.ensures in
    record { result_value = rw c.into.ensures it.0; table_after = it.1.0; out_after = it.1.1 }
