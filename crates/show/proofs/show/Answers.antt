-- `show::show` meets its contract.
use Rattle.read.proofs.AcceptedRows.{refusal_refused}
use Rattle.show.proofs.ShowLaws.{shown_accepted, unshown}
use borrow.Author.Rules.{rules}
use Rattle.show.proofs.show.Goals as goal

pub returns-in-Ok : goal.returns-in-Ok
returns-in-Ok c =
    let args = c.args in
    let read = c.in-Ok.ensures in
    let e = c.show_rows.ensures in
    let it = shown_accepted args.src.now args.answers.now _ args.out.now read.result_value read.table_after (search rules) (e.result_value, (e.table_after, e.out_after)) in
    record { result_value = it.0; table_after = it.1.0; out_after = it.1.1 }

pub returns-in-Err : goal.returns-in-Err
returns-in-Err c =
    let args = c.args in
    let read = c.in-Err.ensures in
    let it = unshown args.src.now args.answers.now _ args.out.now read.result_value read.table_after c.clear.ensures (refusal_refused _ _ _ read.result_value) in
    record { result_value = rw c.into.ensures it.0; table_after = it.1.0; out_after = it.1.1 }
