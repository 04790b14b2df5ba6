-- `read::read` meets its contract: an accepted source's rows stand in the table, which is cleared past them.
-- Assumes nothing.
use Rattle.std.proofs.lemmas.Result.{err_from_is_err_and}
use Rattle.read.proofs.ReadLaws.{accepted_table, unaccepted_table}
use Rattle.read.proofs.AcceptedRows.{refusal_refused}
use Rattle.read.proofs.read.Goals as goal

pub returns-in_err-accepted : goal.returns-in_err-accepted
returns-in_err-accepted c =
    let p = err_from_is_err_and c.from_residual.result c.from_residual.ensures.1 in
    let read = c.in_err-accepted.ensures in record { result_value = rw (p.1, p.2) read.result_value; table_after = unaccepted_table _ _ read.table_after (refusal_refused _ _ _ read.result_value) }

pub returns : goal.returns
returns c =
    let read = c.in_ok-accepted.ensures in record { result_value = read.result_value; table_after = accepted_table _ _ read.table_after read.result_value c.clear_past.ensures }
