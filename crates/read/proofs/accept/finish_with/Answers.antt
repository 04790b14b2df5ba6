-- `read::accept::finish_with` meets its contract: the first fault refuses; without one 14 does, or the drafts are accepted.
-- Assumes nothing.
use Rattle.read.proofs.FinishLaws.{refused_answer, refused_table, ready, answer_past_12, table_past_12}
use Rattle.read.proofs.accept.finish_with.Goals as goal

pub returns-in-Err : goal.returns-in-Err
returns-in-Err c =
    let pre = c.requires in
    let fault = c.first_fault.ensures.value in
    let h = c.in-Err.is in
    let refuse = c.refuse.ensures in record { result_value = rw refuse.0 (refused_answer pre.0 pre.1 c.empty-used.ensures fault h); table_after = refused_table pre.0 pre.1 c.empty-used.ensures fault h refuse.1 }

pub accept-requires : goal.accept-requires
accept-requires c =
    let pre = c.requires in
    let fault = c.first_fault.ensures in
    ready pre.0 pre.1 c.empty-used.ensures fault.value c.in-Ok.is fault.used_after

pub returns-in-Ok : goal.returns-in-Ok
returns-in-Ok c =
    let pre = c.requires in
    let fault = c.first_fault.ensures.value in
    let z = c.in-Ok.is in
    let accept = c.accept.ensures in record { result_value = answer_past_12 pre.0 pre.1 c.empty-used.ensures fault z accept.result_value; table_after = table_past_12 pre.0 pre.1 c.empty-used.ensures fault z accept.table_after }
