-- `read::accept::accept` meets its contract: settled, the drafts tell 14; stripped too, they are the finished rows.
-- Assumes nothing.
use mathlib.Core.Path.{ap}
use Rattle.rows.specs.Marks.{marked}
use Rattle.read.proofs.AcceptLaws.{used_few, circle_answer, circle_table, free_accepted, table_accepted}
use Rattle.read.proofs.accept.accept.Goals as goal

pub returns-in-Some : goal.returns-in-Some
returns-in-Some c =
    let pre = c.requires in
    let settled = c.settle.ensures.table_after in
    let circle = c.circular_reference.ensures in
    let place = ap marked c.in-Some.is in
    let refuse = c.refuse.ensures in record { result_value = rw refuse.0 (circle_answer pre settled circle _ place); table_after = circle_table pre settled circle _ place refuse.1 }

pub overflow_sub-free-in-None : goal.overflow_sub-free-in-None
overflow_sub-free-in-None c = used_few c.requires c.settle.ensures.used_after c.used_count.ensures

pub returns-in-None : goal.returns-in-None
returns-in-None c =
    let pre = c.requires in
    let settled = c.settle.ensures in
    let circle = c.circular_reference.ensures in
    let free = ap marked c.in-None.is in
    let strip = c.strip.ensures in record { result_value = free_accepted pre settled.table_after circle free settled.used_after c.used_count.ensures; table_after = table_accepted pre settled.table_after circle free strip }
