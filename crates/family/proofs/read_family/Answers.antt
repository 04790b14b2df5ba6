-- `family::read_family` meets its contract: 17 with everything lent zero, or all sources read.
-- Assumes nothing.
use Rattle.family.proofs.CallLaws.{not_read_lem, blank, all_read}
use Rattle.family.proofs.read_family.Goals as goal

pub returns-then-is_bad : goal.returns-then-is_bad
returns-then-is_bad c =
    let test = c in
    let table = test.clear.ensures in
    let answers = test.clear-2.ensures in
    let bad = test.is_bad.ensures in let it = not_read_lem _ _ _ _ table answers bad c.if-is_bad.true in record { result_value = it.0; table_after = it.1.0; answers_after = it.1.1 }

pub read_all-rows-requires : goal.read_all-rows-requires
read_all-rows-requires c =
    let test = c in
    let table = test.clear.ensures in
    let answers = test.clear-2.ensures in
    let bad = test.is_bad.ensures in
    blank _ _ _ _ table answers bad c.if-is_bad.false

pub returns : goal.returns
returns c =
    let test = c in
    let table = test.clear.ensures in
    let answers = test.clear-2.ensures in
    let bad = test.is_bad.ensures in let it = all_read _ _ _ _ table answers bad c.if-is_bad.false c.read_all-rows.ensures in record { result_value = it.0; table_after = it.1.0; answers_after = it.1.1 }
