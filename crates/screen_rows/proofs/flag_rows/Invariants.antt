-- `screen_rows::flag_rows` meets its contract: the bytes of the rows passed are the flags in them.
use Rattle.expression_rows.specs.Ends.{value_after}
use Rattle.screen_rows.proofs.PassLaws.{Flagging}
use Rattle.screen_rows.proofs.flag_rows.Given as goal

abbrev pub invariant-loop-row : goal.invariant-loop-row
invariant-loop-row l =
    let k = l.known.answers in
    Flagging l.table (value_after k.saved.now k.gotos.now k.checkboxes.now l.known.rules.now l.table) l.initial.out l.out l.row
