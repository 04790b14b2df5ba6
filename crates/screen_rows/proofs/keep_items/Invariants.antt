-- `screen_rows::keep_items` meets its contract: what is left of the rows is still to be kept or not.
use Rattle.screen_rows.proofs.PassLaws.{Keeping}
use Rattle.screen_rows.proofs.keep_items.Given as goal

abbrev pub invariant-loop-row : goal.invariant-loop-row
invariant-loop-row l = Keeping l.table l.initial.out l.out l.row
