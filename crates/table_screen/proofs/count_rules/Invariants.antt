-- `table_screen::count_rules` meets its contract: what is left of the rows is still to be counted.
use Rattle.table_screen.proofs.CountLaws.{Counting}
use Rattle.table_screen.proofs.count_rules.Given as goal

abbrev pub invariant-loop-row : goal.invariant-loop-row
invariant-loop-row l = Counting l.table l.count l.rules l.row
