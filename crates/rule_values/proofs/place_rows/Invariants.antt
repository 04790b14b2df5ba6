-- `rule_values::place_rows` meets its contract: what is left of the rows is still to be placed.
use Prim.Native.Nat.{◌-◌}
use Rattle.rule_values.proofs.PlaceLaws.{Placing}
use Rattle.rule_values.proofs.place_rows.Given as goal

abbrev pub invariant-loop-row : goal.invariant-loop-row
invariant-loop-row l = Placing l.table l.count l.initial.places l.places l.row

abbrev pub decreases-loop-row : goal.decreases-loop-row
decreases-loop-row l = l.count - l.row
