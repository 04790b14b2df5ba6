-- `rule_values::place_rows` meets its contract: what is left of the rows is still to be placed.
use Rattle.rule_values.proofs.PlaceLaws.{placing_start, placing_next, placing_end}
use Rattle.rule_values.proofs.place_rows.Goals as goal

pub loop-row-init : goal.loop-row-init
loop-row-init c = placing_start _ _ _

pub loop-row-preserved : goal.loop-row-preserved
loop-row-preserved c =
    let p = c in
    placing_next _ _ p.loop-row.invariant p.loop-row-test.true p.place_row.ensures

pub shape_of-places : goal.shape_of-places
shape_of-places c = c.loop-row.invariant.size

pub returns : goal.returns
returns c = placing_end _ _ c.loop-row.invariant c.loop-row-test.false
