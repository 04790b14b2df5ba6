-- `repeats::repeated` meets its contract: from the loop's row on with its map it comes to the same mark and map.
use Rattle.stages.proofs.RepeatLaws.{repeating_found, repeating_next, repeating_end}
use Rattle.stages.proofs.repeats.repeated.Goals as goal

pub returns-then-has : goal.returns-then-has
returns-then-has g c =
    let number = c.requires.1.1 c.args.table c.loop-row.row c.number-n.result c.loop-row-test.true c.number-n.ensures in
    let it = repeating_found c.loop-row.invariant c.loop-row-test.true number c.has.ensures c.own_mark.ensures c.if-has.true in record { value = it.0; map_after = it.1 }

pub loop-row-preserved : goal.loop-row-preserved
loop-row-preserved g c =
    let number = c.requires.1.1 c.args.table c.loop-row.row c.number-n.result c.loop-row-test.true c.number-n.ensures in
    repeating_next c.loop-row.invariant c.loop-row-test.true number c.has.ensures c.mark.ensures c.if-has.false

pub returns : goal.returns
returns g c = let it = repeating_end c.loop-row.invariant c.loop-row-test.false in record { value = it.0; map_after = it.1 }
