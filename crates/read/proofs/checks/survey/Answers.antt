-- `read::checks::survey` meets its contract: the length, the walk, the first second word and the first number out of its range tell which stage
-- refuses.
-- Assumes nothing.
use Rattle.std.specs.Prelude.{Ok, Err}
use Rattle.walk.specs.Whole.{outcome, Walks}
use Rattle.read.proofs.SurveyLaws.{too_long, walk_stops, second_word, number_outside, walk_passes}
use Rattle.read.proofs.checks.survey.Goals as goal

pub returns-then-src-gt-LONGEST : goal.returns-then-src-gt-LONGEST
returns-then-src-gt-LONGEST c = rw c.refuse.ensures.0 (too_long _ _ c.if-src-gt-LONGEST.true c.refuse.ensures.1)

pub returns-in-Err : goal.returns-in-Err
returns-in-Err c =
    let v : Walks c.args.src.now (outcome (Err c.in-Err.fault)) c.args.table.now c.walk.new.table = rw c.in-Err.is at c.walk.ensures in
    rw c.unless_bad.ensures (walk_stops c.if-src-gt-LONGEST.false c.in-Err.fault v)

pub returns-in-Some : goal.returns-in-Some
returns-in-Some c =
    let v : Walks c.args.src.now (outcome (Ok c.in-Ok.walked)) c.args.table.now c.walk.new.table = rw c.in-Ok.is at c.walk.ensures in
    rw c.refuse-in-Some.ensures.0 (second_word c.if-src-gt-LONGEST.false _ v c.in-Some.is c.walk.auto.table c.refuse-in-Some.ensures.1)

pub returns-in-Some-outside : goal.returns-in-Some-outside
returns-in-Some-outside c =
    let v : Walks c.args.src.now (outcome (Ok c.in-Ok.walked)) c.args.table.now c.walk.new.table = rw c.in-Ok.is at c.walk.ensures in
    rw c.refuse-in-Some-outside.ensures.0
    (number_outside c.if-src-gt-LONGEST.false _ v c.in_default.is c.in-Some-outside.is c.walk.auto.table c.refuse-in-Some-outside.ensures.1)

pub returns : goal.returns
returns c =
    let v : Walks c.args.src.now (outcome (Ok c.in-Ok.walked)) c.args.table.now c.walk.new.table = rw c.in-Ok.is at c.walk.ensures in
    walk_passes c.if-src-gt-LONGEST.false _ v c.in_default.is c.in_default-outside.is
