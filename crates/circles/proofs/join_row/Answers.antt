-- `circles::join_row` meets its contract: after j turns the first j words of row k are joined to row a.
use mathlib.Core.Path.{ap, refl}
use mathlib.Core.Bool.{not}
use native.Mathlib.Omega.{arith}
use Rattle.circles.proofs.Rows.{joining_start, joining_next}
use Rattle.circles.proofs.Turns.{row_tested, row_untested}
use Rattle.circles.proofs.join_row.Goals as goal

pub returns-then-not-has : goal.returns-then-not-has
returns-then-not-has c =
    let s = c in
    row_untested s.args.map.now s.args.a s.args.k c.has.ensures (ap not c.if-not-has.true)

pub loop-j-init : goal.loop-j-init
loop-j-init c = joining_start _ _ _

pub loop-j-preserved : goal.loop-j-preserved
loop-j-preserved c = joining_next c.loop-j.invariant (omega (arith, c.loop-j.invariant.size)) (omega arith) refl

pub returns : goal.returns
returns c =
    row_tested c.args.map.now c.args.a c.args.k c.has.ensures (ap not c.if-not-has.false) c.loop-j.invariant (omega arith)
