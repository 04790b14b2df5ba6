-- `lex::gaps::line_end` meets its contract. The loop's invariant: the end is the same from here as from the start.
use mathlib.Core.Path.{ap}
use mathlib.Core.Bool.{not}
use native.Mathlib.Omega.{arith}
use borrow.Author.Tests.{eq-eqb, ne_eqb}
use Rattle.lexemes.proofs.Steps.{run_end, run_no, run_yes}
use Rattle.lex.proofs.Comments.{in_line}
use lib.ListN.{length}
use Rattle.lexemes.proofs.Lists.{either_less}
use Rattle.lex.proofs.gaps.line_end.Goals as goal

pub returns-then-src-i-eq10 : goal.returns-then-src-i-eq10
returns-then-src-i-eq10 c =
    let args = c.args in
    let loop = c.loop-i in
    omega (arith, run_no in_line args.src.now loop.i (omega arith) (ap not (eq-eqb _ 10 c.if-src-i-eq10.true)))

pub loop-i-preserved : goal.loop-i-preserved
loop-i-preserved c =
    let args = c.args in
    let loop = c.loop-i in
    omega (arith, run_yes in_line args.src.now loop.i (omega arith) (ap not (ne_eqb _ 10 c.if-src-i-eq10.false)))

pub returns : goal.returns
returns c =
    let s = c.args.src.now in
    let at = c.args.at in
    let here = run_end in_line s c.loop-i.i (omega arith) in
    either_less (length s) at
    (λ l. omega (arith, here, run_end in_line s at (omega arith)))
    (λ l. omega (arith, here, c.loop-i.auto.i-end l))
