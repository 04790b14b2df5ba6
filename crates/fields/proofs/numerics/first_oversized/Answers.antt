-- `fields::numerics::first_oversized` meets its contract. The loop's invariant: the numbers before its own fit.
-- Assumes nothing.
use mathlib.Core.Path.{sym, ◌∙◌}
use native.Mathlib.Omega.{arith}
use borrow.Author.Count.{below_more}
use Rattle.fields.specs.Phrases.{kept}
use Rattle.fields.proofs.SizeLaws.{listed, first_told, none_told}
use Rattle.fields.proofs.numerics.first_oversized.Goals as goal

pub loop-mark-init : goal.loop-mark-init
loop-mark-init c = λ j h. absurd (omega arith)

pub returns-then-is_oversized : goal.returns-then-is_oversized
returns-then-is_oversized c =
    let i = c.loop-mark.mark-index in
    let e = listed (kept c.args.k) i c.loop-mark-test.true in
    c.place_of.ensures ∙ (e ∙ first_told c.args.src.now (kept c.args.k) c.size_and_display-size.ensures i c.loop-mark-test.true c.loop-mark.invariant (sym (rw e at c.is_oversized.ensures) ∙ c.if-is_oversized.true))

pub loop-mark-preserved : goal.loop-mark-preserved
loop-mark-preserved c =
    below_more _ _ c.loop-mark.invariant (sym (rw (listed (kept c.args.k) c.loop-mark.mark-index c.loop-mark-test.true) at c.is_oversized.ensures) ∙ c.if-is_oversized.false)

pub returns : goal.returns
returns c = none_told c.args.src.now (kept c.args.k) c.size_and_display-size.ensures (λ j h. c.loop-mark.invariant j (omega arith))
