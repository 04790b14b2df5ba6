-- `next_free` meets its contract: the numbers that are free from `from` up are those that are free from `at` up.
use Rattle.std.proofs.Common.{arith, ◌∙◌}
use Rattle.numbers.specs.Numbers.{used}
use Rattle.numbers.proofs.FreeNumbers.{free_end}
use Rattle.numbers.proofs.Search.{word_full, word_low, word_free, free_start, first_is, first_none}
use Rattle.numbers.proofs.next_free.Goals as goal

pub loop-at-init : goal.loop-at-init
loop-at-init c = (omega arith, free_start (used c.args.map.now) c.args.from c.max-at.ensures)

pub returns-then-flipped-ne0-clause-value : goal.returns-then-flipped-ne0-clause-value
returns-then-flipped-ne0-clause-value c =
    let l = c.loop-at in
    let ws = c.args.map.now in
    rw c.from.ensures (first_is ws c.args.from
    (l.invariant.1 ∙ word_free ws l.at l.invariant.0 c.loop-at-test.true (c.fits-map _) c.if-flipped-ne0.true))

pub returns-then-flipped-ne0-clause-number : goal.returns-then-flipped-ne0-clause-number
returns-then-flipped-ne0-clause-number c =
    let l = c.loop-at in
    rw c.from.ensures (word_low c.args.map.now l.at l.invariant.0 c.loop-at-test.true (c.fits-map _) c.if-flipped-ne0.true)

pub loop-at-preserved : goal.loop-at-preserved
loop-at-preserved c =
    let l = c.loop-at in
    (omega arith, l.invariant.1 ∙ word_full c.args.map.now l.at l.invariant.0 c.loop-at-test.true (c.fits-map _) c.if-flipped-ne0.false)

pub returns-clause-value : goal.returns-clause-value
returns-clause-value c =
    let l = c.loop-at in
    first_none c.args.map.now c.args.from (l.invariant.1 ∙ free_end (used c.args.map.now) l.at c.loop-at-test.false)
