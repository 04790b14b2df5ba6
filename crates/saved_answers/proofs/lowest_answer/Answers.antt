-- `saved_answers::lowest_answer` meets its contract: the search goes on between low and high as it began.
use mathlib.Core.Path.{sym, ap, ◌∙◌}
use native.Mathlib.Omega.{arith}
use Rattle.saved_answers.specs.Answers.{count}
use Rattle.saved_answers.specs.Search.{middle, lowest}
use Rattle.saved_answers.proofs.PairLaws.{pair_question}
use Rattle.saved_answers.proofs.SearchLaws.{from, halved_ends, goes_up, goes_down}
use Rattle.saved_answers.proofs.lowest_answer.Goals as goal

pub loop-low-init : goal.loop-low-init
unfolding lowest
loop-low-init c = (omega arith, omega (arith, c.pairs-answers.ensures.len), ap (from c.args.saved.now c.args.n 0) c.pairs-answers.ensures.len)

pub loop-low-preserved-then-answers-middle : goal.loop-low-preserved-then-answers-middle
loop-low-preserved-then-answers-middle c =
    let a = c.args in
    let l = c.loop-low in
    let own = pair_question a.saved.now _ c.pairs-answers.ensures.each (middle l.low l.high) (omega arith) in
    (omega arith, omega arith, goes_up a.saved.now a.n l.low l.high (omega arith) (omega arith) (omega (arith, own, c.if-answers-middle.true)) ∙ l.invariant.2)

pub loop-low-preserved : goal.loop-low-preserved
loop-low-preserved c =
    let a = c.args in
    let l = c.loop-low in
    let own = pair_question a.saved.now _ c.pairs-answers.ensures.each (middle l.low l.high) (omega arith) in
    (omega arith, omega arith, goes_down a.saved.now a.n l.low l.high (omega arith) (omega arith) (omega (arith, own, c.if-answers-middle.false)) ∙ l.invariant.2)

pub returns-clause-is : goal.returns-clause-is
returns-clause-is c =
    let a = c.args in
    let l = c.loop-low in
    sym (halved_ends a.saved.now a.n (count a.saved.now) l.low l.high (omega arith)) ∙ l.invariant.2
