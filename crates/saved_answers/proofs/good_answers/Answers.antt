-- `saved_answers::good_answers` meets its contract: the answers before the loop's are good.
use Prim.Native.Nat.{◌<◌}
use mathlib.Core.Path.{◌≡◌, sym, ◌∙◌}
use native.Mathlib.Omega.{arith}
use lib.ListN.{length}
use Rattle.saved_answers.specs.Answers.{count}
use Rattle.saved_answers.proofs.GoodLaws.{checking_low, checking_stray, checking_next, checking_end}
use Rattle.saved_answers.proofs.PairLaws.{pair_question}
use Rattle.saved_answers.proofs.good_answers.Goals as goal
use Rattle.saved_answers.proofs.good_answers.Goals.{then-question-last-via-then-question-last, then-question-last-via-else-question-last+then-not-has}

pub returns-then-question-last : goal.returns-then-question-last
returns-then-question-last c =
    let saved = c.args.answers.now in
    let k = c.loop-k.k in
    let inside : k < count saved = omega arith in
    let own = pair_question saved _ c.pairs-answers.ensures.each k inside in
    elim c.then-question-last.branch [
      | then-question-last-via-then-question-last w ↦ checking_low _ saved c.loop-k.invariant inside own w.if-question-last.true
      | then-question-last-via-else-question-last+then-not-has w ↦
          checking_stray _ saved c.loop-k.invariant inside own (sym w.has.ensures ∙ w.if-not-has.true)
    ]

pub loop-k-preserved : goal.loop-k-preserved
loop-k-preserved c =
    let saved = c.args.answers.now in
    let k = c.loop-k.k in
    let inside : k < count saved = omega arith in
    let own = pair_question saved _ c.pairs-answers.ensures.each k inside in
    checking_next _ saved c.loop-k.invariant inside own c.if-question-last.false (sym c.has.ensures ∙ c.if-not-has.false)

pub returns : goal.returns
returns c =
    let len = c.pairs-answers.ensures.len in
    let last : length c.pairs-answers.result.now ≡ c.loop-k.k = omega (arith, c.loop-k.auto.k-end) in
    last ∙ checking_end _ c.args.answers.now c.loop-k.invariant (omega (arith, len))
