-- `saved_answers::answer_value` meets its contract.
use Prim.Native.Nat.{◌<◌}
use mathlib.Core.Path.{sym, ap, ◌∙◌}
use mathlib.Core.List.{[]}
use mathlib.Core.Option.{some}
use native.Mathlib.Omega.{arith}
use lib.ListN.{get_or}
use Rattle.saved_answers.specs.Answers.{count}
use Rattle.saved_answers.proofs.KindLaws.{searched_past, searched_other, searched_own, missing, truth, number}
use Rattle.saved_answers.proofs.PairLaws.{pair_question, pair_value}
use Rattle.saved_answers.proofs.answer_value.Goals as goal

pub returns-then-checkbox : goal.returns-then-checkbox
returns-then-checkbox c =
    let a = c.args in
    let s = a.saved.now in
    let k = c.lowest_answer in
    let found = c.in-Some.ensures.lookup.3 in
    let inside : k.result < count s = omega (arith, c.pairs.ensures.len, found.0) in
    let own = ap (λ p. get_or p 0 0) (found.1 []) ∙ pair_question s _ c.pairs.ensures.each k.result inside in
    let value = ap (λ p. get_or p 1 0) (found.1 []) ∙ pair_value s _ c.pairs.ensures.each k.result inside in
    truth a.checkbox _ _ (searched_own s a.n k.result k.ensures.is inside (sym own ∙ c.if-question-n.true) ∙ ap some (sym value)) c.if-checkbox.true

pub returns-else-checkbox : goal.returns-else-checkbox
returns-else-checkbox c =
    let a = c.args in
    let s = a.saved.now in
    let k = c.lowest_answer in
    let found = c.in-Some.ensures.lookup.3 in
    let inside : k.result < count s = omega (arith, c.pairs.ensures.len, found.0) in
    let own = ap (λ p. get_or p 0 0) (found.1 []) ∙ pair_question s _ c.pairs.ensures.each k.result inside in
    let value = ap (λ p. get_or p 1 0) (found.1 []) ∙ pair_value s _ c.pairs.ensures.each k.result inside in
    number a.checkbox _ _ (searched_own s a.n k.result k.ensures.is inside (sym own ∙ c.if-question-n.true) ∙ ap some (sym value)) c.if-checkbox.false

pub returns-in_default : goal.returns-in_default
returns-in_default c =
    let a = c.args in
    let s = a.saved.now in
    let k = c.lowest_answer in
    let found = c.in-Some.ensures.lookup.3 in
    let inside : k.result < count s = omega (arith, c.pairs.ensures.len, found.0) in
    let own = ap (λ p. get_or p 0 0) (found.1 []) ∙ pair_question s _ c.pairs.ensures.each k.result inside in
    missing a.checkbox _ (searched_other s a.n k.result k.ensures.is (λ e. c.if-question-n.false (own ∙ e)))

pub returns-in_default-2 : goal.returns-in_default-2
returns-in_default-2 c =
    let a = c.args in
    let s = a.saved.now in
    let k = c.lowest_answer in
    let past = rw c.in_default.is at c.get.ensures.lookup.3 in
    missing a.checkbox _ (searched_past s a.n k.result k.ensures.is (omega (arith, c.pairs.ensures.len, past)))
