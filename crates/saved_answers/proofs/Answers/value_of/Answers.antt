-- `saved_answers::Answers::value_of` meets its contract.
use mathlib.Core.Path.{ap, sym, ◌∙◌}
use mathlib.Core.Bool.{false}
use Rattle.saved_answers.specs.Answers.{by_kind}
use Rattle.saved_answers.specs.Search.{searched}
use Rattle.saved_answers.proofs.KindLaws.{goto, no_goto}
use Rattle.saved_answers.proofs.Answers.value_of.Goals as goal

pub returns-then-has : goal.returns-then-has
returns-then-has c =
    let a = c.args.self in
    goto a.saved.now a.gotos.now a.checkboxes.now c.args.question (sym c.has.ensures ∙ c.if-has.true)

pub returns : goal.returns
returns c =
    let a = c.args.self in
    c.answer_value.ensures
    ∙ ap (λ b. by_kind false b (searched a.saved.now c.args.question)) c.has-2.ensures
    ∙ no_goto a.saved.now a.gotos.now a.checkboxes.now c.args.question (sym c.has.ensures ∙ c.if-has.false)
