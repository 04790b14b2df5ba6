-- `evaluate::stack::Stack::pop` meets its contract.
use mathlib.Core.Path.{sym, ap, ◌∙◌}
use native.Mathlib.Omega.{arith}
use Rattle.evaluate.specs.Machine.{top, under}
use Rattle.evaluate.proofs.StackLaws.{top_stacked, top_empty, under_stacked, under_empty}
use Rattle.evaluate.proofs.stack.Stack.pop.Goals as goal

pub returns-then-self-eq0-clause-value : goal.returns-then-self-eq0-clause-value
returns-then-self-eq0-clause-value c =
    sym (top_empty c.self.inside.values c.self.inside.height c.if-self-eq0.true) ∙ ap top c.self.view_is

pub returns-then-self-eq0-clause-rest : goal.returns-then-self-eq0-clause-rest
returns-then-self-eq0-clause-rest c =
    sym c.self.view_is
    ∙ sym (under_empty c.self.inside.values c.self.inside.height c.if-self-eq0.true)
    ∙ ap under c.self.view_is

pub returns-clause-value : goal.returns-clause-value
returns-clause-value c =
    c.value_at.ensures
    ∙ sym (top_stacked c.self.inside.values c.self.inside.height (omega arith))
    ∙ ap top c.self.view_is

pub returns-clause-rest : goal.returns-clause-rest
returns-clause-rest c = sym (under_stacked c.self.inside.values c.self.inside.height) ∙ ap under c.self.view_is
