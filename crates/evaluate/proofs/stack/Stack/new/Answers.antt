-- `evaluate::stack::Stack::new` meets its contract.
use mathlib.Core.Path.{refl}
use Rattle.evaluate.specs.Lent.{stacked}
use Rattle.evaluate.proofs.stack.Stack.new.Goals as goal

pub returns : goal.returns
unfolding stacked
returns c = refl
