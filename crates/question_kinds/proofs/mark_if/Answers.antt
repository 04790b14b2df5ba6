-- `question_kinds::mark_if` meets its contract.
use mathlib.Core.Path.{◌∙◌}
use Rattle.question_kinds.proofs.mark_if.Goals as goal

pub returns-then-wanted : goal.returns-then-wanted
returns-then-wanted c = c.mark.ensures ∙ rw c.if-wanted.true
