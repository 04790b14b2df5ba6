-- `fields::operators::class_of` meets its contract.
-- Assumes nothing.
use mathlib.Core.Path.{sym}
use Rattle.fields.proofs.LookUps.{missed}
use Rattle.fields.specs.Operators.{code_classes, code_class}
use Rattle.fields.proofs.operators.class_of.Goals as goal

pub returns-in-58 : goal.returns-in-58
unfolding code_class code_classes
returns-in-58 c = rw c.in-58.is

pub returns-in_default : goal.returns-in_default
unfolding code_class code_classes
returns-in_default c = sym (missed code_classes 79 _ c.in_default.in_default-own.rest)
