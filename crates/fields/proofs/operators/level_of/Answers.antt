-- `fields::operators::level_of` meets its contract: each operator has its level, and any other class none.
-- Assumes nothing.
use mathlib.Core.Path.{sym}
use Rattle.fields.specs.Operators.{operator_levels, level_of}
use Rattle.fields.proofs.LookUps.{missed}
use Rattle.fields.proofs.operators.level_of.Goals as goal

pub returns-in-17 : goal.returns-in-17
unfolding level_of operator_levels
returns-in-17 c = rw c.in-17.is

pub returns-in_default : goal.returns-in_default
unfolding level_of operator_levels
returns-in_default c = sym (missed operator_levels 9 _ c.in_default.in_default-own.rest)
