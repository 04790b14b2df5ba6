-- `walk::expressions::expression` meets its contract: no more groups than the depth allows.
-- Assumes nothing.
use native.Mathlib.Omega.{arith}
use Rattle.walk.proofs.expressions.expression.Goals as goal

pub level-requires : goal.level-requires
level-requires c = (c.requires, omega arith, omega arith)
