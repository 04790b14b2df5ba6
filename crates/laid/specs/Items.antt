-- Statements apart from how they are derived.
-- Assumes nothing.
use Rattle.std.specs.Prelude.{ℕ}
use Rattle.answers.specs.Expression.{Expression}

-- what stands in a statement before other statements: nothing, or an expression
pub data Inner : Type 0 where
  plain : Inner
  expressed : Expression → Inner

-- statements beside one another: the place of the first one's first token, what stands in it, the statements in it, and those after it
pub data Items : Type 0 where
  done : Items
  item : ℕ → Inner → Items → Items → Items
