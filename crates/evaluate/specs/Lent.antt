-- The stack in a list of values, and rows evaluated with what lent lists hold: the answers, the numbers of gotos and of checkboxes, the rules' values.
use Rattle.std.specs.Prelude.{ℕ, zero, suc, List, [], ◌∷◌}
use Rattle.operators.specs.declared.Scalar.{Scalar}
use Rattle.stored.specs.Stored.{value_at}
use Rattle.saved_answers.specs.Search.{question_value}
use Rattle.evaluate.specs.Machine.{ROOM, operand_value, evaluated}

-- the first values as a stack, the last of them on top
unfoldable pub stacked : List Scalar → ℕ → List Scalar
stacked s zero = []
stacked s (suc height) = value_at s height ∷ stacked s height

module _ (answers gotos checkboxes : List ℕ) (rules : List Scalar) where
  -- the value of an operand of code k and column a
  abbrev pub operand_in : ℕ → ℕ → Scalar
  operand_in = operand_value (question_value answers gotos checkboxes) (value_at rules)

  -- the value of the rows of the table t from first to before end
  abbrev pub value_in : List ℕ → ℕ → ℕ → Scalar
  value_in = evaluated (question_value answers gotos checkboxes) (value_at rules) ROOM
