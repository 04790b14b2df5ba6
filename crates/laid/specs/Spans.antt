-- The rows of an expression in a table: operands before operator.
-- Assumes nothing.
use Rattle.std.specs.Prelude.{ℕ, suc, ◌≡◌, List, get_or}
use Rattle.rows.specs.Codes as code
use Rattle.rows.specs.Columns as column
use Rattle.rows.specs.Table.{cell_at}
use Rattle.answers.specs.Expression.{Expression, number, constant, question_named, question_numbered, rule_named, negation, binary}
use Rattle.answers.specs.Expression.{Operator, operator_code, Constant, constant_code}

-- The rows of the table t from i to before j are those of an expression. `found` gives the row of a place; of a number and of a reference the row
-- holds what is found for it.
pub data Spans (found : ℕ → List ℕ) (t : List ℕ) : ℕ → Expression → ℕ → Type 0 where
  spans_number :
      {i p : ℕ}
      → cell_at t i column.CODE ≡ code.NUMBER → cell_at t i column.A ≡ get_or (found p) column.A 0
      → Spans found t i (number p) (suc i)
  spans_constant : {i p : ℕ} (c : Constant) → cell_at t i column.CODE ≡ constant_code c → Spans found t i (constant c p) (suc i)
  spans_question_named :
      {i p q : ℕ}
      → cell_at t i column.CODE ≡ code.QUESTION_REF → cell_at t i column.A ≡ get_or (found p) column.A 0
      → Spans found t i (question_named p q) (suc i)
  spans_question_numbered :
      {i p q : ℕ}
      → cell_at t i column.CODE ≡ code.QUESTION_REF → cell_at t i column.A ≡ get_or (found p) column.A 0
      → Spans found t i (question_numbered p q) (suc i)
  spans_rule_named :
      {i p q : ℕ}
      → cell_at t i column.CODE ≡ code.RULE_REF → cell_at t i column.A ≡ get_or (found p) column.A 0
      → Spans found t i (rule_named p q) (suc i)
  spans_negation : {i j p : ℕ} {e : Expression} → Spans found t i e j → cell_at t j column.CODE ≡ code.NOT → Spans found t i (negation p e) (suc j)
  spans_binary :
      {i j k p : ℕ} {l r : Expression} (o : Operator)
      → Spans found t i l j → Spans found t j r k → cell_at t k column.CODE ≡ operator_code o
      → Spans found t i (binary o p l r) (suc k)
