-- The rows of an expression in a table, by its values: operands before operator (document 01, "Rows").
use Rattle.std.specs.Prelude.{ℕ, suc, ◌≡◌, List}
use Rattle.rows.specs.Codes as code
use Rattle.rows.specs.Columns as column
use Rattle.rows.specs.Table.{cell_at}
use Rattle.answers.specs.Expression.{Operator, operator_code, Constant, constant_code}
use Rattle.formulas.specs.Formula.{Formula, f_number, f_constant, f_question, f_rule, f_not, f_binary}

-- the rows of the table t from i to before j are those of an expression
pub data Spells (t : List ℕ) : ℕ → Formula → ℕ → Type 0 where
  spells_number : {i v : ℕ} → cell_at t i column.CODE ≡ code.NUMBER → cell_at t i column.A ≡ v → Spells t i (f_number v) (suc i)
  spells_constant : {i : ℕ} (c : Constant) → cell_at t i column.CODE ≡ constant_code c → Spells t i (f_constant c) (suc i)
  spells_question : {i n : ℕ} → cell_at t i column.CODE ≡ code.QUESTION_REF → cell_at t i column.A ≡ n → Spells t i (f_question n) (suc i)
  spells_rule : {i n : ℕ} → cell_at t i column.CODE ≡ code.RULE_REF → cell_at t i column.A ≡ n → Spells t i (f_rule n) (suc i)
  spells_not : {i j : ℕ} {e : Formula} → Spells t i e j → cell_at t j column.CODE ≡ code.NOT → Spells t i (f_not e) (suc j)
  spells_binary :
      {i j k : ℕ} {l r : Formula} (o : Operator)
      → Spells t i l j → Spells t j r k → cell_at t k column.CODE ≡ operator_code o
      → Spells t i (f_binary o l r) (suc k)
