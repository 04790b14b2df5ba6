-- A stack of values, and what the rows of an expression do to it: operands before operator (document 02, W-202).
use Rattle.std.specs.Prelude.{ℕ, zero, suc, ◌-◌, Bool, cond, List, [], ◌∷◌, map, eqb, ltb, length}
use Rattle.rows.specs.Codes as code
use Rattle.rows.specs.Columns as column
use Rattle.rows.specs.Table.{cell_at}
use Rattle.operators.specs.declared.Scalar.{Scalar}
use Rattle.operators.specs.declared.Scalar.TheVariants.{Number, Undefined}
use Rattle.operators.specs.Values.{operations, combined, negated, constant_of}

-- ---- a stack

-- how many values it has room for
abbrev pub ROOM : ℕ
ROOM = 320

-- the value on top; undefined where there is none
abbrev pub top : List Scalar → Scalar
top [] = Undefined
top (v ∷ σ) = v

-- the values under it
abbrev pub under : List Scalar → List Scalar
under [] = []
under (v ∷ σ) = σ

-- one value more; an undefined one where there is no room
unfoldable pub pushed : ℕ → Scalar → List Scalar → List Scalar
pushed room v σ = cond (ltb (length σ) room) v Undefined ∷ σ

-- ---- a row

-- whether k is the code of an operator of two operands: it stands in the table of what they make of them
unfoldable pub is_binary : ℕ → Bool
is_binary k = code.member k (map (λ o. o.0) operations)

-- the stack after a row of code k, with v for its value if it is an operand
unfoldable pub stepped : ℕ → ℕ → Scalar → List Scalar → List Scalar
stepped room k v σ =
    cond (eqb k code.NOT) (pushed room (negated (top σ)) (under σ))
    (cond (is_binary k) (pushed room (combined k (top (under σ)) (top σ)) (under (under σ)))
    (pushed room v σ))

module _ (questions rules : ℕ → Scalar) where
  -- the value of an operand of code k and column a
  unfoldable pub operand_value : ℕ → ℕ → Scalar
  operand_value k a =
      cond (eqb k code.NUMBER) (Number a)
      (cond (eqb k code.QUESTION_REF) (questions a)
      (cond (eqb k code.RULE_REF) (rules a)
      (constant_of k)))

  -- ---- the rows of a table

  module _ (room : ℕ) (t : List ℕ) where
    -- the stack after row i
    abbrev pub after_row : ℕ → List Scalar → List Scalar
    after_row i σ = stepped room (cell_at t i column.CODE) (operand_value (cell_at t i column.CODE) (cell_at t i column.A)) σ

    -- the stack after n rows from i on
    unfoldable pub after_rows : ℕ → ℕ → List Scalar → List Scalar
    after_rows i zero σ = σ
    after_rows i (suc n) σ = after_rows (suc i) n (after_row i σ)

    -- what the rows from first to before end leave on top of an empty stack
    unfoldable pub evaluated : ℕ → ℕ → Scalar
    evaluated first end = top (after_rows first (end - first) [])
