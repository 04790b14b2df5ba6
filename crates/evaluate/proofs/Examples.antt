-- Small tables, computed.
use Prim.Native.Nat.{ℕ}
use mathlib.Core.Path.{◌≡◌, refl}
use mathlib.Core.List.{List, [], ◌∷◌, flatten}
use lib.ListN.{set, replicate, length}
use Rattle.rows.specs.Codes as code
use Rattle.rows.specs.Columns as column
use Rattle.rows.specs.Table.{row_at}
use Rattle.operators.specs.declared.Scalar.{Scalar}
use Rattle.operators.specs.declared.Scalar.TheVariants.{Number, Undefined}
use Rattle.operators.specs.Values.{operations, combined, negated}
use Rattle.evaluate.specs.Machine.{is_binary, pushed, stepped, operand_value, after_rows, evaluated}

abbrev row : ℕ → ℕ → List ℕ
row k a = set (set (replicate column.ROW 0) column.CODE k) column.A a

module _ (questions rules : ℕ → Scalar) where
  -- the value of all rows, with room for three values
  abbrev value : List (List ℕ) → Scalar
  value rows = evaluated questions rules 3 (flatten rows) 0 (length rows)

  -- 6&3==2 has the rows of 6&(3==2)
  ungrouped :
      value (row code.NUMBER 6 ∷ row code.NUMBER 3 ∷ row code.NUMBER 2 ∷ row code.EQUAL 0 ∷ row code.BITWISE_AND 0 ∷ [])
      ≡ combined code.BITWISE_AND (Number 6) (combined code.EQUAL (Number 3) (Number 2))
  unfolding evaluated after_rows stepped pushed is_binary operations operand_value code.member row_at flatten
  ungrouped = refl

  -- (6&3)==2
  grouped :
      value (row code.NUMBER 6 ∷ row code.NUMBER 3 ∷ row code.BITWISE_AND 0 ∷ row code.NUMBER 2 ∷ row code.EQUAL 0 ∷ [])
      ≡ combined code.EQUAL (combined code.BITWISE_AND (Number 6) (Number 3)) (Number 2)
  unfolding evaluated after_rows stepped pushed is_binary operations operand_value code.member row_at flatten
  grouped = refl

  -- NOT questionref(5) == ruleref(7)
  referring :
      value (row code.QUESTION_REF 5 ∷ row code.NOT 0 ∷ row code.RULE_REF 7 ∷ row code.EQUAL 0 ∷ [])
      ≡ combined code.EQUAL (negated (questions 5)) (rules 7)
  unfolding evaluated after_rows stepped pushed is_binary operations operand_value code.member row_at flatten
  referring = refl

  -- no rows
  nothing : value [] ≡ Undefined
  unfolding evaluated after_rows
  nothing = refl

  -- a value for which there is no room
  crowded : value (row code.NUMBER 1 ∷ row code.NUMBER 2 ∷ row code.NUMBER 3 ∷ row code.NUMBER 4 ∷ []) ≡ Undefined
  unfolding evaluated after_rows stepped pushed is_binary operations operand_value code.member row_at flatten
  crowded = refl
