-- Which items are hidden or grey: "one byte a row, 1 for hidden plus 2 for grey, 0 for other rows" (document 02, W-202).
-- Assumes nothing.
use Rattle.std.specs.Prelude.{ℕ, suc, ◌+◌, Bool, cond, ◌&&◌, ◌||◌, List, [], ◌∷◌, ◌++◌, replicate}
use Rattle.std.proofs.Math.Option.{Option, none, some}
use Rattle.operators.specs.declared.Scalar.{Scalar}
use Rattle.operators.specs.declared.Scalar.TheVariants.{Undefined}
use Rattle.formulas.specs.Formula.{Formula, f_number, f_constant, f_question, f_rule, f_not, f_binary}
use Rattle.meaning.specs.Meaning.{meaning}
use Rattle.screen.specs.Kinds.{is_item, hides, greys, is_true, byte}
use Rattle.screen.specs.Screen.{Screen, done, statement}

-- ---- how many rows there are

-- of an expression: one for each operand and each operator
unfoldable pub formula_rows : Formula → ℕ
formula_rows (f_number v) = 1
formula_rows (f_constant c) = 1
formula_rows (f_question n) = 1
formula_rows (f_rule n) = 1
formula_rows (f_not e) = suc (formula_rows e)
formula_rows (f_binary o l r) = suc (formula_rows l + formula_rows r)

abbrev pub expression_rows : Option Formula → ℕ
expression_rows none = 0
expression_rows (some e) = formula_rows e

-- ---- their bytes, by what each question answers and what each rule is worth

module _ (questions rules : ℕ → Scalar) where
  -- the value of a statement's expression; undefined where it has none
  abbrev pub value_of : Option Formula → Scalar
  value_of none = Undefined
  value_of (some e) = meaning questions rules e

  -- `hidden` says that some condition round these statements hides them, `grey` that one greys them. In the order of the rows: the first statement's
  -- own, those of its expression, of what stands in it, and of what comes after it
  unfoldable pub bytes : (hidden grey : Bool) → Screen → List ℕ
  bytes hidden grey done = []
  bytes hidden grey (statement code e within later) =
      let holds = is_true (value_of e) in
      cond (is_item code) (byte hidden grey) 0
      ∷ (replicate (expression_rows e) 0
      ++ (bytes (hidden || hides code && holds) (grey || greys code && holds) within
      ++ bytes hidden grey later))
