-- A table that holds the draft rows of an expression has the expression's rows, and each of them is a part of an expression and has its parent.
-- Assumes nothing.
use Prim.Native.Nat.{ℕ, suc, ◌+◌, ◌≤◌, ◌<◌}
use native.Mathlib.Omega.{arith}
use mathlib.Core.Path.{◌≡◌, refl, ap, ◌∙◌}
use mathlib.Core.Bool.{true}
use mathlib.Core.List.{List, [], ◌∷◌, ◌++◌}
use lib.ListN.{length, get_or, length-append}
use Rattle.lexemes.proofs.Lists.{either_less}
use Rattle.rows.specs.Codes as code
use Rattle.rows.specs.Codes.{is_expression, expressions}
use Rattle.rows.specs.Columns as column
use Rattle.rows.specs.Table.{cell_at}
use Rattle.answers.specs.Expression.{Expression, number, constant, question_named, question_numbered, rule_named, negation, binary}
use Rattle.answers.specs.Expression.{Operator, operator_code, or, and, bit_or, bit_and, equal, not_equal, less, less_equal, greater, greater_equal}
use Rattle.answers.specs.Expression.{shift_left, shift_right, add, subtract, multiply, divide, modulo}
use Rattle.answers.specs.Expression.{Constant, constant_code, true', false', zero', one', ones', undefined'}
use Rattle.answers.specs.Rows.{Draft, operand, expression_rows}
use Rattle.laid.specs.Spans.{Spans, spans_number, spans_constant, spans_question_named, spans_question_numbered, spans_rule_named}
use Rattle.laid.specs.Spans.{spans_negation, spans_binary}
use Rattle.laid.proofs.Held.{Held, held_parts, first_held}

-- ---- the codes of expressions' rows

operator_code_lem : (o : Operator) → is_expression (operator_code o) ≡ true
unfolding is_expression expressions code.member
operator_code_lem or = refl
operator_code_lem and = refl
operator_code_lem bit_or = refl
operator_code_lem bit_and = refl
operator_code_lem equal = refl
operator_code_lem not_equal = refl
operator_code_lem less = refl
operator_code_lem less_equal = refl
operator_code_lem greater = refl
operator_code_lem greater_equal = refl
operator_code_lem shift_left = refl
operator_code_lem shift_right = refl
operator_code_lem add = refl
operator_code_lem subtract = refl
operator_code_lem multiply = refl
operator_code_lem divide = refl
operator_code_lem modulo = refl

constant_code_lem : (c : Constant) → is_expression (constant_code c) ≡ true
unfolding is_expression expressions code.member
constant_code_lem true' = refl
constant_code_lem false' = refl
constant_code_lem zero' = refl
constant_code_lem one' = refl
constant_code_lem ones' = refl
constant_code_lem undefined' = refl

number_code : is_expression code.NUMBER ≡ true
unfolding is_expression expressions code.member
number_code = refl

question_code : is_expression code.QUESTION_REF ≡ true
unfolding is_expression expressions code.member
question_code = refl

rule_code : is_expression code.RULE_REF ≡ true
unfolding is_expression expressions code.member
rule_code = refl

not_code : is_expression code.NOT ≡ true
unfolding is_expression expressions code.member
not_code = refl

module _ (t : List ℕ) (found : ℕ → List ℕ) where
  -- what an operand's row holds is found at its place
  operand_found :
      {d : Draft} {ds : List Draft} {i : ℕ}
      → Held t found (d ∷ ds) i
      → cell_at t i column.A ≡ get_or (found (get_or d.row column.PLACE 0)) column.A 0
  operand_found h = ap (λ (l : List ℕ). get_or l column.A 0) (first_held t found h).row_is

  module _ (parent : ℕ) where
    -- row k is a part of an expression, which stands in the row `parent`
    pub record Part (k : ℕ) : Type 0 where
      pub part : is_expression (cell_at t k column.CODE) ≡ true
      pub parent_is : cell_at t k column.PARENT ≡ parent

    -- rows that all are
    abbrev pub AllParts : ℕ → ℕ → Type 0
    AllParts i j = (k : ℕ) → i ≤ k → k < j → Part k

  module _ (value : ℕ → ℕ) (parent : ℕ) where
    parts_then : (i j k : ℕ) → AllParts parent i j → AllParts parent j k → AllParts parent i k
    parts_then i j k a b m l h = either_less m j (λ d. a m l d) (λ d. b m d h)

    part_one :
        {d : Draft} {ds : List Draft} {i : ℕ}
        → Held t found (d ∷ ds) i
        → get_or d.row column.PARENT 0 ≡ parent → is_expression (get_or d.row column.CODE 0) ≡ true → AllParts parent i (suc i)
    part_one {i = i} h q e m l below =
        let z : m ≡ i = omega arith in
        let row = first_held t found h in
        record { part = rw (z, row.code_is) e; parent_is = rw z (row.parent_is ∙ q) }

    abbrev rows : Expression → List Draft
    rows e = expression_rows value parent e

    -- the rows of an operator of two operands, after those of its operands
    module _ (o : Operator) (p : ℕ) (l r : Expression) (i : ℕ) where
      abbrev middle : ℕ
      middle = i + length (rows l)

      abbrev last : ℕ
      last = middle + length (rows r)

      abbrev own : List Draft
      own = operand value parent (operator_code o) 0 p 0 ∷ []

      binary_end : i + length (rows (binary o p l r)) ≡ suc last
      binary_end = omega (arith, length-append (rows l) (rows r ++ own), length-append (rows r) own)

      binary_held : Held t found (rows (binary o p l r)) i → Held t found (rows l) i × Held t found (rows r) middle × Held t found own last
      binary_held h =
          let first = held_parts t found (rows l) h in
          let second = held_parts t found (rows r) first.1 in
          (first.0, second.0, second.1)

    module _ (p : ℕ) (e : Expression) (i : ℕ) where
      negation_end : i + length (rows (negation p e)) ≡ suc (i + length (rows e))
      negation_end = omega (arith, length-append (rows e) (operand value parent code.NOT 0 p 0 ∷ []))

    one_end : (i : ℕ) → i + 1 ≡ suc i
    one_end i = omega arith

    pub spans_held : (e : Expression) (i : ℕ) → Held t found (rows e) i → Spans found t i e (i + length (rows e))
    spans_held (number p) i h = rw (one_end i) (spans_number (first_held t found h).code_is (operand_found h))
    spans_held (constant c p) i h = rw (one_end i) (spans_constant c (first_held t found h).code_is)
    spans_held (question_named p a) i h = rw (one_end i) (spans_question_named (first_held t found h).code_is (operand_found h))
    spans_held (question_numbered p a) i h = rw (one_end i) (spans_question_numbered (first_held t found h).code_is (operand_found h))
    spans_held (rule_named p a) i h = rw (one_end i) (spans_rule_named (first_held t found h).code_is (operand_found h))
    spans_held (negation p e) i h =
        let parts = held_parts t found (rows e) h in
        rw (negation_end p e i) (spans_negation (spans_held e i parts.0) (first_held t found parts.1).code_is)
    spans_held (binary o p l r) i h =
        let parts = binary_held o p l r i h in
        rw (binary_end o p l r i)
        (spans_binary o (spans_held l i parts.0) (spans_held r (middle o p l r i) parts.1) (first_held t found parts.2).code_is)

    pub parts_held : (e : Expression) (i : ℕ) → Held t found (rows e) i → AllParts parent i (i + length (rows e))
    parts_held (number p) i h = rw (one_end i) (part_one h refl number_code)
    parts_held (constant c p) i h = rw (one_end i) (part_one h refl (constant_code_lem c))
    parts_held (question_named p a) i h = rw (one_end i) (part_one h refl question_code)
    parts_held (question_numbered p a) i h = rw (one_end i) (part_one h refl question_code)
    parts_held (rule_named p a) i h = rw (one_end i) (part_one h refl rule_code)
    parts_held (negation p e) i h =
        let parts = held_parts t found (rows e) h in
        rw (negation_end p e i) (parts_then i _ _ (parts_held e i parts.0) (part_one parts.1 refl not_code))
    parts_held (binary o p l r) i h =
        let parts = binary_held o p l r i h in
        rw (binary_end o p l r i)
        (parts_then i _ _ (parts_held l i parts.0)
        (parts_then _ _ _ (parts_held r (middle o p l r i) parts.1) (part_one parts.2 refl (operator_code_lem o))))
