-- The text of an expression is the spelling of its formula.
-- Assumes nothing.
use mathlib.Core.Path.{◌≡◌, refl, ap, ap₂, sym, ◌∙◌}
use mathlib.Core.List.{List, [], ◌∷◌, ◌++◌, map, map-append, append_assoc}
use mathlib.Core.Bool.{Bool, true, false}
use Prim.Native.Nat.{ℕ, suc, ◌+◌, ◌-◌, ◌≤◌}
use native.Mathlib.Omega.{arith}
use lib.Dec.{leb, ltb}
use borrow.Author.Tests.{ltb-true, ltb-false, le-leb, lt-leb}
use Rattle.lexemes.specs.Lexemes.{signs, reserved, lexemes}
use Rattle.lexemes.specs.Classes as class
use Rattle.answers.specs.Expression.{Operator, or, and, bit_or, bit_and, equal, not_equal, less, less_equal, greater, greater_equal, shift_left, shift_right, add, subtract, multiply, divide, modulo, operator_class, level}
use Rattle.answers.specs.Expression.{Expression, number, constant, question_named, question_numbered, rule_named, negation, binary}
use Rattle.answers.specs.Text.{words, lexeme, grouped, printed}
use Rattle.formulas.specs.Shapes.{Lexed, sign, word}
use Rattle.formulas.specs.Formula.{formula, tight}
use Rattle.formulas.specs.Words.{parens, print}

-- levels and heights
heights : (o : Operator) → level o + tight o ≡ 8
heights or = refl
heights and = refl
heights bit_or = refl
heights bit_and = refl
heights equal = refl
heights not_equal = refl
heights less = refl
heights less_equal = refl
heights greater = refl
heights greater_equal = refl
heights shift_left = refl
heights shift_right = refl
heights add = refl
heights subtract = refl
heights multiply = refl
heights divide = refl
heights modulo = refl

looser : (o : Operator) (n : ℕ) → n ≤ 9 → ltb (level o) n ≡ leb (9 - n) (tight o)
looser o n h = by (ltb (level o) n) refl
  where
    by : (b : Bool) → ltb (level o) n ≡ b → b ≡ leb (9 - n) (tight o)
    by true e = sym (le-leb (9 - n) (tight o) (omega (arith, heights o, ltb-true (level o) n e)))
    by false e = sym (lt-leb (9 - n) (tight o) (omega (arith, heights o, ltb-false (level o) n e)))

grouped_words : (b : Bool) (ls : List Lexed) → grouped b (map word ls) ≡ map word (parens b ls)
unfolding lexemes signs reserved
grouped_words true ls = ap (λ ws. words "(" ++ ws) (sym (map-append word ls (sign class.close_paren ∷ [])))
grouped_words false ls = refl

module _ (look : ℕ → List ℕ) where
  -- level n is height 9 - n
  pub printed_words : (e : Expression) (n : ℕ) → n ≤ 9 → printed look n e ≡ map word (print (9 - n) (formula look e))
  unfolding lexemes signs reserved
  printed_words (number p) n h = refl
  printed_words (constant c p) n h = refl
  printed_words (question_named p q) n h = refl
  printed_words (question_numbered p q) n h = refl
  printed_words (rule_named p q) n h = refl
  printed_words (negation p e) n h = ap (λ ws. words "NOT" ++ ws) (printed_words e 9 (omega arith))
  printed_words (binary o p l r) n h =
      let x = print (suc (tight o)) (formula look l) in
      let y = print (tight o) (formula look r) in
      let hl : 9 - level o ≡ suc (tight o) = omega (arith, heights o) in
      let hr : 9 - suc (level o) ≡ tight o = omega (arith, heights o) in
      let el : printed look (level o) l ≡ map word x = printed_words l (level o) (omega (arith, heights o)) ∙ ap (λ m. map word (print m (formula look l))) hl in
      let er : printed look (suc (level o)) r ≡ map word y = printed_words r (suc (level o)) (omega (arith, heights o)) ∙ ap (λ m. map word (print m (formula look r))) hr in
      let inner : printed look (level o) l ++ lexeme (operator_class o) ++ printed look (suc (level o)) r ≡ map word (x ++ (sign (operator_class o) ∷ y)) =
      ap₂ (λ a b. a ++ lexeme (operator_class o) ++ b) el er ∙ append_assoc (map word x) (lexeme (operator_class o)) (map word y) ∙ sym (map-append word x (sign (operator_class o) ∷ y)) in
      ap₂ grouped (looser o n h) inner ∙ grouped_words (leb (9 - n) (tight o)) (x ++ (sign (operator_class o) ∷ y))
