-- The words of an expression's text, with the fewest parentheses (document 01, Resolved text).
-- Assumes nothing.
use Rattle.std.specs.Prelude.{List, [], ◌∷◌, ◌++◌, Bool, true, false, ℕ, suc, leb}
use Rattle.lexemes.specs.Classes as class
use Rattle.answers.specs.Expression.{operator_class, constant_class}
use Rattle.formulas.specs.Shapes.{Lexed, sign, decimal, rule_name}
use Rattle.formulas.specs.Formula.{Formula, f_number, f_constant, f_question, f_rule, f_not, f_binary, tight}

-- ---- their words: where n levels are allowed, an operator of a looser one stands in parentheses

abbrev pub parens : Bool → List Lexed → List Lexed
parens true w = sign class.open_paren ∷ (w ++ (sign class.close_paren ∷ []))
parens false w = w

abbrev pub print : ℕ → Formula → List Lexed
print n (f_number v) = decimal v ∷ []
print n (f_constant c) = sign (constant_class c) ∷ []
print n (f_question q) = sign class.«questionref» ∷ sign class.open_paren ∷ decimal q ∷ sign class.close_paren ∷ []
print n (f_rule q) = sign class.«ruleref» ∷ sign class.open_paren ∷ rule_name q ∷ sign class.close_paren ∷ []
print n (f_not e) = sign class.«NOT» ∷ print 0 e
print n (f_binary o l r) = parens (leb n (tight o)) (print (suc (tight o)) l ++ (sign (operator_class o) ∷ print (tight o) r))
