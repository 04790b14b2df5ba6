-- The level of an operator by its token, and the words of operators and constants by the codes of their rows (document 01, Grammar and Rows).
-- Assumes nothing.
use Rattle.std.specs.Prelude.{ℕ, List, ◌++◌, map}
use Rattle.lexemes.specs.Classes.{NAME}
use Rattle.answers.specs.Expression.{operators, operator_class, operator_code, level, constant_class, constant_code}
use Rattle.fields.specs.Words.{Pair, pair, look_up, constants}

-- how many levels of operators there are
abbrev pub LEVELS : ℕ
LEVELS = 9

unfoldable pub operator_levels : List Pair
operator_levels = map (λ o. pair (operator_class o) (level o)) operators

-- the level of an operator's token, the loosest being 0; LEVELS for any other
unfoldable pub level_of : ℕ → ℕ
level_of k = look_up operator_levels LEVELS k

unfoldable pub code_classes : List Pair
code_classes = map (λ o. pair (operator_code o) (operator_class o)) operators ++ map (λ c. pair (constant_code c) (constant_class c)) constants

-- the class of an operator's or a constant's word; NAME for any other row
unfoldable pub code_class : ℕ → ℕ
code_class k = look_up code_classes NAME k
