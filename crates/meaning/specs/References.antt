-- The references of an expression, from left to right (document 01, Grammar: `questionref` and `ruleref`).
-- Assumes nothing.
use Rattle.std.specs.Prelude.{ℕ, List, [], ◌∷◌, ◌++◌}
use Rattle.formulas.specs.Formula.{Formula, f_number, f_constant, f_question, f_rule, f_not, f_binary}

-- the rules that an expression refers to
unfoldable pub references : Formula → List ℕ
references (f_number v) = []
references (f_constant c) = []
references (f_question n) = []
references (f_rule n) = n ∷ []
references (f_not e) = references e
references (f_binary o l r) = references l ++ references r

-- the questions that it refers to
unfoldable pub question_references : Formula → List ℕ
question_references (f_number v) = []
question_references (f_constant c) = []
question_references (f_question n) = n ∷ []
question_references (f_rule n) = []
question_references (f_not e) = question_references e
question_references (f_binary o l r) = question_references l ++ question_references r
