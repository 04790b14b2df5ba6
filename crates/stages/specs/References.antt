-- Stage 11 row by row (document 01, "Refusal numbers", No. 11; document 02, W-203).
use Rattle.std.specs.Prelude.{ℕ, ◌-◌, Bool, true, false, not, cond, List, eqb}
use Rattle.numbers.specs.Numbers.{used}
use Rattle.rows.specs.Codes as code
use Rattle.rows.specs.Columns as column
use Rattle.answers.specs.Rows.{Draft}
use Rattle.answers.specs.Stages.{cell, is, row_among, form_round}
use Rattle.names.specs.Names.{find_in}

-- by the source s, the index es of its names, and the map of the written question numbers: a questionref finds a question, by a
-- written number or by a name
unfoldable pub finds_question : List ℕ → List ℕ → List ℕ → Draft → Bool
finds_question s es written d = cond (eqb (cell column.A d) 0) (not (eqb (find_in s es d.own_at false) 0)) (used written (cell column.A d))

-- by the source, the index and all rows: a ruleref finds a rule by its name, in the form that it stands in
unfoldable pub finds_rule : List ℕ → List ℕ → List Draft → Draft → Bool
finds_rule s es ds d =
    let at = find_in s es d.own_at true in
    cond (eqb at 0) false (eqb (cell column.PARENT (row_among ds (at - 1))) (form_round ds d))

-- with the map of the forms' numbers too: a goto, questionref or ruleref that finds nothing
unfoldable pub reference_fault : List ℕ → List ℕ → List ℕ → List ℕ → List Draft → Draft → ℕ
reference_fault s es forms written ds d =
    cond (is code.GOTO d) (cond (used forms (cell column.A d)) 0 d.limit_at)
    (cond (is code.QUESTION_REF d) (cond (finds_question s es written d) 0 d.own_at)
    (cond (is code.RULE_REF d) (cond (finds_rule s es ds d) 0 d.own_at) 0))
