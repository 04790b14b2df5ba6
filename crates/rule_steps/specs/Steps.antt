-- The references between rules in rows, as steps (document 02, W-202, refusal 14).
-- Assumes nothing.
use Rattle.std.specs.Prelude.{ℕ, max, Bool, cond, ◌&&◌, List, [], ◌∷◌, ◌++◌, eqb, get_or, Option, Some, None}
use Rattle.rows.specs.Codes as code
use Rattle.rows.specs.Columns as column
use Rattle.rows.specs.Table.{row_at}
use Rattle.rows.specs.Rows.{rows_from}
use Rattle.circles.specs.Circles.{is_rule, Step, added}

module _ (rows : List (List ℕ)) where
  -- "inside a rule": the rule that a ruleref stands in. The rows of an expression have the rule or condition round it for a parent; what is no ruleref
  -- or stands in a condition leads from no rule, 0
  unfoldable pub rule_round : List ℕ → ℕ
  rule_round r =
      let parent = get_or rows (get_or r column.PARENT 0) [] in
      cond (eqb (get_or r column.CODE 0) code.RULE_REF && eqb (get_or parent column.CODE 0) code.RULE) (get_or parent column.OWN 0) 0

  -- the rule that it finds
  abbrev pub rule_found : List ℕ → ℕ
  rule_found r = get_or r column.A 0

  -- a row that leads from a rule to a rule
  abbrev pub is_step : List ℕ → Bool
  is_step r = is_rule (rule_round r) && is_rule (rule_found r)

  -- the step of a row, if it is one
  unfoldable pub step_in : List ℕ → List Step
  step_in r = cond (is_step r) (record { from = rule_round r; to = rule_found r } ∷ []) []

  -- the steps of some of the rows
  unfoldable pub steps_among : List (List ℕ) → List Step
  steps_among [] = []
  steps_among (r ∷ rs) = step_in r ++ steps_among rs

-- the steps between the rules of rows, in their order
abbrev pub rule_steps : List (List ℕ) → List Step
rule_steps rows = steps_among rows rows

-- those of the first `count` rows of a table, and the step of one row
abbrev pub table_steps : List ℕ → ℕ → List Step
table_steps t count = rule_steps (rows_from t 0 count)

abbrev pub step_at : List ℕ → ℕ → ℕ → List Step
step_at t count row = step_in (rows_from t 0 count) (row_at t row)

-- the greatest rule of steps, 0 where there are none
unfoldable pub greatest : List Step → ℕ
greatest [] = 0
greatest (s ∷ l) = max (max s.from s.to) (greatest l)

-- a rule that may be absent, as a number: 0 for none
abbrev pub rule_or_zero : Option ℕ → ℕ
rule_or_zero None = 0
rule_or_zero (Some rule) = rule

-- the map with some steps more
unfoldable pub all_added : List ℕ → List Step → List ℕ
all_added words [] = words
all_added words (s ∷ l) = all_added (added words s.from s.to) l
