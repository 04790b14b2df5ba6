-- 14 row by row, as the code finds it: a rule that reaches itself through references (document 02, W-202), over settled rows. Assumes nothing.
use Rattle.std.specs.Prelude.{ℕ, Bool, cond, List}
use Rattle.rule_steps.specs.Steps.{rule_round, rule_found}
use Rattle.answers.specs.Rows.{Draft}
use Rattle.answers.specs.Stages.{draft_rows, on_circle}
use Rattle.drafts.specs.Faults.{alone, first_fault}

-- the mark of what a row names, where it is a step on a circle of the steps of all rows
unfoldable pub circle_fault : List (List ℕ) → Draft → ℕ
circle_fault rows d = cond (on_circle rows d.row) d.own_at 0

-- where a test holds of the two rules that it leads from and to
unfoldable pub mark_if : (ℕ → ℕ → Bool) → List (List ℕ) → Draft → ℕ
mark_if test rows d = cond (test (rule_round rows d.row) (rule_found rows d.row)) d.own_at 0

-- the first mark of rows, each told by all of them
abbrev pub first_by : (List (List ℕ) → Draft → ℕ) → List Draft → ℕ
first_by fault ds = first_fault (alone (fault (draft_rows ds))) ds
