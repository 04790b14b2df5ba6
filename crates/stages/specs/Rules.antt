-- Stage 10 of a row (document 01, "Refusal numbers", No. 10).
use Rattle.std.specs.Prelude.{ℕ, suc, ◌%◌, cond, ◌&&◌, ltb}
use Rattle.rows.specs.Codes as code
use Rattle.rows.specs.Columns as column
use Rattle.rows.specs.Draft.{HALF}
use Rattle.answers.specs.Rows.{Draft}
use Rattle.answers.specs.Stages.{cell, is}

-- 10: a 256th rule
unfoldable pub rule_fault : Draft → ℕ
rule_fault d = cond (is code.RULE d && ltb 255 (cell column.OWN d)) (suc (cell column.PLACE d % HALF)) 0
