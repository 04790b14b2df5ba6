-- `rules::over_limit` meets its contract.
use Prim.Native.Nat.{ℕ, ◌+◌}
use mathlib.Core.Path.{refl, ap, ◌∙◌}
use Rattle.rows.specs.Columns as column
use Rattle.drafts.specs.Faults.{draft_at}
use Rattle.drafts.proofs.DraftLaws.{cell_read}
use Rattle.stages.proofs.RuleLaws.{rule_over, rule_within, no_rule}
use Rattle.stages.proofs.rules.over_limit.Goals.{else-cell-eq-RULE-via-then-cell-eq-RULE+else-cell-gt-RULES, else-cell-eq-RULE-via-else-cell-eq-RULE}
use Rattle.stages.proofs.rules.over_limit.Goals as goal

pub returns-then-cell-gt-RULES : goal.returns-then-cell-gt-RULES
returns-then-cell-gt-RULES c =
    ap (λ (n : ℕ). n + 1) c.low.ensures
    ∙ rule_over (draft_at c.args.table.now c.args.row) (cell_read _ _ column.CODE refl c.cell.ensures) (cell_read _ _ column.OWN refl c.cell-then-cell-eq-RULE.ensures)
    (cell_read _ _ column.PLACE refl c.cell-then-cell-gt-RULES.ensures) c.if-cell-eq-RULE.true c.if-cell-gt-RULES.true

pub returns-else-cell-eq-RULE : goal.returns-else-cell-eq-RULE
returns-else-cell-eq-RULE c =
    let code = cell_read c.args.table.now c.args.row column.CODE refl c.cell.ensures in
    elim c.else-cell-eq-RULE.branch [
      | else-cell-eq-RULE-via-then-cell-eq-RULE+else-cell-gt-RULES w ↦ rule_within (draft_at c.args.table.now c.args.row) code (cell_read _ _ column.OWN refl w.cell-then-cell-eq-RULE.ensures) w.if-cell-gt-RULES.false
      | else-cell-eq-RULE-via-else-cell-eq-RULE w ↦ no_rule (draft_at c.args.table.now c.args.row) code w.if-cell-eq-RULE.false
    ]
