-- `choices::options_end` meets its contract.
use mathlib.Core.Path.{◌≡◌, refl, sym, ◌∙◌}
use native.Mathlib.Omega.{arith}
use Rattle.rows.specs.Columns as column
use Rattle.drafts.proofs.DraftLaws.{cell_read}
use Rattle.stages.proofs.ChoiceLaws.{passing_other, passing_option, passing_end}
use Rattle.stages.proofs.choices.options_end.Goals as goal

pub returns-then-cell-ne-OPTION : goal.returns-then-cell-ne-OPTION
returns-then-cell-ne-OPTION c = passing_other c.loop-row.invariant c.loop-row-test.true (λ e. c.if-cell-ne-OPTION.true (cell_read _ _ column.CODE refl c.cell.ensures ∙ e))

pub loop-row-preserved : goal.loop-row-preserved
loop-row-preserved c = passing_option c.loop-row.invariant c.loop-row-test.true (sym (cell_read _ _ column.CODE refl c.cell.ensures) ∙ c.if-cell-ne-OPTION.false)

pub returns : goal.returns
returns c =
    let all : c.args.count ≡ c.loop-row.row = omega arith in
    all ∙ passing_end c.loop-row.invariant c.loop-row-test.false
