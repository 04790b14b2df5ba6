-- `stages::choices::below` meets its contract.
use mathlib.Core.Path.{refl, ◌∙◌}
use Rattle.rows.specs.Columns as column
use Rattle.drafts.proofs.DraftLaws.{cell_read}
use Rattle.answers.specs.Stages.{below}
use Rattle.stages.proofs.choices.below.Goals as goal

pub returns : goal.returns
unfolding below
returns c =
    let t = c.args.table.now in
    let i = c.args.row in
    c.below.ensures ∙ rw (cell_read t i column.SIZE refl c.cell-size_and_display.ensures)
