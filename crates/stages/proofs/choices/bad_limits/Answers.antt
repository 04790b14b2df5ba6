-- `choices::bad_limits` meets its contract.
use mathlib.Core.Path.{refl, sym, ◌∙◌}
use mathlib.Core.Bool.{true≢false}
use Rattle.rows.specs.Columns as column
use Rattle.drafts.specs.Faults.{draft_at}
use Rattle.drafts.proofs.DraftLaws.{cell_read}
use Rattle.stages.proofs.ChoiceLaws.{limits_crossed, default_outside, default_within}
use Rattle.stages.proofs.choices.bad_limits.Goals.{then-below-2, else-below-2}
use Rattle.stages.proofs.choices.bad_limits.Goals as goal

pub returns-then-below : goal.returns-then-below
returns-then-below c =
    let t = c.args.table.now in
    let i = c.args.row in
    let least = cell_read t i column.A refl c.cell-least.ensures in
    let most = cell_read t i column.B refl c.cell-most.ensures in
    c.limit_mark.ensures ∙ limits_crossed (draft_at t i) least most c.below.ensures c.if-below.true

pub returns-then-below-3 : goal.returns-then-below-3
returns-then-below-3 c =
    let t = c.args.table.now in
    let i = c.args.row in
    let least = cell_read t i column.A refl c.cell-least.ensures in
    let most = cell_read t i column.B refl c.cell-most.ensures in
    let x = cell_read t i column.D refl c.cell-d.ensures in
    c.default_mark.ensures
    ∙ default_outside (draft_at t i) least most c.below.ensures c.if-below.false x c.below-else-below.ensures refl
    (elim c.if-below-2.branch [
      | then-below-2 w ↦ rw w.if-below-2.true
      | else-below-2 w ↦ rw w.if-below-2.false (sym w.below-else-below-2.ensures ∙ sym w.value-is ∙ c.if-below-3.true)
    ])

pub returns-else-below-3 : goal.returns-else-below-3
returns-else-below-3 c =
    let t = c.args.table.now in
    let i = c.args.row in
    let least = cell_read t i column.A refl c.cell-least.ensures in
    let most = cell_read t i column.B refl c.cell-most.ensures in
    let x = cell_read t i column.D refl c.cell-d.ensures in
    default_within (draft_at t i) least most c.below.ensures c.if-below.false x c.below-else-below.ensures refl
    (elim c.if-below-2.branch [
      | then-below-2 w ↦ absurd (true≢false (sym w.if-below-2.true ∙ sym w.value-is ∙ c.if-below-3.false))
      | else-below-2 w ↦ rw w.if-below-2.false (sym w.below-else-below-2.ensures ∙ sym w.value-is ∙ c.if-below-3.false)
    ])
