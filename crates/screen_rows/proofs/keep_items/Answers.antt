-- `screen_rows::keep_items` meets its contract: what is left of the rows is still to be kept or not.
use mathlib.Core.Path.{sym, ap, ◌∙◌}
use Rattle.screen.specs.Kinds.{is_item}
use Rattle.screen_rows.proofs.PassLaws.{keeping_start, keeping_none, keeping_item, keeping_end}
use Rattle.screen_rows.proofs.keep_items.Goals as goal
use Rattle.screen_rows.proofs.keep_items.Goals.{then-not-is_item, else-not-is_item}

pub loop-row-init : goal.loop-row-init
loop-row-init c = keeping_start _ _

pub loop-row-preserved : goal.loop-row-preserved
loop-row-preserved c =
    let kept = c.is_item.ensures ∙ ap is_item c.cell.ensures in
    let inside = c.loop-row-test.true in
    elim c.if-not-is_item.branch [
      | then-not-is_item w ↦ rw w.out-is (keeping_none _ c.loop-row.invariant inside (sym w.if-not-is_item.true ∙ kept))
      | else-not-is_item w ↦ rw w.out-is (keeping_item _ c.loop-row.invariant inside (sym w.if-not-is_item.false ∙ kept))
    ]

pub returns : goal.returns
returns c = keeping_end _ c.loop-row.invariant c.loop-row-test.false
