-- `finish::resolve_references` meets its contract: resolving the rows from the loop's on comes to the same table.
use mathlib.Core.Path.{sym, ◌∙◌}
use Rattle.finish.proofs.ReferenceLaws.{resolving_next, resolving_other, resolving_end}
use Rattle.finish.proofs.resolve_references.Goals.{then-is_reference, else-is_reference}
use Rattle.finish.proofs.resolve_references.Goals as goal

pub loop-row-preserved : goal.loop-row-preserved
loop-row-preserved c =
    let v = c.loop-row.invariant in
    let inside = c.loop-row-test.true in
    elim c.if-is_reference.branch [
      | then-is_reference w ↦ rw w.table-is (resolving_next v inside c.cell.ensures (sym c.is_reference.ensures ∙ w.if-is_reference.true) w.number_found-n.ensures w.set_cell.ensures)
      | else-is_reference w ↦ rw w.table-is (resolving_other v inside c.cell.ensures (sym c.is_reference.ensures ∙ w.if-is_reference.false))
    ]

pub returns : goal.returns
returns c = resolving_end c.loop-row.invariant c.loop-row-test.false
