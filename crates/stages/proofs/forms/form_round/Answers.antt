-- `forms::form_round` meets its contract: the same form is reached from the loop's row.
use Prim.Native.Nat.{◌+◌, ◌-◌}
use mathlib.Core.Path.{◌≡◌, refl}
use native.Mathlib.Omega.{arith}
use Rattle.rows.specs.Columns as column
use Rattle.drafts.proofs.DraftLaws.{cell_read}
use Rattle.stages.proofs.FormLaws.{climbing_start, climbing_found, climbing_next, climbing_end}
use Rattle.stages.proofs.forms.form_round.Goals as goal

pub loop-init : goal.loop-init
loop-init c = climbing_start _ _ (cell_read _ _ column.PARENT refl c.cell-at.ensures)

pub returns-then-is_form : goal.returns-then-is_form
returns-then-is_form c = climbing_found _ _ c.loop.invariant (omega arith) c.is_form.ensures c.if-is_form.true

pub loop-preserved : goal.loop-preserved
loop-preserved c =
    let less : 16 - (c.loop.counter + 1) ≡ 16 - c.loop.counter - 1 = omega arith in
    rw less (climbing_next _ _ c.loop.invariant (omega arith) c.is_form.ensures c.if-is_form.false c.parent-at.ensures)

pub returns : goal.returns
returns c = climbing_end _ _ c.loop.invariant (omega arith)
