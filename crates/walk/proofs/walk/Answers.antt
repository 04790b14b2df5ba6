-- `walk::walk` meets its contract: what the walk over the whole source ends with says so.
-- Assumes nothing.
use mathlib.Core.Path.{refl, sym, ◌∙◌}
use Rattle.walk.proofs.TopSteps.{fault_number, found_number, walk_refused, walk_accepts}
use Rattle.walk.proofs.walk.Goals as goal

pub returns-then-is_err : goal.returns-then-is_err
returns-then-is_err c =
    let end = c.form_set-end in
    let refused = fault_number c.finish-found.result (sym c.is_err.ensures.value ∙ c.if-is_err.true) in
    walk_refused refl end.ensures.walked end.ensures.few c.finish-found.ensures refused end.auto.table c.clear.ensures

pub returns-else-is_err : goal.returns-else-is_err
returns-else-is_err c =
    let end = c.form_set-end in
    walk_accepts refl end.ensures.walked end.ensures.few c.finish-found.ensures (found_number c.finish-found.result (sym c.is_err.ensures.value ∙ c.if-is_err.false))
