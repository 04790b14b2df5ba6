-- `sizes::bias` meets its contract.
use mathlib.Core.Path.{sym, ◌∙◌}
use native.Mathlib.Nat.{mod-lt}
use native.Mathlib.Omega.{arith}
use Rattle.sizes.proofs.Signed.{width_some, value}
use Rattle.sizes.proofs.bias.Goals as goal

pub returns-then-minus : goal.returns-then-minus
returns-then-minus c =
    let args = c.args in
    let v = value _ (width_some args.size) args.x in
    rw c.half-h.ensures.value (omega (arith, v.with_minus (sym c.minus.ensures ∙ c.if-minus.true)))

pub returns-else-minus : goal.returns-else-minus
returns-else-minus c =
    let args = c.args in
    let v = value _ (width_some args.size) args.x in
    rw c.half-h.ensures.value (omega (arith, v.without_minus (sym c.minus.ensures ∙ c.if-minus.false)))
