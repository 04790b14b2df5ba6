-- `values::value_in` meets its contract. The loop's invariant: the value so far fits, and with the digits from here on it is the whole value.
use mathlib.Core.Path.{◌≡◌, refl, sym, ap, ◌∙◌}
use Prim.Native.Nat.{◌+◌, ◌*◌, ◌^◌, ◌<◌}
use native.Mathlib.Omega.{arith}
use Rattle.values.specs.Numbers.{value_from, fitted}
use lib.ListN.{drop}
use Rattle.values.proofs.ValueLaws.{fitted_fits, fitted_large, value_end, value_large, value_next}
use Rattle.values.proofs.value_in.Goals as goal

pub returns-in_err-checked_mul : goal.returns-in_err-checked_mul
returns-in_err-checked_mul c =
    let loop = c.loop-b in
    let over : c.loop-b.value * c.args.base < 2 ^ 64 → ⊥ = rw c.in_err-checked_mul.was at c.checked_mul.ensures in
    let whole = value_large c.args.base loop.value c.args.w.now loop.b-index _ c.requires refl (omega arith) (omega arith) in
    c.from_residual.ensures ∙ sym (ap fitted loop.invariant.1 ∙ fitted_large _ whole)

pub returns-in_err-value : goal.returns-in_err-value
returns-in_err-value c =
    let loop = c.loop-b in
    let product = rw c.in_ok-checked_mul.was at c.checked_mul.ensures in
    let over = rw c.in_err-value.was at c.checked_add.ensures in
    let digit = c.from.ensures ∙ c.digit_value.ensures in
    let whole = value_large c.args.base loop.value c.args.w.now loop.b-index _ c.requires digit (omega arith) (omega (arith, product.0, product.1, over)) in
    c.from_residual-in_err-value.ensures ∙ sym (ap fitted loop.invariant.1 ∙ fitted_large _ whole)

pub loop-b-preserved : goal.loop-b-preserved
loop-b-preserved c =
    let loop = c.loop-b in
    let product = rw c.in_ok-checked_mul.was at c.checked_mul.ensures in
    let sum = rw c.in_ok-value.was at c.checked_add.ensures in
    let digit = c.from.ensures ∙ c.digit_value.ensures in
    let next = value_next c.args.base loop.value c.args.w.now loop.b-index _ digit (omega arith) in
    let value : loop.value * c.args.base + c.from.result ≡ c.in_ok-value.value = omega (arith, product.1, sum.1) in
    (omega (arith, sum.0, sum.1), loop.invariant.1 ∙ next ∙ ap (λ v. value_from c.args.base v (drop (loop.b-index + 1) c.args.w.now)) value)

pub returns : goal.returns
returns c =
    let loop = c.loop-b in
    let whole = loop.invariant.1 ∙ value_end c.args.base loop.value c.args.w.now loop.b-index (omega arith) in
    sym (ap fitted whole ∙ fitted_fits loop.value loop.invariant.0)
