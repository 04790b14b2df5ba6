-- `values::number_value` meets its contract.
use mathlib.Core.Path.{sym, ap, ◌∙◌}
use mathlib.Core.List.{List}
use Prim.Native.Nat.{ℕ}
use native.Mathlib.Omega.{arith}
use borrow.Author.Tests.{eq-eqb, ne_eqb}
use Rattle.values.specs.Numbers.{value_from, numeral, fitted}
use Rattle.lexemes.proofs.Lists.{inside, rest_part}
use Rattle.values.proofs.number_value.Goals as goal

pub slice_bounds-value_in-count : goal.slice_bounds-value_in-count
slice_bounds-value_in-count c =
    let args = c.args in
    omega (arith, inside args.w.now 1 (λ e. omega (arith, c.byte_at.ensures)))

pub slice_bounds-value_in-start : goal.slice_bounds-value_in-start
slice_bounds-value_in-start c =
    let args = c.args in
    omega (arith, inside args.w.now 1 (λ e. omega (arith, c.byte_at.ensures)))

pub returns-then-byte_at-eq120 : goal.returns-then-byte_at-eq120
unfolding numeral
returns-then-byte_at-eq120 c =
    let args = c.args in
    let hex = sym c.byte_at.ensures ∙ c.if-byte_at-eq120.true in
    rw (eq-eqb _ 120 hex) (c.value_in.ensures ∙ ap (λ (s : List ℕ). fitted (value_from 16 0 s)) (rest_part args.w.now 2))

pub returns-else-byte_at-eq120 : goal.returns-else-byte_at-eq120
unfolding numeral
returns-else-byte_at-eq120 c = rw (ne_eqb _ 120 (λ hex. c.if-byte_at-eq120.false (c.byte_at.ensures ∙ hex))) c.value_in-else-byte_at-eq120.ensures
