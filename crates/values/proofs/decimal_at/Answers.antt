-- `values::decimal_at` meets its contract. The loop's invariant: the value so far fits, and with the digits from here on it is the whole value.
use mathlib.Core.Path.{◌≡◌, sym, ap, ◌∙◌}
use Prim.Native.Nat.{◌+◌, ◌*◌, ◌≤◌}
use native.Mathlib.Omega.{arith}
use lib.ListN.{length, get_or, drop, get_or-eq_default}
use Rattle.lexemes.specs.Words.{word}
use Rattle.values.specs.Numbers.{value_from, fitted}
use Rattle.lexemes.proofs.Steps.{digit_range}
use Rattle.values.proofs.ValueLaws.{value_start, value_digit, value_word_end}
use Rattle.values.proofs.decimal_at.Goals as goal

pub loop-i-init : goal.loop-i-init
loop-i-init c = (omega arith, value_start c.args.src.now c.args.at c.requires)

pub overflow_sub-b : goal.overflow_sub-b
overflow_sub-b c = omega (arith, digit_range (get_or c.args.src.now c.loop-i.i 0) (sym c.is_digit.ensures ∙ c.if-is_digit.true))

pub loop-i-preserved : goal.loop-i-preserved
loop-i-preserved c =
    let s = c.args.src.now in
    let loop = c.loop-i in
    let digit = sym c.is_digit.ensures ∙ c.if-is_digit.true in
    let product = rw c.in_ok-checked_mul.was at c.checked_mul.ensures in
    let sum = rw c.in_ok-value.was at c.checked_add.ensures in
    let next = ap fitted (value_digit s loop.i loop.value _ digit c.from.ensures) in
    let value : loop.value * 10 + c.from.result ≡ c.in_ok-value.value = omega (arith, product.1, sum.1) in
    (omega (arith, sum.0, sum.1), loop.invariant.1 ∙ next ∙ ap (λ v. fitted (value_from 10 v (word (drop (loop.i + 1) s)))) value)

pub returns-else-is_word_byte : goal.returns-else-is_word_byte
returns-else-is_word_byte c =
    let whole = value_word_end c.args.src.now c.loop-i.i c.loop-i.value (sym c.is_word_byte.ensures ∙ c.if-is_word_byte.false) in
    c.loop-i.invariant.1 ∙ ap fitted whole

pub returns : goal.returns
returns c =
    let s = c.args.src.now in
    let past : length s ≤ c.loop-i.i = omega arith in
    let whole = value_word_end s c.loop-i.i c.loop-i.value (rw (get_or-eq_default s 0 past)) in
    c.loop-i.invariant.1 ∙ ap fitted whole
