-- `lex::number_token` meets its contract. The loop's invariant: the digits end at the same place from here as from the start.
use mathlib.Core.Path.{sym, ◌∙◌}
use Prim.Native.Nat.{◌≤◌}
use native.Mathlib.Omega.{arith}
use lib.ListN.{length, get_or-eq_default}
use Rattle.lexemes.specs.Bytes.{is_digit}
use Rattle.lexemes.proofs.Steps.{run_end, run_no, run_yes}
use Rattle.lex.proofs.Cases.{decimal_token}
use Rattle.lex.proofs.number_token.Goals as goal

pub loop-i-init : goal.loop-i-init
loop-i-init c = (omega arith, omega (arith, run_yes is_digit c.args.src.now c.args.at c.requires.0 c.requires.1))

pub loop-i-preserved : goal.loop-i-preserved
loop-i-preserved c =
    let step = run_yes is_digit c.args.src.now c.loop-i.i (omega arith) (sym c.is_digit.ensures ∙ c.if-not-is_digit.false) in
    (omega arith, omega (arith, step))

pub any_number-requires : goal.any_number-requires
any_number-requires c = c.requires

pub returns-then-in_word : goal.returns-then-in_word
returns-then-in_word c = c.any_number.ensures

pub returns-then-not-is_digit : goal.returns-then-not-is_digit
returns-then-not-is_digit c =
    let stop = run_no is_digit c.args.src.now c.loop-i.i (omega arith) (sym c.is_digit.ensures ∙ c.if-not-is_digit.true) in
    decimal_token c.args.src.now c.args.at c.loop-i.i c.requires.1 (omega (arith, c.loop-i.invariant.1)) (sym c.in_word.ensures ∙ c.if-in_word.false)

pub returns : goal.returns
returns c =
    let s = c.args.src.now in
    let past : length s ≤ c.loop-i.i = omega arith in
    let stop = run_end is_digit s c.loop-i.i past in
    let all = c.loop-i.auto.i-end (omega arith) in
    decimal_token s c.args.at (length s) c.requires.1 (omega (arith, c.loop-i.invariant.1)) (rw (get_or-eq_default s 0 {n = length s} (omega arith)))
