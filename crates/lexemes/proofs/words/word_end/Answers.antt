-- `lexemes::words::word_end` meets its contract. The loop's invariant: the end is the same from here as from the start.
use mathlib.Core.Path.{sym, ◌∙◌}
use native.Mathlib.Omega.{arith}
use lib.ListN.{length}
use Rattle.lexemes.specs.Bytes.{is_word_byte}
use Rattle.lexemes.proofs.Lists.{either_less}
use Rattle.lexemes.proofs.Steps.{run_end, run_no, run_yes}
use Rattle.lexemes.proofs.words.word_end.Goals as goal

pub loop-i-preserved : goal.loop-i-preserved
loop-i-preserved c =
    let args = c.args in
    let loop = c.loop-i in
    omega (arith, run_yes is_word_byte args.src.now loop.i (omega arith) (sym c.is_word_byte.ensures ∙ c.if-not-is_word_byte.false))

pub returns-then-not-is_word_byte : goal.returns-then-not-is_word_byte
returns-then-not-is_word_byte c =
    let args = c.args in
    let loop = c.loop-i in
    omega (arith, run_no is_word_byte args.src.now loop.i (omega arith) (sym c.is_word_byte.ensures ∙ c.if-not-is_word_byte.true))

pub returns : goal.returns
returns c =
    let s = c.args.src.now in
    let at = c.args.at in
    let here = run_end is_word_byte s c.loop-i.i (omega arith) in
    either_less (length s) at
    (λ l. omega (arith, here, run_end is_word_byte s at (omega arith)))
    (λ l. omega (arith, here, c.loop-i.auto.i-end l))
