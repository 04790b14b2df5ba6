-- `lexemes::words::same_word` meets its contract. The loop's invariant: the answer is the same from here as from the start.
use mathlib.Core.Path.{sym, ap, ◌∙◌}
use Prim.Native.Nat.{ℕ}
use native.Mathlib.Omega.{arith}
use lib.Dec.{eqb}
use Rattle.lexemes.specs.Bytes.{is_word_byte}
use Rattle.lexemes.proofs.WordParts.{byte_inside, words_apart, words_end_here, words_go_on, words_past}
use Rattle.lexemes.proofs.words.same_word.Goals as goal

pub returns-then-b-byte_at : goal.returns-then-b-byte_at
returns-then-b-byte_at c =
    let args = c.args in
    let loop = c.loop-i in
    let byte_at = c.byte_at in
    let if1 = c.if-b-byte_at in
    rw (c.word_byte.ensures, c.word_byte-then-b-byte_at.ensures) (words_apart args.src.now loop.i loop.j (λ e. if1.true (e ∙ sym byte_at.ensures)) ∙ sym loop.invariant)

pub returns-then-not-is_word_byte : goal.returns-then-not-is_word_byte
returns-then-not-is_word_byte c =
    let args = c.args in
    let loop = c.loop-i in
    let same_byte = c.if-b-byte_at.false ∙ c.byte_at.ensures in
    sym (loop.invariant ∙ words_end_here args.src.now loop.i loop.j same_byte (sym c.is_word_byte.ensures ∙ c.if-not-is_word_byte.true))

pub overflow_add-j : goal.overflow_add-j
overflow_add-j c =
    let args = c.args in
    let loop = c.loop-i in
    let same_byte = c.if-b-byte_at.false ∙ c.byte_at.ensures in
    omega (arith, byte_inside args.src.now loop.j (ap is_word_byte (sym same_byte) ∙ sym c.is_word_byte.ensures ∙ c.if-not-is_word_byte.false))

pub loop-i-preserved : goal.loop-i-preserved
loop-i-preserved c =
    let args = c.args in
    let loop = c.loop-i in
    let same_byte = c.if-b-byte_at.false ∙ c.byte_at.ensures in
    loop.invariant ∙ words_go_on args.src.now loop.i loop.j same_byte (sym c.is_word_byte.ensures ∙ c.if-not-is_word_byte.false)

pub returns : goal.returns
returns c =
    let args = c.args in
    let loop = c.loop-i in
    ap (λ (b : ℕ). eqb b 0) c.word_byte-2.ensures ∙ words_past args.src.now loop.i loop.j (omega arith) ∙ sym loop.invariant
