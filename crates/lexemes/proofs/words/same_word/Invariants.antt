-- `lexemes::words::same_word` meets its contract. The loop's invariant: the answer is the same from here as from the start.
use mathlib.Core.Path.{◌≡◌}
use Rattle.lexemes.specs.Words.{same_word}
use Rattle.lexemes.proofs.words.same_word.Given as goal

abbrev pub invariant-loop-i : goal.invariant-loop-i
invariant-loop-i l = same_word l.src l.p l.q ≡ same_word l.src l.i l.j
