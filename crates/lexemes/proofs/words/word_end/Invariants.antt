-- `lexemes::words::word_end` meets its contract. The loop's invariant: the end is the same from here as from the start.
use mathlib.Core.Path.{◌≡◌}
use Prim.Native.Nat.{◌+◌}
use lib.ListN.{drop}
use Rattle.lexemes.specs.Bytes.{is_word_byte}
use Rattle.lexemes.specs.Words.{run}
use Rattle.lexemes.proofs.words.word_end.Given as goal

abbrev pub invariant-loop-i : goal.invariant-loop-i
invariant-loop-i l = l.at + run is_word_byte (drop l.at l.src) ≡ l.i + run is_word_byte (drop l.i l.src)
