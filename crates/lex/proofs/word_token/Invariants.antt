-- `lex::word_token` meets its contract. The loop's invariant: no word goes on past `end`, and where it is sure, the word ends there.
use mathlib.Core.Path.{◌≡◌}
use mathlib.Core.Bool.{true, cond}
use Prim.Native.Nat.{◌+◌}
use lib.ListN.{drop}
use Rattle.lexemes.specs.Bytes.{is_word_byte}
use Rattle.lex.specs.Likely.{LikelyEnd}
use Rattle.lexemes.specs.Words.{run}
use Rattle.lex.proofs.word_token.Given as goal

abbrev pub invariant-loop-at : goal.invariant-loop-at
invariant-loop-at l = LikelyEnd l.src l.at l.end × (l.sure ≡ true → l.end ≡ l.at + run is_word_byte (drop l.at l.src))

abbrev pub decreases-loop-at : goal.decreases-loop-at
decreases-loop-at l = cond l.sure 0 1
