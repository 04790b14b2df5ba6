-- `lex::token_at` meets its contract. The loop's invariant: blanks and comments end at the same place from here as from the start.
use mathlib.Core.Path.{◌≡◌}
use mathlib.Core.Bool.{false}
use Prim.Native.Nat.{◌+◌, ◌-◌}
use lib.ListN.{length, drop}
use Rattle.lex.specs.Tokens.{gap}
use Rattle.lex.proofs.token_at.Given as goal

abbrev pub invariant-loop-i : goal.invariant-loop-i
invariant-loop-i l = l.at + gap false (drop l.at l.src) ≡ l.i + gap false (drop l.i l.src)

abbrev pub decreases-loop-i : goal.decreases-loop-i
decreases-loop-i l = length l.src - l.i
