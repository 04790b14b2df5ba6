-- `lex::first_bad` meets its contract. The loop's invariant: the first bad token is the first from here on.
use mathlib.Core.Path.{◌≡◌}
use Prim.Native.Nat.{◌-◌, ◌≤◌}
use lib.ListN.{length}
use Rattle.lex.specs.Tokens.{tokens_from, bad_among, first_bad}
use Rattle.lex.proofs.first_bad.Given as goal

abbrev pub invariant-loop-token : goal.invariant-loop-token
invariant-loop-token l = (l.at ≤ length l.src) × (first_bad l.src ≡ bad_among (tokens_from l.src l.at))

abbrev pub decreases-loop-token : goal.decreases-loop-token
decreases-loop-token l = length l.src - l.at
