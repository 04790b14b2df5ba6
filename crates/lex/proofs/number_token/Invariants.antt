-- `lex::number_token` meets its contract. The loop's invariant: the digits end at the same place from here as from the start.
use mathlib.Core.Path.{◌≡◌}
use Prim.Native.Nat.{◌+◌, ◌<◌}
use lib.ListN.{drop}
use Rattle.lexemes.specs.Bytes.{is_digit}
use Rattle.lexemes.specs.Words.{run}
use Rattle.lex.proofs.number_token.Given as goal

abbrev pub invariant-loop-i : goal.invariant-loop-i
invariant-loop-i l = (l.at < l.i) × (l.at + run is_digit (drop l.at l.src) ≡ l.i + run is_digit (drop l.i l.src))
