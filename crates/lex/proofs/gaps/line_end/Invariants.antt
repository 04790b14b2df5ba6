-- `lex::gaps::line_end` meets its contract. The loop's invariant: the end is the same from here as from the start.
use mathlib.Core.Path.{◌≡◌}
use Prim.Native.Nat.{◌+◌}
use lib.ListN.{drop}
use Rattle.lexemes.specs.Words.{run}
use Rattle.lex.proofs.Comments.{in_line}
use Rattle.lex.proofs.gaps.line_end.Given as goal

abbrev pub invariant-loop-i : goal.invariant-loop-i
invariant-loop-i l = l.at + run in_line (drop l.at l.src) ≡ l.i + run in_line (drop l.i l.src)
