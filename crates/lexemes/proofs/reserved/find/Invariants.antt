-- `lexemes::reserved::find` meets its contract. The loop's invariant: the search from `i` on ends as the search from the start does.
use mathlib.Core.Path.{◌≡◌}
use lib.ListN.{drop}
use Rattle.lexemes.specs.Lexemes.{reserved}
use Rattle.lexemes.specs.Search.{COUNT, scan}
use Rattle.lexemes.proofs.reserved.find.Given as goal

abbrev pub invariant-loop-i : goal.invariant-loop-i
invariant-loop-i l = scan COUNT l.i l.wanted.first l.wanted.rest (drop l.i reserved) ≡ scan COUNT l.from l.wanted.first l.wanted.rest (drop l.from reserved)
