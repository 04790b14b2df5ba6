-- `names::hash` meets its contract: the hash so far and the rest of the word come to the word's hash.
use Rattle.names.proofs.NameLaws.{Hashing}
use Rattle.names.proofs.hash.Given as goal

abbrev pub invariant-loop-i : goal.invariant-loop-i
invariant-loop-i l = Hashing l.src l.at l.h l.i
