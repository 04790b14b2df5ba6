-- `phrases::reader::read_phrase` meets its contract. The loop's invariant: what is left of the pattern is to be read from where the reader
-- stands, and the kept slice is the one that was lent; the measure is what is left.
use lib.ListN.{length}
use Rattle.phrases.specs.Phrase.{IsSameSlice, stands}
use Rattle.phrases.proofs.PhraseLoop.{Turns}
use Rattle.phrases.proofs.reader.read_phrase.Given as goal

abbrev pub invariant-loop-want : goal.invariant-loop-want
invariant-loop-want l = Turns l.src l.pattern (stands l.initial.token l.initial.found) l.left (stands l.token l.found) × IsSameSlice l.initial.found l.found

abbrev pub decreases-loop-want : goal.decreases-loop-want
decreases-loop-want l = length l.left
