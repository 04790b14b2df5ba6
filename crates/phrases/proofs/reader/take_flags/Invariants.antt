-- `phrases::reader::take_flags` meets its contract. The loop's invariant: nothing is kept yet, the rest of the list is the rest of the whole,
-- and the token is a flag word within the source; the measure is the tokens left.
use mathlib.Core.Path.{◌≡◌}
use mathlib.Core.Bool.{true}
use lib.ListN.{length}
use Rattle.ll1.specs.ParseTable.{member}
use Rattle.elements.specs.Kinds.{starts_of}
use Rattle.phrases.specs.Stream.{stream, Within}
use Rattle.phrases.specs.Phrase.{stands}
use Rattle.phrases.proofs.FlagLoop.{Going}
use Rattle.phrases.proofs.reader.take_flags.Given as goal

abbrev pub invariant-loop-bar : goal.invariant-loop-bar
invariant-loop-bar l =
    (l.found ≡ l.initial.found) × Going l.src (stands l.fn.token l.initial.found) l.want l.word l.words × (member l.word.class (starts_of l.want) ≡ true) × Within l.src l.word

abbrev pub decreases-loop-bar : goal.decreases-loop-bar
decreases-loop-bar l = length (stream l.src l.word)
