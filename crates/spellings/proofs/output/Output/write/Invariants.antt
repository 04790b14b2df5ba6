-- `spellings::output::Output::write` meets its contract. The loop's invariant: what it has passed is the text's.
-- Assumes nothing.
use mathlib.Core.Path.{◌≡◌}
use lib.ListN.{take}
use Rattle.spellings.proofs.output.Output.write.Given as goal

abbrev pub invariant-loop-k : goal.invariant-loop-k
invariant-loop-k l = take l.k l.space ≡ take l.k l.text
