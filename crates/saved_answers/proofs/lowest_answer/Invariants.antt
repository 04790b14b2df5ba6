-- `saved_answers::lowest_answer` meets its contract: the search goes on between low and high as it began.
use Prim.Native.Nat.{◌-◌, ◌≤◌}
use mathlib.Core.Path.{◌≡◌}
use Rattle.saved_answers.specs.Answers.{count}
use Rattle.saved_answers.specs.Search.{lowest}
use Rattle.saved_answers.proofs.SearchLaws.{from}
use Rattle.saved_answers.proofs.lowest_answer.Given as goal

abbrev pub invariant-loop-low : goal.invariant-loop-low
invariant-loop-low l = (l.low ≤ l.high) × (l.high ≤ count l.saved) × (from l.saved l.n l.low l.high ≡ lowest l.saved l.n)

abbrev pub decreases-loop-low : goal.decreases-loop-low
decreases-loop-low l = l.high - l.low
