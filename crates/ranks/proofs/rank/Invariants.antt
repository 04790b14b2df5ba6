-- `ranks::rank` meets its contract: after j turns the sum is the ones of the row's first j words.
use Rattle.ranks.proofs.Ranks.{Ranking}
use Rattle.ranks.proofs.rank.Given as goal

abbrev pub invariant-loop-word : goal.invariant-loop-word
invariant-loop-word l = Ranking l.map l.a l.sum l.word-index
