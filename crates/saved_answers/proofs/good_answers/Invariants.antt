-- `saved_answers::good_answers` meets its contract: the answers before the loop's are good.
use Rattle.numbers.specs.Numbers.{used}
use Rattle.saved_answers.proofs.GoodLaws.{Checking}
use Rattle.saved_answers.proofs.good_answers.Given as goal

abbrev pub invariant-loop-k : goal.invariant-loop-k
invariant-loop-k l = Checking (used l.questions) l.answers-2 l.last l.k
