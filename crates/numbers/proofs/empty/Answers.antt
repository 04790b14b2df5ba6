-- `empty` meets its contract.
use borrow.Author.Rules.{rules}
use Rattle.numbers.specs.Numbers.{empty_map}
use Rattle.numbers.proofs.empty.Goals as goal

pub returns : goal.returns
unfolding empty_map
returns c = search rules
