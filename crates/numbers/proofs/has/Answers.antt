-- `has` meets its contract: past the last word nothing is used.
use Rattle.std.proofs.Common.{arith, rules, sym, ◌∙◌}
use borrow.Author.Tests.{le-ltb}
use Rattle.numbers.specs.Numbers.{used}
use Rattle.numbers.proofs.Maps.{used_past}
use Rattle.numbers.proofs.has.Goals as goal

pub returns-then-n-lt-LIMIT : goal.returns-then-n-lt-LIMIT
unfolding used
returns-then-n-lt-LIMIT c = search rules

pub returns-else-n-lt-LIMIT : goal.returns-else-n-lt-LIMIT
returns-else-n-lt-LIMIT c =
    le-ltb c.args.n 65536 c.if-n-lt-LIMIT.false ∙ sym (used_past c.args.map.now c.args.n (omega arith))
