-- `mark` meets its contract.
use Rattle.std.proofs.Common.{arith}
use Rattle.numbers.proofs.Maps.{mark_zero, mark_high, mark_stored}
use Rattle.numbers.proofs.mark.Goals as goal
use Rattle.numbers.proofs.mark.Goals.{else-n-gt0-via-then-n-gt0+else-n-lt-LIMIT, else-n-gt0-via-else-n-gt0}

pub returns-then-n-lt-LIMIT : goal.returns-then-n-lt-LIMIT
returns-then-n-lt-LIMIT c = mark_stored c.args.map.now (λ e. omega arith) c.if-n-lt-LIMIT.true

pub returns-else-n-gt0 : goal.returns-else-n-gt0
returns-else-n-gt0 c =
    elim c.else-n-gt0.branch [
      | else-n-gt0-via-then-n-gt0+else-n-lt-LIMIT w ↦ mark_high c.args.map.now w.if-n-lt-LIMIT.false
      | else-n-gt0-via-else-n-gt0 w ↦ mark_zero c.args.map.now (omega arith)
    ]
