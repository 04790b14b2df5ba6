-- `line::put_refusal` meets its contract: in 64 bytes there is room for each part.
-- Assumes nothing.
use Rattle.std.proofs.Common.{rules}
use Rattle.texts.proofs.LineLaws.{line_put}
use Rattle.texts.proofs.line.put_refusal.Goals as goal

pub returns-clause-line : goal.returns-clause-line
returns-clause-line c room =
    line_put room (search rules) (search rules) (search rules) (search rules)
    (rw c.in_ok-word.was at c.put.ensures) (rw c.in_ok-number_end.was at c.put_decimal.ensures)
    (rw c.in_ok-preposition.was at c.put-2.ensures) (rw c.in_ok-place_end.was at c.put_decimal-2.ensures) c.put-3.ensures
