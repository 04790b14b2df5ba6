-- `text::print_rows` meets its contract.
-- Assumes nothing.
use mathlib.Core.Path.{refl}
use Rattle.text.proofs.AnswerLaws.{too_long, long_enough}
use borrow.Author.Rules.{rules}
use Rattle.text.proofs.print_rows.Goals as goal

pub returns-then-room-bytes : goal.returns-then-room-bytes
returns-then-room-bytes c =
    too_long refl c.put_text.ensures _ (search rules) (rw c.room.ensures at c.if-room-bytes.true) c.clear.ensures c.clear-then-room-bytes.ensures

pub returns : goal.returns
returns c = long_enough refl c.put_text.ensures _ (search rules) (rw c.room.ensures at c.if-room-bytes.false) refl c.clear-2.ensures (search rules)
