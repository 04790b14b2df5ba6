-- `print::phrase::put_phrase` meets its contract. The loop's invariant: the words of the elements from the next one on are left.
-- Assumes nothing.
use Prim.Native.Nat.{◌-◌}
use lib.ListN.{length}
use Rattle.rows.specs.Table.{row_at}
use Rattle.answers.specs.Text.{text_of}
use Rattle.print.specs.Phrase.{phrase_words}
use Rattle.print.specs.Steps.{left_of}
use Rattle.spellings.proofs.Printing.{Partly}
use Rattle.print.proofs.phrase.put_phrase.Given as goal

abbrev pub invariant-loop-p : goal.invariant-loop-p
invariant-loop-p l = Partly l.initial.out (text_of (phrase_words l.pattern l.sources (row_at l.table l.row))) l.out (text_of (left_of l.sources (row_at l.table l.row) l.pattern l.p))

abbrev pub decreases-loop-p : goal.decreases-loop-p
decreases-loop-p l = length l.pattern - l.p.next
