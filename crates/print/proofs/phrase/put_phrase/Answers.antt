-- `print::phrase::put_phrase` meets its contract. The loop's invariant: the words of the elements from the next one on are left.
-- Assumes nothing.
use native.Mathlib.Omega.{arith}
use Rattle.rows.specs.Table.{row_at}
use Rattle.print.specs.Phrase.{phrase_words}
use Rattle.print.specs.Steps.{left_of}
use Rattle.spellings.proofs.Printing.{partly_none, partly_more, partly_all, words_written, printed_bytes}
use Rattle.print.proofs.PhraseLaws.{phrase_next, phrase_end}
use Rattle.print.proofs.phrase.put_phrase.Goals as goal

pub loop-p-init : goal.loop-p-init
unfolding phrase_words left_of
loop-p-init c = partly_none _

pub loop-p-smaller : goal.loop-p-smaller
loop-p-smaller c = omega (arith, c.step-p.ensures.further, c.loop-p-test.true)

pub loop-p-preserved : goal.loop-p-preserved
loop-p-preserved c = partly_more c.loop-p.invariant (phrase_next _ _ _ c.step-p.ensures) (printed_bytes c.step-p.ensures.prints)

pub returns : goal.returns
returns c = words_written (partly_all c.loop-p.invariant (phrase_end c.args.sources.now (row_at c.args.table.now c.args.row) c.args.pattern.now c.loop-p.p c.loop-p-test.false))
