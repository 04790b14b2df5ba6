-- `print::shown::put_flags` meets its contract. The loop's invariant: the words that are set from the place of the next one on are left.
-- Assumes nothing.
use Rattle.grammar.specs.Flags.{flag_words}
use Rattle.print.specs.Phrase.{set_words}
use Rattle.spellings.proofs.Printing.{partly_none, partly_more, partly_all, words_written, printed_bytes}
use Rattle.print.proofs.FlagLaws.{flags_step, flags_end, table_word}
use Rattle.print.proofs.shown.put_flags.Goals as goal

pub loop-class-init : goal.loop-class-init
unfolding set_words
loop-class-init c = partly_none _

pub loop-class-preserved : goal.loop-class-preserved
loop-class-preserved c =
    let next =
    flags_step c.args.set flag_words c.loop-class.any c.loop-class.class-index c.loop-class-test.true (table_word _ _ c.loop-class-test.true) c.is_set-there.ensures in
    partly_more c.loop-class.invariant next (printed_bytes c.put_flag.ensures)

pub returns : goal.returns
returns c = words_written (partly_all c.loop-class.invariant (flags_end _ flag_words c.loop-class.any c.loop-class.class-index c.loop-class-test.false))
