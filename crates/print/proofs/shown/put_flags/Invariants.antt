-- `print::shown::put_flags` meets its contract. The loop's invariant: the words that are set from the place of the next one on are left.
-- Assumes nothing.
use Rattle.grammar.specs.Flags.{flag_words}
use Rattle.answers.specs.Text.{text_of}
use Rattle.print.specs.Phrase.{set_words}
use Rattle.spellings.proofs.Printing.{Partly}
use Rattle.print.proofs.FlagLaws.{text_from}
use Rattle.print.proofs.shown.put_flags.Given as goal

abbrev pub invariant-loop-class : goal.invariant-loop-class
invariant-loop-class l = Partly l.initial.out (text_of (set_words l.set)) l.out (text_from l.set flag_words l.any l.class-index)
