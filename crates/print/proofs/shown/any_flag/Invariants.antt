-- `print::shown::any_flag` meets its contract. The loop's invariant: whether a word is set that is left.
-- Assumes nothing.
use mathlib.Core.Path.{◌≡◌}
use lib.ListN.{drop}
use Rattle.grammar.specs.Flags.{flag_words}
use Rattle.print.specs.Phrase.{any_flag}
use Rattle.print.proofs.FlagLaws.{any_set}
use Rattle.print.proofs.shown.any_flag.Given as goal

abbrev pub invariant-loop-flag : goal.invariant-loop-flag
invariant-loop-flag l = any_flag l.set ≡ any_set l.set (drop l.flag-index flag_words)
