-- `print::shown::put_option_flags` meets its contract.
-- Assumes nothing.
use mathlib.Core.Path.{sym, ◌∙◌}
use Rattle.print.specs.Phrase.{option_flags}
use Rattle.print.proofs.shown.put_option_flags.Goals as goal

pub returns-then-is_set : goal.returns-then-is_set
unfolding option_flags
returns-then-is_set c = rw (sym c.is_set.ensures ∙ c.if-is_set.true) c.word.ensures

pub returns : goal.returns
unfolding option_flags
returns c = rw (sym c.is_set.ensures ∙ c.if-is_set.false) c.decimal.ensures
