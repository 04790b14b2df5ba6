-- `print::shown::display_word` meets its contract.
-- Assumes nothing.
use Rattle.print.proofs.FlagLaws.{other_display}
use Rattle.print.proofs.shown.display_word.Goals as goal

pub returns-in-0 : goal.returns-in-0
returns-in-0 c = rw c.in-0.is

pub returns-in-2 : goal.returns-in-2
returns-in-2 c = rw c.in-2.is

pub returns-in_default : goal.returns-in_default
returns-in_default c = other_display _ c.in_default.in_default-own.rest
