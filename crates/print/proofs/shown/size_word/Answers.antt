-- `print::shown::size_word` meets its contract.
-- Assumes nothing.
use Rattle.print.proofs.FlagLaws.{other_size}
use Rattle.print.proofs.shown.size_word.Goals as goal

pub returns-in-1 : goal.returns-in-1
returns-in-1 c = rw c.in-1.is

pub returns-in-2 : goal.returns-in-2
returns-in-2 c = rw c.in-2.is

pub returns-in-4 : goal.returns-in-4
returns-in-4 c = rw c.in-4.is

pub returns-in_default : goal.returns-in_default
returns-in_default c = other_size _ c.in_default.in_default-own.rest
