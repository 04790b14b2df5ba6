-- `print::shown::shows` meets its contract.
-- Assumes nothing.
use Rattle.print.proofs.PhraseLaws.{other_shown}
use Rattle.print.specs.Phrase.{has_flags, has_default}
use Rattle.print.proofs.shown.shows.Goals as goal

pub returns-in-64 : goal.returns-in-64
returns-in-64 c = rw c.in-64.is

pub returns-in-69 : goal.returns-in-69
returns-in-69 c = rw c.in-69.is

pub returns-in-73 : goal.returns-in-73
returns-in-73 c = rw c.in-73.is

pub returns-in-44 : goal.returns-in-44
returns-in-44 c = rw c.in-44.is c.is_set.ensures

pub returns-in_default : goal.returns-in_default
returns-in_default c =
    let set = c.args.set in
    rw c.any_flag.ensures (other_shown (has_flags c.args.code set) (has_default set) _ c.in_default.in_default-own.rest)
