-- `elements::flags::second_place` meets its contract.
use Rattle.elements.proofs.flags.second_place.Goals as goal

pub returns-then-repeats : goal.returns-then-repeats
returns-then-repeats c = rw (← c.repeats.ensures, c.if-repeats.true)

pub returns-else-repeats : goal.returns-else-repeats
returns-else-repeats c = rw (← c.repeats.ensures, c.if-repeats.false)
