-- `elements::flags::with_word` meets its contract.
use Rattle.elements.proofs.MarkLaws.{placed_marked}
use Rattle.elements.proofs.flags.with_word.Goals as goal

pub returns : goal.returns
returns c =
    rw (c.or.ensures, c.or-2.ensures, c.or-3.ensures, c.size.ensures, c.display.ensures, ← c.second_place.ensures)
    (rw (placed_marked c.second_place.result))
