-- `elements::noted::with_outside` meets its contract.
use Rattle.elements.proofs.MarkLaws.{placed_marked}
use Rattle.elements.proofs.noted.with_outside.Goals as goal

pub returns : goal.returns
returns c = rw (c.or.ensures, placed_marked c.args.place)
