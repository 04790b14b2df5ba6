-- `elements::noted::with_second` meets its contract.
use Rattle.elements.proofs.MarkLaws.{placed_marked}
use Rattle.elements.proofs.noted.with_second.Goals as goal

pub returns : goal.returns
returns c = rw (c.or.ensures, placed_marked c.args.place)
