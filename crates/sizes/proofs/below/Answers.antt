-- `sizes::below` meets its contract.
use mathlib.Core.Path.{sym}
use Rattle.sizes.specs.Sizes.{width, below}
use Rattle.sizes.proofs.Signed.{width_some, below_biased}
use Rattle.sizes.proofs.below.Goals as goal

pub returns-then-signed : goal.returns-then-signed
returns-then-signed c =
    let args = c.args in
    rw (c.if-signed.true, c.bias.ensures, c.bias-then-signed.ensures)
    (sym (below_biased (width args.size) (width_some args.size) args.x args.y))

pub returns-else-signed : goal.returns-else-signed
unfolding below
returns-else-signed c = rw c.if-signed.false
