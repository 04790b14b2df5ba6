-- `sizes::minus` meets its contract.
use Rattle.sizes.proofs.Signed.{width_some, top_bit}
use Rattle.sizes.proofs.minus.Goals as goal

pub returns : goal.returns
returns c =
    let args = c.args in
    rw c.half.ensures.value (top_bit _ (width_some args.size) args.x)
