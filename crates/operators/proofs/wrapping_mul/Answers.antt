-- `wrapping_mul` meets its contract.
use Rattle.std.proofs.Common.{refl}
use Rattle.operators.proofs.Arithmetic.{product_by_halves}
use Rattle.operators.proofs.wrapping_mul.Goals as goal

pub returns : goal.returns
returns c = product_by_halves c.args.a c.args.b _ _ refl refl
