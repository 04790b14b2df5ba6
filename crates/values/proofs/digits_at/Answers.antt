-- `values::digits_at` meets its contract.
use native.Mathlib.Omega.{arith}
use lib.ListN.{drop}
use Rattle.values.specs.Numbers.{digits_at}
use Rattle.lexemes.proofs.WordParts.{word_length}
use Rattle.values.proofs.digits_at.Goals as goal

pub returns : goal.returns
unfolding digits_at
returns c =
    let args = c.args in
    omega (arith, word_length (drop args.at args.src.now))
