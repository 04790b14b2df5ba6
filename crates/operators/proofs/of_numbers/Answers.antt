-- `of_numbers` meets its contract where the operator is not one of std's.
use Rattle.std.proofs.Common.{◌/◌, ◌%◌, ◌∙◌, ap, arith}
use Rattle.operators.specs.Values.{found, operations}
use Rattle.operators.specs.declared.Scalar.TheVariants.{Number}
use Rattle.operators.proofs.Arithmetic.{difference_is, divided_checked}
use Rattle.operators.proofs.Tables.{numbers_at}
use Rattle.operators.proofs.of_numbers.Goals as goal

pub returns-in-59 : goal.returns-in-59
unfolding found operations
returns-in-59 c =
    let s = c.args in
    ap Number (difference_is s.a s.b _ (omega arith) (omega arith) (omega arith)) ∙ numbers_at c.in-59.is s.a s.b

pub returns-in-61 : goal.returns-in-61
unfolding found operations
returns-in-61 c =
    let s = c.args in
    divided_checked ◌/◌ s.a s.b _ _ c.checked_div.ensures c.defined.ensures ∙ numbers_at c.in-61.is s.a s.b

pub returns-in-62 : goal.returns-in-62
unfolding found operations
returns-in-62 c =
    let s = c.args in
    divided_checked ◌%◌ s.a s.b _ _ c.checked_rem.ensures c.defined-in-62.ensures ∙ numbers_at c.in-62.is s.a s.b
