-- `text::expressions::put_expression` meets its contract.
-- Assumes nothing.
use native.Mathlib.Omega.{arith}
use Rattle.text.proofs.ExpressionLaws.{expression_printed}
use Rattle.text.proofs.expressions.put_expression.Goals as goal

pub returns : goal.returns
returns c = expression_printed c.expression_length.ensures (omega arith) c.put_before.ensures
