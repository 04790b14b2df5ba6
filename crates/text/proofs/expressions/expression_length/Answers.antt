-- `text::expressions::expression_length` meets its contract.
-- Assumes nothing.
use mathlib.Core.Path.{refl}
use Rattle.text.proofs.ExpressionLaws.{counted}
use Rattle.text.proofs.expressions.expression_length.Goals as goal

pub returns : goal.returns
returns c = counted c.put_before.ensures refl c.saturating_sub.ensures
