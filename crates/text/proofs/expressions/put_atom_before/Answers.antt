-- `text::expressions::put_atom_before` meets its contract.
-- Assumes nothing.
use mathlib.Core.Path.{refl}
use Rattle.text.proofs.ExpressionLaws.{operand_before}
use Rattle.text.proofs.expressions.put_atom_before.Goals as goal

pub returns : goal.returns
returns c = operand_before c.put_atom.ensures refl c.saturating_sub-start.ensures c.put_atom-2.ensures
