-- `fields::numerics::is_oversized` meets its contract.
-- Assumes nothing.
use borrow.Author.Rules.{rules}
use mathlib.Core.Path.{sym}
use Rattle.fields.proofs.SizeLaws.{none_oversized, there_oversized}
use Rattle.fields.proofs.numerics.is_oversized.Goals as goal

pub returns-in_default : goal.returns-in_default
returns-in_default c = none_oversized _ _ (sym c.in_default.ensures)

pub returns : goal.returns
returns c = rw (there_oversized _ _ _ c.value_at.result c.in-Some.ensures c.value_at.ensures) (search rules)
