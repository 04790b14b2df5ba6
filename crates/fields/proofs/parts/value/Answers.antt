-- `fields::parts::value` meets its contract.
-- Assumes nothing.
use mathlib.Core.Path.{sym, ◌∙◌}
use Rattle.fields.proofs.EntryLaws.{value_none, value_there}
use Rattle.fields.proofs.parts.value.Goals as goal

pub returns-in_default : goal.returns-in_default
returns-in_default c = sym (value_none _ (sym c.in_default.ensures))

pub returns : goal.returns
returns c = c.unwrap_or.ensures ∙ value_there _ _ _ c.in-Some.ensures c.value_at.ensures
