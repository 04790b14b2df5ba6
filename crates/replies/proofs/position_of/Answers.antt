-- `replies::position_of` meets its contract.
-- Assumes nothing.
use mathlib.Core.Path.{sym, ◌∙◌}
use Rattle.replies.proofs.Laws.{position_placed, position_none}
use Rattle.replies.proofs.position_of.Goals as goal

pub returns-then-has_place : goal.returns-then-has_place
returns-then-has_place c = c.position_at.ensures ∙ sym (position_placed _ _ _ (sym c.has_place.ensures ∙ c.if-has_place.true))

pub returns : goal.returns
returns c = sym (position_none _ _ _ (sym c.has_place.ensures ∙ c.if-has_place.false))
