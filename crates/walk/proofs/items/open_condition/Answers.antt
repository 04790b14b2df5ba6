-- `walk::items::open_condition` meets its contract.
-- Assumes nothing.
use mathlib.Core.Path.{refl}
use Rattle.std.proofs.lemmas.Result.{err_from_is_err_and}
use Rattle.ll1.specs.Trees.{depth}
use Rattle.elements.specs.Symbols.{EXPRESSION_CLOSE}
use Rattle.walk.proofs.Rooms.{room_after}
use Rattle.walk.proofs.Walks.{halts}
use Rattle.walk.proofs.StatementSteps.{closes_off}
use Rattle.walk.proofs.ExpressionSteps.{room_groups}
use Rattle.walk.proofs.ItemSteps.{condition_opens}
use Rattle.walk.proofs.items.open_condition.Goals as goal

pub expression-requires : goal.expression-requires
expression-requires c = room_after c.requires.0 (c.word-open.ensures.walked (depth 0 0) refl)

pub returns-in_err-whole : goal.returns-in_err-whole
returns-in_err-whole c =
    let p = err_from_is_err_and c.from_residual.result c.from_residual.ensures.1 in
    rw (p.1, p.2) (condition_opens c.requires.1 c.word-open.ensures c.in_err-whole.ensures (closes_off EXPRESSION_CLOSE (halts c.in_err-whole.field-0.0)))

pub close-requires : goal.close-requires
close-requires c = (room_groups (room_after c.requires.0 (c.word-open.ensures.walked (depth 0 0) refl)) c.in_ok-whole.ensures).within

pub returns : goal.returns
returns c = condition_opens c.requires.1 c.word-open.ensures c.in_ok-whole.ensures c.close.ensures
