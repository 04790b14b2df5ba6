-- `walk::items::rule` meets its contract.
-- Assumes nothing.
use mathlib.Core.Path.{refl}
use mathlib.Core.List.{[], ◌∷◌}
use native.Mathlib.Omega.{arith}
use Rattle.std.proofs.lemmas.Result.{err_from_is_err_and}
use Rattle.ll1.specs.Trees.{depth}
use Rattle.grammar.specs.Notation.{r}
use Rattle.grammar.specs.Rules.{<or>}
use Rattle.elements.specs.Symbols.{RULE_CLOSE}
use Rattle.walk.proofs.Rooms.{room_after}
use Rattle.walk.proofs.Walks.{walked_off, halts}
use Rattle.walk.proofs.StatementSteps.{closes_off}
use Rattle.walk.proofs.ExpressionSteps.{room_groups}
use Rattle.walk.proofs.ItemSteps.{rule_walked}
use Rattle.walk.proofs.items.rule.Goals as goal

pub returns-in_err-open : goal.returns-in_err-open
returns-in_err-open c =
    let p = err_from_is_err_and c.from_residual.result c.from_residual.ensures.1 in
    let h = halts c.in_err-open.field-0.0 in
    rw (p.1, p.2) (rule_walked refl c.requires.1 c.in_err-open.ensures (walked_off (r <or> ∷ []) _ h) (closes_off RULE_CLOSE h))

pub expression-requires : goal.expression-requires
expression-requires c = room_after c.requires.0 (c.in_ok-open.ensures.walked (depth 0 0) refl)

pub returns-in_err-whole : goal.returns-in_err-whole
returns-in_err-whole c =
    let p = err_from_is_err_and c.from_residual-in_err-whole.result c.from_residual-in_err-whole.ensures.1 in
    rw (p.1, p.2) (rule_walked refl c.requires.1 c.in_ok-open.ensures (c.in_err-whole.ensures.walked 0 (omega arith)) (closes_off RULE_CLOSE (halts c.in_err-whole.field-0.0)))

pub close-requires : goal.close-requires
close-requires c = (room_groups (room_after c.requires.0 (c.in_ok-open.ensures.walked (depth 0 0) refl)) c.in_ok-whole.ensures).within

pub returns : goal.returns
returns c = rule_walked refl c.requires.1 c.in_ok-open.ensures (c.in_ok-whole.ensures.walked 0 (omega arith)) c.close.ensures
