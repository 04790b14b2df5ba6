-- `walk::forms::form` meets its contract.
-- Assumes nothing.
use mathlib.Core.Path.{refl}
use mathlib.Core.List.{[], ◌∷◌}
use native.Mathlib.Omega.{arith}
use Rattle.std.proofs.lemmas.Result.{err_from_is_err_and}
use Rattle.ll1.specs.Trees.{depth}
use Rattle.grammar.specs.Notation.{r}
use Rattle.grammar.specs.Rules.{<item_or_rule>*}
use Rattle.elements.specs.Symbols.{FORM_CLOSE}
use Rattle.walk.proofs.Rooms.{room_after}
use Rattle.walk.proofs.Walks.{walked_off, halts}
use Rattle.walk.proofs.StatementSteps.{closes_off, form_walked}
use Rattle.walk.proofs.forms.form.Goals as goal

pub returns-in_err-open : goal.returns-in_err-open
returns-in_err-open c =
    let p = err_from_is_err_and c.from_residual.result c.from_residual.ensures.1 in
    let h = halts c.in_err-open.field-0.0 in
    rw (p.1, p.2) (form_walked refl c.in_err-open.ensures (walked_off (r <item_or_rule>* ∷ []) _ h) (closes_off FORM_CLOSE h))

pub items-requires : goal.items-requires
items-requires c = (room_after c.requires (c.in_ok-open.ensures.walked (depth 0 0) refl), omega arith)

pub returns-in_err-all : goal.returns-in_err-all
returns-in_err-all c =
    let p = err_from_is_err_and c.from_residual-in_err-all.result c.from_residual-in_err-all.ensures.1 in
    rw (p.1, p.2) (form_walked refl c.in_ok-open.ensures c.in_err-all.ensures (closes_off FORM_CLOSE (halts c.in_err-all.field-0.0)))

pub close-requires : goal.close-requires
close-requires c = (room_after (room_after c.requires (c.in_ok-open.ensures.walked (depth 0 0) refl)) c.in_ok-all.ensures).within

pub returns : goal.returns
returns c = form_walked refl c.in_ok-open.ensures c.in_ok-all.ensures c.close.ensures
