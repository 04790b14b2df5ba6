-- `walk::form_set` meets its contract: opening, forms and end are a tree of the whole source.
-- Assumes nothing.
use mathlib.Core.Path.{refl}
use mathlib.Core.List.{[], ◌∷◌}
use Rattle.std.proofs.lemmas.Result.{err_from_is_err_and}
use Rattle.grammar.specs.Notation.{r}
use Rattle.grammar.specs.Rules.{<form>, <form>*}
use Rattle.elements.specs.Symbols.{FORM_SET_CLOSE}
use Rattle.walk.proofs.Rooms.{room_after}
use Rattle.walk.proofs.Walks.{walked_off, halts}
use Rattle.walk.proofs.StatementSteps.{closes_off}
use Rattle.walk.proofs.TopSteps.{start_room, walks_source}
use Rattle.walk.proofs.form_set.Goals as goal

pub returns-in_err-open : goal.returns-in_err-open
returns-in_err-open c =
    let p = err_from_is_err_and c.from_residual.result c.from_residual.ensures.1 in
    let h = halts c.in_err-open.field-0.0 in
    rw (p.1, p.2) (walks_source c.in_err-open.ensures (walked_off (r <form> ∷ r <form>* ∷ []) _ h) (closes_off FORM_SET_CLOSE h))

pub form_list-requires : goal.form_list-requires
form_list-requires c = room_after (start_room _ _ refl) c.in_ok-open.ensures.walked

pub returns-in_err-all : goal.returns-in_err-all
returns-in_err-all c =
    let p = err_from_is_err_and c.from_residual-in_err-all.result c.from_residual-in_err-all.ensures.1 in
    rw (p.1, p.2) (walks_source c.in_ok-open.ensures c.in_err-all.ensures (closes_off FORM_SET_CLOSE (halts c.in_err-all.field-0.0)))

pub close-requires : goal.close-requires
close-requires c = (room_after (room_after (start_room _ _ refl) c.in_ok-open.ensures.walked) c.in_ok-all.ensures).within

pub returns : goal.returns
returns c = walks_source c.in_ok-open.ensures c.in_ok-all.ensures c.close.ensures
