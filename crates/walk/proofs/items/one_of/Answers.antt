-- `walk::items::one_of` meets its contract.
-- Assumes nothing.
use mathlib.Core.Path.{refl}
use Rattle.std.proofs.lemmas.Result.{err_from_is_err_and}
use Rattle.ll1.specs.Trees.{depth}
use Rattle.elements.specs.Symbols.{ONE_OF_CLOSE}
use Rattle.walk.proofs.Rooms.{room_after}
use Rattle.walk.proofs.Walks.{reads_off, halts}
use Rattle.walk.proofs.StatementSteps.{closes_off, one_of_reads}
use Rattle.walk.proofs.items.one_of.Goals as goal

pub returns-in_err-open : goal.returns-in_err-open
returns-in_err-open c =
    let p = err_from_is_err_and c.from_residual.result c.from_residual.ensures.1 in
    let h = halts c.in_err-open.field-0.0 in
    rw (p.1, p.2) (one_of_reads c.requires.1 c.in_err-open.ensures (reads_off _ _ h) (closes_off ONE_OF_CLOSE h))

pub option_list-requires : goal.option_list-requires
option_list-requires c = room_after c.requires.0 (c.in_ok-open.ensures.walked (depth 0 0) refl)

pub returns-in_err-all : goal.returns-in_err-all
returns-in_err-all c =
    let p = err_from_is_err_and c.from_residual-in_err-all.result c.from_residual-in_err-all.ensures.1 in
    rw (p.1, p.2) (one_of_reads c.requires.1 c.in_ok-open.ensures c.in_err-all.ensures (closes_off ONE_OF_CLOSE (halts c.in_err-all.field-0.0)))

pub close-requires : goal.close-requires
close-requires c = (room_after (room_after c.requires.0 (c.in_ok-open.ensures.walked (depth 0 0) refl)) (c.in_ok-all.ensures.walked (depth 0 0) refl)).within

pub returns : goal.returns
returns c = one_of_reads c.requires.1 c.in_ok-open.ensures c.in_ok-all.ensures c.close.ensures
