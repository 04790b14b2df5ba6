-- `walk::expressions::atom` and `level` meet their contracts. Both end since fewer tokens are left at each call, but where a level starts with its atom.
-- The loop's invariant: whoever ends the operators from here ends them from their start.
-- Assumes nothing.
use mathlib.Core.Path.{refl, sym, ◌∙◌}
use native.Mathlib.Omega.{arith}
use Rattle.std.proofs.lemmas.Result.{err_from_is_err_and}
use Rattle.elements.specs.Symbols.{GROUP_CLOSE}
use Rattle.walk.specs.Standing.{going}
use Rattle.walk.specs.Walked.{Room}
use Rattle.walk.proofs.Rooms.{room_passed, ahead_passed}
use Rattle.walk.proofs.Walks.{halts}
use Rattle.walk.proofs.StatementSteps.{closes_off}
use Rattle.walk.proofs.ExpressionSteps.{groups_off, groups_halt, atom_deep, atom_not, atom_group, atom_leaf, room_groups, room_operator, groups_fewer, operator_known, level_climbs, tail_end, tails_none, turn_less, turn_again, with_off}
use Rattle.walk.proofs.expressions.+atom_level.Goals as goal

pub atom-returns-in-29 : goal.atom-returns-in-29
atom-returns-in-29 t c = rw c.too_deep.ensures (groups_halt (atom_deep c.if-left-eq0.true refl c.in-29.is))

pub atom-atom-requires : goal.atom-atom-requires
atom-atom-requires t c =
    let pre = c.requires in
    let s = going c.args.s.now in
    let known = c.in-29-2.is in
    (omega (arith, ahead_passed c.args.src.now s refl (omega (arith, known)) c.pass.ensures), (rw c.pass.ensures (room_passed pre.0 refl (omega (arith, known))), omega (arith, pre.1)))

pub atom-returns-in_err-atom-in-29-2 : goal.atom-returns-in_err-atom-in-29-2
atom-returns-in_err-atom-in-29-2 t c =
    let p = err_from_is_err_and c.from_residual.result c.from_residual.ensures.1 in
    rw (p.1, p.2) (atom_not c.if-left-eq0.false c.requires.1 refl c.in-29-2.is c.pass.ensures c.in_err-atom-in-29-2.ensures (with_off (halts c.in_err-atom-in-29-2.field-0.0)))

pub atom-put_word_row-requires : goal.atom-put_word_row-requires
atom-put_word_row-requires t c =
    let room : Room c.args.src.now (going c.pass.new.s) = rw c.pass.ensures (room_passed c.requires.0 refl (omega (arith, c.in-29-2.is))) in
    omega (arith, (room_groups room c.in_ok-atom-in-29-2.ensures).rows refl, c.well_formed)

pub atom-returns-in_ok-atom-in-29-2 : goal.atom-returns-in_ok-atom-in-29-2
atom-returns-in_ok-atom-in-29-2 t c =
    atom_not c.if-left-eq0.false c.requires.1 refl c.in-29-2.is c.pass.ensures c.in_ok-atom-in-29-2.ensures c.put_word_row.ensures

pub atom-level-requires : goal.atom-level-requires
atom-level-requires t c =
    let pre = c.requires in
    let s = going c.args.s.now in
    let known = c.in-2.is in
    let past = c.pass-in-2.ensures in
    (omega (arith, ahead_passed c.args.src.now s refl (omega (arith, known)) past), (rw past (room_passed pre.0 refl (omega (arith, known))), omega (arith, pre.1), omega arith))

pub atom-returns-in_err-level-in-2 : goal.atom-returns-in_err-level-in-2
atom-returns-in_err-level-in-2 t c =
    let p = err_from_is_err_and c.from_residual-in_err-level-in-2.result c.from_residual-in_err-level-in-2.ensures.1 in
    rw (p.1, p.2) (atom_group c.if-left-eq0.false c.requires.1 refl c.in-2.is c.pass-in-2.ensures c.in_err-level-in-2.ensures (closes_off GROUP_CLOSE (halts c.in_err-level-in-2.field-0.0)))

pub atom-close-requires : goal.atom-close-requires
atom-close-requires t c =
    let room : Room c.args.src.now (going c.pass-in-2.new.s) = rw c.pass-in-2.ensures (room_passed c.requires.0 refl (omega (arith, c.in-2.is))) in
    (room_groups room c.in_ok-level-in-2.ensures).within

pub atom-returns-in_err-s-in-2 : goal.atom-returns-in_err-s-in-2
atom-returns-in_err-s-in-2 t c =
    let p = err_from_is_err_and c.from_residual-in_err-s-in-2.result c.from_residual-in_err-s-in-2.ensures.1 in
    rw (p.1, p.2) (atom_group c.if-left-eq0.false c.requires.1 refl c.in-2.is c.pass-in-2.ensures c.in_ok-level-in-2.ensures c.in_err-s-in-2.ensures)

pub atom-returns-in_ok-s-in-2 : goal.atom-returns-in_ok-s-in-2
atom-returns-in_ok-s-in-2 t c =
    atom_group c.if-left-eq0.false c.requires.1 refl c.in-2.is c.pass-in-2.ensures c.in_ok-level-in-2.ensures c.in_ok-s-in-2.ensures

pub atom-returns-in_err-s-in_default : goal.atom-returns-in_err-s-in_default
atom-returns-in_err-s-in_default t c =
    let p = err_from_is_err_and c.from_residual-in_err-s-in_default.result c.from_residual-in_err-s-in_default.ensures.1 in
    rw (p.1, p.2) (atom_leaf c.requires.1 c.in_err-s-in_default.ensures)

pub atom-returns-in_ok-s-in_default : goal.atom-returns-in_ok-s-in_default
atom-returns-in_ok-s-in_default t c = atom_leaf c.requires.1 c.in_ok-s-in_default.ensures

pub level-atom-requires : goal.level-atom-requires
level-atom-requires t c = (omega arith, (c.requires.0, c.requires.1))

pub level-returns-in_err-atom : goal.level-returns-in_err-atom
level-returns-in_err-atom t c =
    let p = err_from_is_err_and c.from_residual.result c.from_residual.ensures.1 in
    rw (p.1, p.2) (level_climbs _ c.requires.2 c.in_err-atom.ensures (tails_none _ _ (λ n a b. groups_off _ _ (halts c.in_err-atom.field-0.0))))

pub level-loop-operator-init : goal.level-loop-operator-init
level-loop-operator-init t c =
    record { len = refl; room = room_groups c.requires.0 c.in_ok-atom.ensures; fewer = omega arith; high = omega arith; rest = λ r t' h. h }

pub level-returns-then-own-at : goal.level-returns-then-own-at
level-returns-then-own-at t c =
    let i = c.loop-operator.invariant in
    level_climbs _ c.requires.2 c.in_ok-atom.ensures (i.rest _ _ (tails_none _ _ (λ n a b. tail_end (omega (arith, i.high)) (λ q. omega (arith, c.level_of-own.ensures, c.then-own-at.either)))))

pub level-level-requires : goal.level-level-requires
level-level-requires t c =
    let i = c.loop-operator.invariant in
    let s = going c.loop-operator.s in
    let own = c.level_of-own.ensures in
    let high = c.if-bound-own.false in
    (omega (arith, groups_fewer c.in_ok-atom.ensures, i.fewer, ahead_passed c.args.src.now s refl (operator_known _ _ (omega (arith, i.high, high)) (sym own)) c.pass.ensures), (room_operator i.room refl (omega (arith, i.high, high)) (sym own) c.pass.ensures, c.requires.1, omega (arith, i.high, high)))

pub level-returns-in_err-level : goal.level-returns-in_err-level
level-returns-in_err-level t c =
    let i = c.loop-operator.invariant in
    let p = err_from_is_err_and c.from_residual-in_err-level.result c.from_residual-in_err-level.ensures.1 in
    let again = turn_again (omega (arith, i.high, c.if-bound-own.false)) c.requires.1 refl (sym c.level_of-own.ensures) c.pass.ensures c.in_err-level.ensures (with_off (halts c.in_err-level.field-0.0)) i (omega (arith, c.if-own-at.false)) c.if-bound-own.false c.level.auto.table in
    rw (p.1, p.2) (level_climbs _ c.requires.2 c.in_ok-atom.ensures (again.rest _ _ (tails_none _ _ (λ n a b. groups_off _ _ (halts c.in_err-level.field-0.0)))))

pub level-put_word_row-requires : goal.level-put_word_row-requires
level-put_word_row-requires t c =
    let i = c.loop-operator.invariant in
    let room = room_operator i.room refl (omega (arith, i.high, c.if-bound-own.false)) (sym c.level_of-own.ensures) c.pass.ensures in
    omega (arith, (room_groups room c.in_ok-level.ensures).rows refl, c.well_formed)

pub level-loop-operator-smaller : goal.level-loop-operator-smaller
level-loop-operator-smaller t c =
    let i = c.loop-operator.invariant in
    turn_less (omega (arith, i.high, c.if-bound-own.false)) c.requires.1 refl (sym c.level_of-own.ensures) c.pass.ensures c.in_ok-level.ensures c.put_word_row.ensures

pub level-loop-operator-preserved : goal.level-loop-operator-preserved
level-loop-operator-preserved t c =
    let i = c.loop-operator.invariant in
    turn_again (omega (arith, i.high, c.if-bound-own.false)) c.requires.1 refl (sym c.level_of-own.ensures) c.pass.ensures c.in_ok-level.ensures c.put_word_row.ensures i (omega (arith, c.if-own-at.false)) c.if-bound-own.false (c.put_word_row.auto.table ∙ c.level.auto.table)
