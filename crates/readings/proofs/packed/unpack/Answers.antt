-- `packed::unpack` meets its contract: what is unpacked and what is left make up the whole.
-- Assumes nothing.
use Prim.Native.Nat.{◌+◌, ◌-◌}
use mathlib.Core.Path.{◌≡◌, refl, sym, ◌∙◌}
use native.Mathlib.Omega.{arith}
use lib.ListN.{length-set}
use Rattle.std.proofs.lemmas.List.{set-get_or}
use Rattle.readings.proofs.UnpackLaws.{left_nothing, left_full, left_short, left_next}
use borrow.Author.Rules.{rules}
use Rattle.readings.proofs.packed.unpack.Goals as goal

pub loop-cell-init : goal.loop-cell-init
loop-cell-init c = (search rules, search rules, refl, refl)

pub returns-then-packed-at : goal.returns-then-packed-at
returns-then-packed-at c =
    let p = c.args.packed.now in
    let l = c.loop-cell in
    set-get_or l.cells l.cell-index 0 ∙ sym (left_nothing p l.cells l.at l.cell-index (omega arith)) ∙ l.invariant.3

pub returns-then-packed-start : goal.returns-then-packed-start
returns-then-packed-start c =
    let p = c.args.packed.now in
    let l = c.loop-cell in
    let w = c.from-size in
    set-get_or l.cells l.cell-index 0 ∙ sym (left_short p l.cells l.at l.cell-index w.result (omega arith) (sym w.ensures) (omega arith)) ∙ l.invariant.3

pub loop-cell-preserved : goal.loop-cell-preserved
loop-cell-preserved c =
    let far = c in
    let p = far.args.packed.now in
    let l = c.loop-cell in
    let w = c.from-size in
    let same : l.at + 1 + w.result - (l.at + 1) ≡ w.result = omega arith in
    let is-value = rw same at c.value.ensures in
    let next = left_next p l.cells l.at l.cell-index w.result (omega arith) (sym w.ensures) c.value.result (omega arith) (omega arith) is-value in
    (omega arith, omega arith, simp length-set l.invariant.2, next ∙ l.invariant.3)

pub returns : goal.returns
returns c =
    let p = c.args.packed.now in
    let l = c.loop-cell in
    sym (left_full p l.cells l.at l.cell-index (omega arith)) ∙ l.invariant.3
