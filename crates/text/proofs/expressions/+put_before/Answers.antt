-- `text::expressions::put_before` meets its contract. It ends since at each call of itself there are fewer rows before, or as many and the least
-- level is lower. The loop's invariant: whoever prints the rest from here prints the whole.
-- Assumes nothing.
use native.Mathlib.Omega.{arith}
use mathlib.Core.Path.{ap, ◌∙◌}
use Rattle.fields.specs.Operators.{level_of, code_class}
use Rattle.text.proofs.ExpressionLaws.{spine_none, spine_more, none_before, not_before, atom_before, group_before, operator_before}
use Rattle.text.proofs.expressions.+put_before.Goals as goal

pub loop-end-init : goal.loop-end-init
loop-end-init t c = spine_none c.requires

pub returns-then-end-eq0 : goal.returns-then-end-eq0
returns-then-end-eq0 t c = c.loop-end.invariant.rest (none_before _ c.if-end-eq0.true)

pub put_before-first-requires : goal.put_before-first-requires
put_before-first-requires t c = (omega (arith, c.loop-end.invariant.fall, c.if-end-eq0.false), omega arith)

pub returns-then-code-eq-NOT : goal.returns-then-code-eq-NOT
returns-then-code-eq-NOT t c =
    c.loop-end.invariant.rest (not_before c.args.table.now c.loop-end.end (omega (arith, c.if-end-eq0.false)) c.cell-code.ensures _ c.if-code-eq-NOT.true
    c.put_before-first.ensures c.word_before.ensures)

pub put_atom_before-requires : goal.put_atom_before-requires
put_atom_before-requires t c = c.class_of-class.ensures ∙ ap code_class c.cell-code.ensures

pub returns-then-level-ge-LEVELS : goal.returns-then-level-ge-LEVELS
returns-then-level-ge-LEVELS t c =
    let level_is = c.level_of-level.ensures ∙ ap level_of c.class_of-class.ensures in
    c.loop-end.invariant.rest (atom_before c.args.table.now c.loop-end.end (omega (arith, c.if-end-eq0.false)) c.cell-code.ensures _ c.if-code-eq-NOT.false
    (omega (arith, level_is, c.if-level-ge-LEVELS.true)) c.put_atom_before.ensures)

pub put_before-first-requires-then-level-least : goal.put_before-first-requires-then-level-least
put_before-first-requires-then-level-least t c = (omega (arith, c.loop-end.invariant.fall, c.if-level-least.true), omega arith)

pub returns-then-level-least : goal.returns-then-level-least
returns-then-level-least t c =
    let level_is = c.level_of-level.ensures ∙ ap level_of c.class_of-class.ensures in
    c.loop-end.invariant.rest (group_before c.args.table.now c.loop-end.end (omega (arith, c.if-end-eq0.false)) c.cell-code.ensures _ level_is
    (omega (arith, c.if-level-ge-LEVELS.false)) c.if-level-least.true c.word_before-then-level-least.ensures c.put_before-first-then-level-least.ensures
    c.word_before-then-level-least-2.ensures)

pub loop-end-preserved : goal.loop-end-preserved
loop-end-preserved t c =
    let level_is = c.level_of-level.ensures ∙ ap level_of c.class_of-class.ensures in
    spine_more c.loop-end.invariant (omega (arith, c.if-level-ge-LEVELS.false)) (omega (arith, c.put_before-end.ensures.fewer, c.if-end-eq0.false))
    (λ o r. operator_before c.args.table.now c.loop-end.end (omega (arith, c.if-end-eq0.false)) c.cell-code.ensures _ level_is
    (omega (arith, c.if-level-ge-LEVELS.false)) c.if-level-least.false c.put_before-end.ensures c.class_of-class.ensures c.word_before-in-loop-end.ensures)
