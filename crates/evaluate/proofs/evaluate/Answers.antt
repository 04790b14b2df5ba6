-- `evaluate::evaluate` meets its contract: whoever ends the rest of the rows from here ends all of them.
use mathlib.Core.Path.{ap, ◌∙◌}
use native.Mathlib.Omega.{arith}
use lib.ListN.{length}
use Rattle.stored.specs.Stored.{value_at}
use Rattle.saved_answers.specs.Search.{question_value}
use Rattle.evaluate.specs.Machine.{ROOM}
use Rattle.evaluate.proofs.StepLaws.{stepped_few, code_row, code_ends}
use Rattle.evaluate.proofs.evaluate.Invariants.{rest}
use Rattle.evaluate.proofs.evaluate.Goals as goal

pub loop-row-init : goal.loop-row-init
loop-row-init c =
    let a = c.args in
    record {
      few = omega (arith, ap length c.new-stack.ensures);
      same = ap (rest a.known a.table.now a.first a.end) c.new-stack.ensures;
    }

pub step-requires : goal.step-requires
step-requires c = omega (arith, c.loop-row.invariant.few)

pub loop-row-preserved : goal.loop-row-preserved
loop-row-preserved c =
    let a = c.args in
    let k = a.known.answers in
    let l = c.loop-row in
    let stepped = c.step.ensures in
    record {
      few = omega (arith, l.invariant.few, ap length stepped, stepped_few ROOM c.cell-code.result c.operand_value-v.result l.stack);
      same =
          code_row (question_value k.saved.now k.gotos.now k.checkboxes.now) (value_at a.known.rules.now) ROOM a.table.now l.row a.end _ _ _ _ _ _
          (omega arith) c.cell-code.ensures c.cell.ensures c.operand_value-v.ensures stepped l.invariant.same;
    }

pub returns : goal.returns
returns c =
    let a = c.args in
    let k = a.known.answers in
    c.pop.ensures.value
    ∙ code_ends (question_value k.saved.now k.gotos.now k.checkboxes.now) (value_at a.known.rules.now) ROOM a.table.now a.first c.loop-row.row a.end _
    (omega arith) c.loop-row.invariant.same
