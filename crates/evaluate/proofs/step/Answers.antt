-- `evaluate::step` meets its contract.
use Rattle.evaluate.proofs.StepLaws.{code_not, code_binary, code_operand}
use Rattle.evaluate.proofs.step.Goals as goal

pub returns-then-code-eq-NOT : goal.returns-then-code-eq-NOT
returns-then-code-eq-NOT c =
    let a = c.args in
    let pop = c.pop-operand.ensures in
    code_not a.stack.now a.code a.v _ _ _ _ c.if-code-eq-NOT.true pop.value pop.rest c.negate.ensures c.push.ensures

pub returns-then-is_binary : goal.returns-then-is_binary
returns-then-is_binary c =
    let a = c.args in
    let right = c.pop-right.ensures in
    let left = c.pop-left.ensures in
    code_binary a.stack.now a.code a.v _ _ _ _ _ _ _ c.if-code-eq-NOT.false c.if-is_binary.true c.is_binary.ensures
    right.value right.rest left.value left.rest c.combine.ensures c.push-then-is_binary.ensures

pub returns-else-is_binary : goal.returns-else-is_binary
returns-else-is_binary c =
    let a = c.args in
    code_operand a.stack.now a.code a.v _ _ c.if-code-eq-NOT.false c.if-is_binary.false c.is_binary.ensures c.push-else-is_binary.ensures
