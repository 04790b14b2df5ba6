-- `walk::expressions::leaf` meets its contract, one return for each atom.
-- Assumes nothing.
use mathlib.Core.Path.{refl, sym, ◌∙◌}
use Rattle.std.proofs.Common.{rules}
use Rattle.walk.proofs.ExpressionSteps.{atom_constant, atom_question_ref, atom_rule_ref, atom_number}
use Rattle.walk.proofs.expressions.leaf.Goals as goal

pub returns-then-is_constant : goal.returns-then-is_constant
returns-then-is_constant c = atom_constant refl (sym c.is_constant.ensures ∙ c.if-is_constant.true) c.word.ensures

pub returns-in-70 : goal.returns-in-70
returns-in-70 c = atom_question_ref c.in-70.is c.flat.ensures

pub returns-in-72 : goal.returns-in-72
returns-in-72 c = atom_rule_ref c.in-72.is c.flat-in-72.ensures

pub returns-in_default-2 : goal.returns-in_default-2
returns-in_default-2 c =
    let pre = c.requires in
    atom_number pre.1 pre.2 (sym c.is_constant.ensures ∙ c.if-is_constant.false) (search rules) (search rules) c.flat-in_default-2.ensures
