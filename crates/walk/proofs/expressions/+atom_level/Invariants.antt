-- `walk::expressions::atom` and `level` meet their contracts. Both end since fewer tokens are left at each call, but where a level starts with its atom.
-- The loop's invariant: whoever ends the operators from here ends them from their start.
-- Assumes nothing.
use Prim.Native.Nat.{◌+◌, ◌*◌}
use Rattle.walk.specs.Standing.{going}
use Rattle.walk.proofs.Rooms.{ahead}
use Rattle.walk.proofs.ExpressionSteps.{OperatorLoop}
use Rattle.walk.proofs.expressions.+atom_level.Given as goal

abbrev pub decreases-level : goal.decreases-level
decreases-level l = ahead l.src.now (going l.s.now) * 2 + 1

abbrev pub decreases-atom : goal.decreases-atom
decreases-atom l = ahead l.src.now (going l.s.now) * 2

abbrev pub invariant-level-loop-operator : goal.invariant-level-loop-operator
invariant-level-loop-operator l = OperatorLoop l.src l.left l.at l.parent l.initial.table (going l.initial.s) l.table (going l.s) l.bound

abbrev pub decreases-level-loop-operator : goal.decreases-level-loop-operator
decreases-level-loop-operator l = ahead l.src (going l.s)
