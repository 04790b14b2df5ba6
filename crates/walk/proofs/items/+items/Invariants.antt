-- `walk::items::items` meets its contract. It ends since at each call of itself fewer conditions are left to open, and at each turn fewer tokens.
-- The loop's invariant: whoever ends the list from here ends it from its start.
-- Assumes nothing.
use mathlib.Core.Path.{◌≡◌}
use Prim.Native.Nat.{◌-◌}
use lib.Dec.{eqb}
use Rattle.ll1.specs.Trees.{depth}
use Rattle.grammar.specs.Derivation.{max_conditions}
use Rattle.walk.specs.Walked.{list_of}
use Rattle.walk.specs.Standing.{going}
use Rattle.walk.proofs.Rooms.{ahead}
use Rattle.walk.proofs.ListSteps.{ListLoop}
use Rattle.walk.proofs.items.+items.Given as goal

abbrev pub decreases-items : goal.decreases-items
decreases-items l = l.left

abbrev pub invariant-loop-s : goal.invariant-loop-s
invariant-loop-s l = ListLoop l.src (λ d. d ≡ depth (max_conditions - l.left) 0) (list_of (eqb l.left max_conditions)) l.parent l.initial.table (going l.initial.s) l.table (going l.s)

abbrev pub decreases-loop-s : goal.decreases-loop-s
decreases-loop-s l = ahead l.src (going l.s)
