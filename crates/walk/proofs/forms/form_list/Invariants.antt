-- `walk::forms::form_list` meets its contract. The loop's invariant: whoever ends the list from here ends it from its start.
-- Assumes nothing.
use mathlib.Core.Path.{◌≡◌}
use Rattle.ll1.specs.Trees.{depth}
use Rattle.grammar.specs.Rules.{<form>*}
use Rattle.walk.specs.Standing.{going}
use Rattle.walk.proofs.Rooms.{ahead}
use Rattle.walk.proofs.ListSteps.{ListLoop}
use Rattle.walk.proofs.forms.form_list.Given as goal

abbrev pub invariant-loop-s : goal.invariant-loop-s
invariant-loop-s l = ListLoop l.src (λ d. d ≡ depth 0 0) <form>* 0 l.initial.table (going l.initial.s) l.table (going l.s)

abbrev pub decreases-loop-s : goal.decreases-loop-s
decreases-loop-s l = ahead l.src (going l.s)
