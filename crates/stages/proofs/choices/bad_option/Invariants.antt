-- `choices::bad_option` meets its contract: up to the row of the outer loop no option is at fault, and up to that of the
-- inner one none has the row's value.
use mathlib.Core.Path.{◌≡◌}
use Rattle.std.specs.Prelude.{None}
use Rattle.drafts.specs.Faults.{draft_at}
use Rattle.drafts.proofs.FaultLaws.{Looking}
use Rattle.stages.proofs.ChoiceLaws.{same_value, Choosing}
use Rattle.stages.proofs.choices.bad_option.Given as goal

abbrev pub invariant-loop-earlier : goal.invariant-loop-earlier
invariant-loop-earlier l = Looking (same_value (draft_at l.table l.row)) l.table l.first l.row l.earlier × (l.fault ≡ l.initial.fault)

abbrev pub invariant-search : goal.invariant-search
invariant-search l = Choosing l.table l.first l.end l.row × (l.fault ≡ None)
