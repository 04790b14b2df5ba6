-- `family::bad_ends` meets its contract. The loop keeps that the rest of the ends, after the one before, is as bad as all.
-- Assumes nothing.
use mathlib.Core.Path.{◌≡◌}
use lib.ListN.{drop}
use Rattle.family.specs.Family.{bad_ends}
use Rattle.family.proofs.bad_ends.Given as goal

abbrev pub invariant-loop-end : goal.invariant-loop-end
invariant-loop-end l = bad_ends l.last (drop l.end-index l.ends) l.length ≡ bad_ends 0 l.ends l.length
