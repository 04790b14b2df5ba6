-- `family::read_all` meets its contract. The loop keeps what is done after k sources.
-- Assumes nothing.
use Prim.Native.Nat.{◌-◌}
use lib.ListN.{length}
use Rattle.family.proofs.AllLaws.{SoFar}
use Rattle.family.proofs.read_all.Given as goal

abbrev pub invariant-loop-k : goal.invariant-loop-k
invariant-loop-k l =
    SoFar l.buffer l.ends (length l.initial.table) (length l.initial.answers) l.start l.rows l.k l.table l.answers

abbrev pub decreases-loop-k : goal.decreases-loop-k
decreases-loop-k l = l.k-end - l.k
