-- `next_free` meets its contract: the numbers that are free from `from` up are those that are free from `at` up.
use Rattle.std.proofs.Common.{◌≡◌, ◌≤◌, ◌-◌}
use Rattle.numbers.specs.Numbers.{used, free_from}
use Rattle.numbers.proofs.next_free.Given as goal

abbrev pub invariant-loop-at : goal.invariant-loop-at
invariant-loop-at l = (1 ≤ l.at) × (free_from (used l.map) l.from ≡ free_from (used l.map) l.at)

abbrev pub decreases-loop-at : goal.decreases-loop-at
decreases-loop-at l = 65536 - l.at
