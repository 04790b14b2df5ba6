-- `used_count` meets its contract: after i words the sum is the count of used numbers among the first i * 64.
use Rattle.std.proofs.Common.{◌≡◌, ◌≤◌, ◌*◌, length}
use Rattle.numbers.specs.Numbers.{used, picked}
use Rattle.numbers.proofs.used_count.Given as goal

abbrev pub invariant-loop-word : goal.invariant-loop-word
invariant-loop-word l =
    (l.sum ≤ l.word-index * 64) × (l.sum ≡ length (picked (used l.map) 0 (l.word-index * 64)))
