-- What stands in a buffer once a text is put.
-- Assumes nothing.
use Rattle.std.proofs.Common.{◌≡◌, ℕ, ◌+◌, ◌≤◌, List, ◌++◌, length, take, refl, ◌∙◌, arith}
use lib.Seq.{take-length, take-paste}
use Rattle.trials.specs.Puts.{Puts}

module _ {o text o' : List ℕ} {at r : ℕ} where
  -- a text that fits stands behind what stood before
  pub puts_behind : Puts o at text o' r → at + length text ≤ length o → take r o' ≡ take at o ++ text
  puts_behind p h =
      let q = p.fitting h in
      rw (q.0, q.1) (take-paste o at text (length text) (omega arith) (omega arith) ∙ rw (take-length text) refl)
