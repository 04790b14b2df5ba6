-- A buffer filled up to an index.
-- Assumes nothing.
use Rattle.std.proofs.Common.{◌≡◌, ℕ, ◌+◌, ◌<◌, List, length, take, set, replicate, refl, add-one, take-suc-set}
use lib.ListN.{replicate-append-replicate}

module _ (t : List ℕ) (v k : ℕ) where
  pub filled_next : k < length t → take k t ≡ replicate k v → take (k + 1) (set t k v) ≡ replicate (k + 1) v
  filled_next h e = rw (← replicate-append-replicate k 1 v, add-one, take-suc-set t k v h, e) refl
