-- What resolving gives for lengths that are equal.
-- Assumes nothing.
use Rattle.std.proofs.Common.{◌≡◌, ℕ, List, refl}
use Rattle.answers.specs.Resolution.{resolved_output}
use Rattle.replies.specs.Replies.{resolve_reply}

module _ {n n' m m' : ℕ} (s : List ℕ) (e : n ≡ n') (f : m ≡ m') where
  pub reply_as : resolve_reply s n m ≡ resolve_reply s n' m'
  reply_as = rw (e, f) refl

  pub output_as : resolved_output s n m ≡ resolved_output s n' m'
  output_as = rw (e, f) refl
