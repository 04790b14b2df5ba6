-- The saved words in pairs: answer k is the k-th of them.
use Prim.Native.Nat.{ℕ, zero, suc, ◌*◌, ◌≤◌, ◌<◌}
use native.Mathlib.Omega.{arith}
use mathlib.Core.Path.{◌≡◌, refl, ap, ◌∙◌}
use mathlib.Core.List.{List, [], ◌∷◌}
use lib.ListN.{length, get_or}
use Rattle.std.specs.Simd.{first_chunks}
use Rattle.saved_answers.specs.Answers.{count, question_of, value_of}
use Rattle.saved_answers.proofs.WalkLaws.{next_question, next_value}

-- in the pairs of the first n answers
pub pair_at :
    (s : List ℕ) (n k : ℕ) → k < n → 2 * n ≤ length s → get_or (first_chunks 2 n s) k [] ≡ question_of s k ∷ value_of s k ∷ []
pair_at s zero k h l = absurd (omega arith)
pair_at [] (suc n) k h l = absurd (omega arith)
pair_at (q ∷ []) (suc n) k h l = absurd (omega arith)
pair_at (q ∷ v ∷ more) (suc n) zero h l = refl
pair_at (q ∷ v ∷ more) (suc n) (suc k) h l =
    pair_at more n k (omega arith) (omega arith) ∙ rw (next_question q v more k, next_value q v more k) refl

-- by what the code's pairs are
module _ (s : List ℕ) (pairs : List (List ℕ)) (each : (k : ℕ) → k < count s → get_or pairs k [] ≡ question_of s k ∷ value_of s k ∷ []) (k : ℕ) (h : k < count s) where
  pub pair_question : get_or (get_or pairs k []) 0 0 ≡ question_of s k
  pair_question = ap (λ p. get_or p 0 0) (each k h)

  pub pair_value : get_or (get_or pairs k []) 1 0 ≡ value_of s k
  pair_value = ap (λ p. get_or p 1 0) (each k h)
