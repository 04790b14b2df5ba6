-- Refusal 15: "answers not strictly ascending or with a number no question bears, place the first such, from 0" (document 02, W-202).
use Rattle.std.specs.Prelude.{ℕ, suc, Bool, cond, ◌&&◌, List, [], ◌∷◌, ltb}

-- how many answers there are before the first at fault, where each must be for a number above n or above that of the answer before it, and one that
-- a question bears; "an odd last word is an answer out of order"
unfoldable pub good_answers : (borne : ℕ → Bool) → ℕ → List ℕ → ℕ
good_answers borne n (question ∷ value ∷ more) = let later = suc (good_answers borne question more) in cond (ltb n question && borne question) later 0
good_answers borne n (question ∷ []) = 0
good_answers borne n [] = 0
