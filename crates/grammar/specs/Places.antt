-- Places of tokens, and lists of places without a repeat.
-- Assumes nothing.
use Rattle.std.specs.Prelude.{List, [], ◌∷◌, cond, ◌≢◌, ℕ, suc, ◌+◌, ◌≤◌, eqb}
use Rattle.ll1.specs.Trees.{Token, token}

-- of tokens
abbrev pub places_of : List Token → List ℕ
places_of [] = []
places_of (token k p ∷ ts) = p ∷ places_of ts

-- ---- repeats

-- p is none of them
pub data Absent (p : ℕ) : List ℕ → Type 0 where
  absent_none : Absent p []
  absent_more : {q : ℕ} {ps : List ℕ} → q ≢ p → Absent p ps → Absent p (q ∷ ps)

-- each differs from all later ones
pub data Distinct : List ℕ → Type 0 where
  distinct_none : Distinct []
  distinct_more : {p : ℕ} {ps : List ℕ} → Absent p ps → Distinct ps → Distinct (p ∷ ps)

-- each is at least `low`, and more than the one before it
pub data Ascending : ℕ → List ℕ → Type 0 where
  ascending_none : {low : ℕ} → Ascending low []
  ascending_more : {low p : ℕ} {ps : List ℕ} → low ≤ p → Ascending (suc p) ps → Ascending low (p ∷ ps)

-- ---- weights

-- what places weigh together, each by the weight w
abbrev pub total : (ℕ → ℕ) → List ℕ → ℕ
total w [] = 0
total w (p ∷ ps) = w p + total w ps

-- 1 for the place p itself, 0 for any other
unfoldable pub hit : ℕ → ℕ → ℕ
hit p q = cond (eqb q p) 1 0

-- how often p is among them
abbrev pub times : ℕ → List ℕ → ℕ
times p ps = total (hit p) ps
