-- Byte order, and W-205's "it rises strictly".
-- Assumes nothing.
use Rattle.std.specs.Prelude.{ℕ, ◌<◌, ◌≡◌, Bool, true, false, ◌&&◌, ◌||◌, List, [], ◌∷◌, eqb, ltb, length, get_or}

-- a text comes before another: its first byte that differs is smaller, or it ends there
unfoldable pub before : List ℕ → List ℕ → Bool
before [] [] = false
before [] (b ∷ v) = true
before (a ∷ w) [] = false
before (a ∷ w) (b ∷ v) = ltb a b || eqb a b && before w v

-- each text of a list comes before all later ones
abbrev pub Rises : List (List ℕ) → Type 0
Rises ws = (i j : ℕ) → i < j → j < length ws → before (get_or ws i []) (get_or ws j []) ≡ true
