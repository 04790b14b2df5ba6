-- Facts about lists and tests that have nothing to do with tokens.
-- Assumes nothing.
use mathlib.Core.Path.{◌≡◌, refl, ap}
use mathlib.Core.Bool.{Bool, true, false, ◌&&◌}
use mathlib.Core.List.{List, [], ◌∷◌}
use Prim.Native.Nat.{ℕ, zero, suc, ◌+◌, ◌-◌, ◌≤◌, ◌<◌}
use native.Mathlib.Nat.{add-zero, zero-add, suc-add, add-suc, le_of_suc-le-suc}
use native.Mathlib.Numerals.{add-one}
use native.Mathlib.Omega.{arith}
use lib.ListN.{length, get_or, take, drop, length-drop, drop_of_length-le, get_or-eq_default}
use lib.Seq.{drop-cons, take_all}
-- a statement that holds whatever a test says, or whether a number is below another or not; both parts of a conjunction that is true
pub use Rattle.wordlist.proofs.Lists.{either, either_less, and_true}

-- a conjunction whose second part is false
pub and_false : (a b : Bool) → b ≡ false → a && b ≡ false
and_false true b e = e
and_false false b e = refl

-- what a list has from i on: nothing past its end, and else its element there and what follows it
module _ {A : Type 0} (s : List A) (i : ℕ) where
  pub from_end : length s ≤ i → drop i s ≡ []
  from_end h = drop_of_length-le s h

  pub from_next : (d : A) → i < length s → drop i s ≡ get_or s i d ∷ drop (i + 1) s
  from_next d h = rw add-one (drop-cons s i d h)

-- past the end there is nothing but the default
pub inside : (s : List ℕ) (i : ℕ) → (get_or s i 0 ≡ 0 → ⊥) → i < length s
inside s i h = either_less i (length s) (λ l. l) (λ l. absurd (h (get_or-eq_default s 0 l)))

-- the part of a slice from k to its end
pub rest_part : (s : List ℕ) (k : ℕ) → take (length s - k) (drop k s) ≡ drop k s
rest_part s k = take_all (length s - k) (drop k s) (omega (arith, length-drop k s))

-- the first bytes of a list, as many as there are up to n
pub take_own : (n : ℕ) (s : List ℕ) → take (length (take n s)) s ≡ take n s
take_own zero s = refl
take_own (suc n) [] = refl
take_own (suc n) (b ∷ s) = ap (◌∷◌ b) (take_own n s)

-- ---- a test over all texts of a list, and what it says at each

abbrev pub every : (ℕ → List ℕ → Bool) → ℕ → List (List ℕ) → Bool
every test i [] = true
every test i (v ∷ vs) = test i v && every test (suc i) vs

every_from :
    (test : ℕ → List ℕ → Bool) (i k : ℕ) (ws : List (List ℕ)) → every test i ws ≡ true → k < length ws
    → test (i + k) (get_or ws k []) ≡ true
every_from test i k [] t h = absurd (omega arith)
every_from test i zero (v ∷ vs) t h = rw add-zero (and_true (test i v) (every test (suc i) vs) t).0
every_from test i (suc k) (v ∷ vs) t h =
    rw (add-suc, ← suc-add) (every_from test (suc i) k vs (and_true (test i v) (every test (suc i) vs) t).1 (le_of_suc-le-suc h))

pub every_at :
    (test : ℕ → List ℕ → Bool) (ws : List (List ℕ)) → every test 0 ws ≡ true → (k : ℕ) → k < length ws
    → test k (get_or ws k []) ≡ true
every_at test ws t k h = rw zero-add at (every_from test 0 k ws t h)
