-- What a class has in a list of pairs: none of its keys, or one of them.
-- Assumes nothing.
use Prim.Native.Nat.{ℕ}
use mathlib.Core.Path.{◌≡◌, refl, sym}
use mathlib.Core.List.{List, [], ◌∷◌}
use borrow.Author.Tests.{ne_eqb}
use Rattle.fields.specs.Words.{Pair, pair, look_up}

-- N, and that k is none of the keys: a fact for each, the last outermost
abbrev pub Misses : Type 0 → List Pair → ℕ → Type 0
Misses N [] k = N
Misses N (pair j v ∷ l) k = Misses (N × (k ≡ j → ⊥)) l k

before : (N : Type 0) (l : List Pair) (k : ℕ) → Misses N l k → N
before N [] k m = m
before N (pair j v ∷ l) k m = (before (N × (k ≡ j → ⊥)) l k m).0

misses : (N : Type 0) (l : List Pair) (other k : ℕ) → Misses N l k → look_up l other k ≡ other
misses N [] other k m = refl
misses N (pair j v ∷ l) other k m =
    let n : k ≡ j → ⊥ = (before (N × (k ≡ j → ⊥)) l k m).1 in
    rw (ne_eqb j k (λ e. n (sym e)), look_up) (misses (N × (k ≡ j → ⊥)) l other k m)

-- a class that is none of the keys
pub missed : (l : List Pair) (other k : ℕ) → Misses (Unit {0}) l k → look_up l other k ≡ other
missed l other k m = misses (Unit {0}) l other k m
