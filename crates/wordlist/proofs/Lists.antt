-- Facts about tests and lists.
-- Assumes nothing.
use mathlib.Core.Path.{◌≡◌, refl}
use mathlib.Core.Bool.{Bool, true, false, ◌&&◌, false≢true}
use mathlib.Core.List.{List, [], ◌∷◌}
use Prim.Native.Nat.{ℕ, zero, suc, ◌≤◌, ◌<◌}
use native.Mathlib.Nat.{le_of_suc-le-suc}
use native.Mathlib.Omega.{arith}
use lib.Dec.{ltb}
use lib.ListN.{length, get_or}
use borrow.Author.Tests.{ltb-true, ltb-false}

-- a statement that holds whatever the test t says
pub either : {A : Type 0} (t : Bool) → (t ≡ true → A) → (t ≡ false → A) → A
either true yes_case no_case = yes_case refl
either false yes_case no_case = no_case refl

-- and one that holds whether a is below b or not
pub either_less : {A : Type 0} (a b : ℕ) → (a < b → A) → (b ≤ a → A) → A
either_less a b less not_less = either (ltb a b) (λ e. less (ltb-true a b e)) (λ e. not_less (ltb-false a b e))

-- both parts of a conjunction that is true
pub and_true : (a b : Bool) → a && b ≡ true → (a ≡ true) × (b ≡ true)
and_true true b e = (refl, e)
and_true false b e = absurd (false≢true e)

-- inside a list the default does not matter
pub same_default : {A : Type 0} (s : List A) (i : ℕ) (d e : A) → i < length s → get_or s i d ≡ get_or s i e
same_default [] i d e h = absurd (omega arith)
same_default (x ∷ s) zero d e h = refl
same_default (x ∷ s) (suc i) d e h = same_default s i d e (le_of_suc-le-suc h)
