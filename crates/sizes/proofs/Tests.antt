-- Facts about tests.
-- Assumes nothing.
use mathlib.Core.Path.{◌≡◌, refl, sym, ◌∙◌}
use mathlib.Core.Bool.{Bool, true, false}
use Prim.Native.Nat.{ℕ, ◌<◌}
use native.Mathlib.Omega.{arith}
use lib.Dec.{ltb}
use borrow.Author.Tests.{ltb-true, ltb-false, lt-ltb}

-- a statement that holds whatever the test t says
pub either : {A : Type 0} (t : Bool) → (t ≡ true → A) → (t ≡ false → A) → A
either true yes_case no_case = yes_case refl
either false yes_case no_case = no_case refl

-- two tests say the same where the orders that they test do
pub same_order : (a b c d : ℕ) → (a < b → c < d) → (c < d → a < b) → ltb a b ≡ ltb c d
same_order a b c d there back =
    either (ltb a b)
    (λ t. t ∙ sym (lt-ltb c d (there (ltb-true a b t))))
    (λ f. either (ltb c d) (λ t. absurd (omega (arith, back (ltb-true c d t), ltb-false a b f))) (λ g. f ∙ sym g))
