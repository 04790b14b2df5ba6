-- A test over all alternatives of the grammar's table, computed once, holds of each of them.
-- Assumes nothing.
use mathlib.Core.Path.{◌≡◌, refl}
use mathlib.Core.List.{List, [], ◌∷◌}
use mathlib.Core.Option.{some}
use mathlib.Core.Bool.{Bool, true}
use Prim.Native.Nat.{ℕ, zero, suc}
use lib.ListN.{get_or}
use Rattle.ll1.specs.Trees.{Alternative, alternative_of}
use Rattle.ll1.specs.Test.{all_at}
use Rattle.ll1.proofs.Basics.{both, all_at_at}
use Rattle.grammar.specs.Grammar.{rules}

-- past the end the test is of the default
all_at_get_or : {X : Type 0} (p : ℕ → X → Bool) (l : List X) (i : ℕ) (d : X) → all_at p l ≡ true → ((j : ℕ) → p j d ≡ true) → p i (get_or l i d) ≡ true
all_at_get_or p [] i d h q = q i
all_at_get_or p (x ∷ l) zero d h q = (both (p 0 x) _ h).0
all_at_get_or p (x ∷ l) (suc i) d h q = all_at_get_or (λ j. p (suc j)) l i d (both (p 0 x) _ h).1 (λ j. q (suc j))

-- the test is told the rule and the alternative's place in it
abbrev pub everywhere : (ℕ → ℕ → Alternative → Bool) → Bool
everywhere test = all_at (λ A l. all_at (test A) l) rules

pub at_alternative : (test : ℕ → ℕ → Alternative → Bool) → everywhere test ≡ true → {A i : ℕ} {a : Alternative} → alternative_of rules A i ≡ some a → test A i a ≡ true
at_alternative test h {A} {i} {a} e = all_at_at (test A) (get_or rules A []) i a (all_at_get_or (λ B l. all_at (test B) l) rules A [] h (λ j. refl)) e
