-- Worked examples, by computation.
use mathlib.Core.Path.{◌≡◌, refl}
use mathlib.Core.Bool.{true}
use mathlib.Core.List.{List, [], ◌∷◌, map}
use Prim.Native.Nat.{ℕ, ◌-◌}
use lib.ListN.{get_or}
use Rattle.numbers.specs.Numbers.{picked}
use Rattle.circles.specs.Circles.{Step, leads, closure}
use Rattle.ranks.specs.Ranks.{rank, by_rank}

infix 90 ◌⇒◌
abbrev ◌⇒◌ : ℕ → ℕ → Step
a ⇒ b = record { from = a; to = b }

-- steps between rules 1 to n, the rank of each rule, and the rules in order
record Example : Type 0 where
  n : ℕ
  steps : List Step
  ranks : List ℕ
  order : List ℕ

examples : List Example
examples =
    -- no references: by number
    record { n = 3; steps = []; ranks = 0 ∷ 0 ∷ 0 ∷ []; order = 1 ∷ 2 ∷ 3 ∷ [] }
    -- a chain
    ∷ record { n = 3; steps = 1 ⇒ 3 ∷ 3 ⇒ 2 ∷ []; ranks = 2 ∷ 0 ∷ 1 ∷ []; order = 2 ∷ 3 ∷ 1 ∷ [] }
    -- two ways to one rule
    ∷ record { n = 4; steps = 1 ⇒ 2 ∷ 1 ⇒ 3 ∷ 2 ⇒ 4 ∷ 3 ⇒ 4 ∷ []; ranks = 3 ∷ 1 ∷ 1 ∷ 0 ∷ []; order = 4 ∷ 2 ∷ 3 ∷ 1 ∷ [] }
    -- two rules refer to a third, which refers to both a fourth and a fifth
    ∷ record {
      n = 5;
      steps = 1 ⇒ 3 ∷ 2 ⇒ 3 ∷ 3 ⇒ 5 ∷ 3 ⇒ 4 ∷ [];
      ranks = 3 ∷ 3 ∷ 2 ∷ 0 ∷ 0 ∷ [];
      order = 4 ∷ 5 ∷ 3 ∷ 1 ∷ 2 ∷ [];
    }
    -- a rule that reaches all, itself too, is left out
    ∷ record { n = 1; steps = 1 ⇒ 1 ∷ []; ranks = 1 ∷ []; order = [] }
    ∷ record { n = 3; steps = 1 ⇒ 3 ∷ 1 ⇒ 2 ∷ 2 ⇒ 1 ∷ []; ranks = 3 ∷ 3 ∷ 0 ∷ []; order = 3 ∷ [] }
    ∷ []

computed : Example → Example
computed e =
    record {
      n = e.n;
      steps = e.steps;
      ranks = map (rank e.steps e.n) (picked (λ a. true) 1 e.n);
      order = by_rank (λ a. get_or e.ranks (a - 1) 0) e.n e.n;
    }

worked : map computed examples ≡ examples
unfolding examples computed rank by_rank closure leads picked
worked = refl
