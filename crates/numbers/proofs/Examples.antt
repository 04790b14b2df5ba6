-- Worked examples, by computation.
use mathlib.Core.Path.{◌≡◌, refl}
use mathlib.Core.List.{List, [], ◌∷◌, map}
use Prim.Native.Nat.{ℕ}
use Rattle.numbers.specs.Numbers.{picked, free_from, mem, fill, numbered}

-- own numbers, and the numbers that the questions then bear
pub record Example : Type 0 where
  pub own : List ℕ
  pub bear : List ℕ

pub examples : List Example
examples =
    record { own = []; bear = [] }
    -- document 01's worked example: a later line writes 1
    ∷ record { own = 0 ∷ 1 ∷ []; bear = 2 ∷ 1 ∷ [] }
    ∷ record { own = 0 ∷ 0 ∷ 1 ∷ 0 ∷ []; bear = 2 ∷ 3 ∷ 1 ∷ 4 ∷ [] }
    ∷ record { own = 0 ∷ 3 ∷ 0 ∷ 1 ∷ 0 ∷ 65535 ∷ 0 ∷ []; bear = 2 ∷ 3 ∷ 4 ∷ 1 ∷ 5 ∷ 65535 ∷ 6 ∷ [] }
    -- 65,536 is no question number
    ∷ record { own = 65536 ∷ 0 ∷ 65536 ∷ []; bear = 65536 ∷ 1 ∷ 65536 ∷ [] }
    ∷ []

pub worked : map (λ e. record { own = e.own; bear = numbered e.own }) examples ≡ examples
unfolding examples numbered free_from fill picked mem
worked = refl
