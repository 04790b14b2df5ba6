-- What holds of each element of a list, and numbers that a test tells apart.
-- Assumes nothing.
use mathlib.Core.Path.{◌≡◌}
use mathlib.Core.List.{List, [], ◌∷◌, ◌++◌, map}
use mathlib.Core.Bool.{Bool, true, false}
use Prim.Native.Nat.{ℕ, zero, suc}
use lib.Dec.{eqb}
use lib.ListN.{get_or}
use borrow.Author.Tests.{ne_eqb}
use Rattle.ll1.proofs.Basics.{clash}

module _ {X : Type 0} where
  pub data All (P : X → Type 0) : List X → Type 0 where
    none : All P []
    more : {x : X} {l : List X} → P x → All P l → All P (x ∷ l)

  module _ {P : X → Type 0} where
    pub all_append : {k l : List X} → All P k → All P l → All P (k ++ l)
    all_append none q = q
    all_append (more h p) q = more h (all_append p q)

    pub all_get_or : {l : List X} {x : X} (i : ℕ) → All P l → P x → P (get_or l i x)
    all_get_or i none d = d
    all_get_or zero (more h p) d = h
    all_get_or (suc i) (more h p) d = all_get_or i p d

-- of the images
pub all_map : {X Y : Type 0} {P : Y → Type 0} (f : X → Y) {l : List X} → All (λ x. P (f x)) l → All P (map f l)
all_map f none = none
all_map f (more h p) = more h (all_map f p)

pub apart : (test : ℕ → Bool) (m n : ℕ) → test m ≡ true → test n ≡ false → eqb m n ≡ false
apart test m n h l = ne_eqb m n (λ e. let q : test n ≡ true = rw e at h in clash cc)
