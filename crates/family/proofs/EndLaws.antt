-- The ends of a family, one after another.
-- Assumes nothing.
use Prim.Native.Nat.{ℕ, ◌≤◌, ◌<◌}
use native.Mathlib.Omega.{arith}
use mathlib.Core.Path.{◌≡◌, refl, sym, ap, ◌∙◌}
use mathlib.Core.Bool.{Bool, true, false, not, true≢false}
use mathlib.Core.List.{List, [], ◌∷◌}
use lib.Dec.{eqb}
use borrow.Author.Tests.{lt-ltb, le-ltb, eqb-true}
use Rattle.lexemes.proofs.Lists.{either_less}
use Rattle.family.specs.Family.{fall, last_end, bad_ends}

module _ (before : ℕ) (bytes : ℕ) where
  -- after the last
  pub no_more : not (eqb before bytes) ≡ bad_ends before [] bytes
  unfolding bad_ends fall last_end
  no_more = refl

  module _ (end : ℕ) (ends : List ℕ) where
    -- one below that before it
    pub falls : end < before → true ≡ bad_ends before (end ∷ ends) bytes
    unfolding bad_ends fall last_end
    falls h = rw (lt-ltb end before h)

    -- one that is not
    pub goes_on : before ≤ end → bad_ends before (end ∷ ends) bytes ≡ bad_ends end ends bytes
    unfolding bad_ends fall last_end
    goes_on h = rw (le-ltb end before h)

-- ---- good ends

-- the first of them does not fall, and those behind it are good
pub good_next : (before end : ℕ) (ends : List ℕ) (bytes : ℕ) → bad_ends before (end ∷ ends) bytes ≡ false → (before ≤ end) × (bad_ends end ends bytes ≡ false)
good_next before end ends bytes good =
    either_less end before
    (λ less. absurd (true≢false (falls before bytes end ends less ∙ good)))
    (λ more. (more, sym (goes_on before bytes end ends more) ∙ good))

-- none lies past the buffer
pub good_inside : (before : ℕ) (ends : List ℕ) (bytes : ℕ) → bad_ends before ends bytes ≡ false → before ≤ bytes
good_inside before [] bytes good = by (eqb before bytes) refl (no_more before bytes ∙ good)
  where
    by : (b : Bool) → eqb before bytes ≡ b → not (eqb before bytes) ≡ false → before ≤ bytes
    by true e h = omega (arith, eqb-true before bytes e)
    by false e h = absurd (true≢false (ap not (sym e) ∙ h))
good_inside before (end ∷ ends) bytes good =
    let g = good_next before end ends bytes good in
    omega (arith, g.0, good_inside end ends bytes g.1)
