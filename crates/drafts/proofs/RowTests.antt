-- Tests of rows: one code excludes another, and some row passes a test.
use Prim.Native.Nat.{ℕ}
use mathlib.Core.Path.{◌≡◌, refl}
use mathlib.Core.Bool.{Bool, true, false, ◌||◌}
use mathlib.Core.List.{List, [], ◌∷◌, ◌++◌}
use borrow.Author.Tests.{eqb-true}
use lib.Dec.{eqb}
use Rattle.rows.specs.Columns as column
use Rattle.answers.specs.Rows.{Draft}
use Rattle.answers.specs.Stages.{cell, is, any}

-- a row of one code is of no other
pub other_code : (d : Draft) (k j : ℕ) → is k d ≡ true → eqb k j ≡ false → is j d ≡ false
other_code d k j e f = rw (eqb-true (cell column.CODE d) k e) f

pub or_swap : (a b c : Bool) → (a || (b || c)) ≡ (b || (a || c))
or_swap true true c = refl
or_swap true false c = refl
or_swap false b c = refl

module _ (p : Draft → Bool) where
  pub any_none : any p [] ≡ false
  unfolding any
  any_none = refl

  pub any_cons : (d : Draft) (ds : List Draft) → any p (d ∷ ds) ≡ (p d || any p ds)
  unfolding any
  any_cons d ds = refl

  pub any_snoc : (d : Draft) (ds : List Draft) → any p (ds ++ (d ∷ [])) ≡ (p d || any p ds)
  unfolding any
  any_snoc d [] = refl
  any_snoc d (e ∷ ds) = rw (any_snoc d ds) (or_swap (p e) (p d) (any p ds))

-- tests that agree
pub any_same : (p q : Draft → Bool) → ((e : Draft) → p e ≡ q e) → (ds : List Draft) → any p ds ≡ any q ds
unfolding any
any_same p q h [] = refl
any_same p q h (d ∷ ds) = rw (h d, any_same p q h ds)
