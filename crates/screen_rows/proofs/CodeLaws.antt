-- The kinds of statements by their codes, as the code tells them apart.
use Prim.Native.Nat.{ℕ, ◌≤◌}
use native.Mathlib.Omega.{arith}
use native.Mathlib.Decide.{ℕ_discrete}
use mathlib.Core.Path.{◌≡◌, refl}
use mathlib.Core.Bool.{true, false}
use mathlib.Core.Logic.{◌≢◌, ◌⊎◌, inl, inr}
use borrow.Author.Tests.{ne_eqb}
use Rattle.rows.specs.Codes.{member, SUBTITLE, TEXT, LABEL, GOTO, CHECKBOX, NUMERIC, ONE_OF, SUPPRESS_IF, DISABLE_IF}
use Rattle.screen.specs.Kinds.{items, hiding, is_item, hides}

module _ (c : ℕ) where
  pub hiding_one : (c ≡ SUPPRESS_IF) ⊎ (c ≡ DISABLE_IF) → true ≡ hides c
  unfolding hides hiding member
  hiding_one (inl e) = rw e refl
  hiding_one (inr e) = rw e refl

  pub hiding_none : c ≢ SUPPRESS_IF → c ≢ DISABLE_IF → false ≡ hides c
  unfolding hides hiding member
  hiding_none a b = rw (ne_eqb c SUPPRESS_IF a, ne_eqb c DISABLE_IF b) refl

  pub item_none : c ≢ SUBTITLE → c ≢ TEXT → c ≢ LABEL → c ≢ GOTO → c ≢ CHECKBOX → c ≢ NUMERIC → c ≢ ONE_OF → false ≡ is_item c
  unfolding is_item items member
  item_none d e f g h k l =
      rw (ne_eqb c SUBTITLE d, ne_eqb c TEXT e, ne_eqb c LABEL f, ne_eqb c GOTO g, ne_eqb c CHECKBOX h, ne_eqb c NUMERIC k, ne_eqb c ONE_OF l) refl

  pub item_one : (c ≡ GOTO) ⊎ (c ≡ LABEL) → true ≡ is_item c
  unfolding is_item items member
  item_one (inl e) = rw e refl
  item_one (inr e) = rw e refl

  -- the items' codes next to one another
  pub item_from_two : SUBTITLE ≤ c → c ≤ TEXT → true ≡ is_item c
  unfolding is_item items member
  item_from_two a b = elim (ℕ_discrete c SUBTITLE) [ yes e ↦ rw e refl | no d ↦ let e : c ≡ TEXT = omega arith in rw e refl ]

  pub item_from_five : ONE_OF ≤ c → c ≤ NUMERIC → true ≡ is_item c
  unfolding is_item items member
  item_from_five a b =
      elim (ℕ_discrete c ONE_OF) [
        | yes e ↦ rw e refl
        | no d ↦ elim (ℕ_discrete c CHECKBOX) [ yes e ↦ rw e refl | no f ↦ let e : c ≡ NUMERIC = omega arith in rw e refl ]
      ]
