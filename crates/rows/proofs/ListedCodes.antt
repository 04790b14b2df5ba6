-- A test of codes by their runs, against the list of the codes: computed up to the last one, past which neither holds.
use Prim.Native.Nat.{ℕ, zero, suc, ◌≤◌, ◌<◌}
use mathlib.Core.Path.{◌≡◌, refl, sym, ◌∙◌}
use mathlib.Core.Bool.{Bool, true, false, beq, ◌&&◌, and-eq-true_iff}
use mathlib.Core.List.{List, [], ◌∷◌}
use native.Mathlib.Decide.{ℕ_discrete, dec_lt}
use native.Mathlib.Omega.{arith}
use borrow.Author.Tests.{ne_eqb, ltb-true}
use lib.Dec.{ltb}
use Rattle.rows.specs.Codes.{member}

-- f and g agree below n
unfoldable pub agree : (ℕ → Bool) → (ℕ → Bool) → ℕ → Bool
agree f g zero = true
agree f g (suc n) = beq (f n) (g n) && agree f g n

same : (a b : Bool) → beq a b ≡ true → a ≡ b
same true true e = refl
same true false e = sym e
same false true e = e
same false false e = refl

agreed : (f g : ℕ → Bool) (n : ℕ) → agree f g n ≡ true → (c : ℕ) → c < n → f c ≡ g c
unfolding agree
agreed f g zero e c h = absurd (omega arith)
agreed f g (suc n) e c h =
    let s = (and-eq-true_iff (beq (f n) (g n)) (agree f g n)).0 e in
    elim (ℕ_discrete c n) [ yes d ↦ rw d (same (f n) (g n) s.0) | no d ↦ agreed f g n s.1 c (omega arith) ]

-- every number of a list is below n
unfoldable pub below : ℕ → List ℕ → Bool
below n [] = true
below n (x ∷ xs) = ltb x n && below n xs

no_member : (l : List ℕ) (n : ℕ) → below n l ≡ true → (c : ℕ) → n ≤ c → member c l ≡ false
unfolding below member
no_member [] n e c h = refl
no_member (x ∷ xs) n e c h =
    let s = (and-eq-true_iff (ltb x n) (below n xs)).0 e in
    let d : c ≡ x → ⊥ = λ f. omega (arith, ltb-true x n s.0) in
    rw (ne_eqb c x d) (no_member xs n s.1 c h)

-- the test holds of exactly the codes of the list
pub listed_exactly :
    (test : ℕ → Bool) (l : List ℕ) (n : ℕ) → agree test (λ c. member c l) n ≡ true → below n l ≡ true → ((c : ℕ) → n ≤ c → test c ≡ false)
    → (c : ℕ) → test c ≡ member c l
listed_exactly test l n a b past c =
    elim (dec_lt c n) [ yes h ↦ agreed test (λ k. member k l) n a c h | no h ↦ past c (omega arith) ∙ sym (no_member l n b c (omega arith)) ]
