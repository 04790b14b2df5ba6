-- The chains of the index of names.
use Prim.Native.Nat.{ℕ, suc, ◌+◌, ◌-◌, ◌≤◌, ◌<◌}
use mathlib.Core.Path.{◌≡◌, refl, sym, ap, ◌∙◌}
use mathlib.Core.Bool.{Bool, true, false, cond, ◌&&◌}
use mathlib.Core.List.{List, [], ◌∷◌}
use native.Mathlib.Decide.{ℕ_discrete}
use native.Mathlib.Omega.{arith}
use borrow.Author.Tests.{lt-ltb, le-ltb, eq-eqb, ne_eqb, ltb-true, ltb-false, leb-true}
use lib.Dec.{ltb, leb}
use lib.ListN.{length, get_or, set, length-set}
use Rattle.numbers.proofs.Ranges.{and_yes}
use Rattle.names.specs.Names.{link_in, row_in, follow}

module _ (p : ℕ → Bool) where
  -- entry j of a list
  abbrev entry_at : List ℕ → ℕ → ℕ
  entry_at es j = get_or es (length es - j) 0

  follow_none : (j : ℕ) → follow p [] j ≡ 0
  unfolding follow
  follow_none j = refl

  module _ (e : ℕ) (es : List ℕ) {j : ℕ} where
    follow_here : j ≡ suc (length es) → follow p (e ∷ es) j ≡ cond (p e) (row_in e + 1) (follow p es (link_in e))
    unfolding follow
    follow_here h = rw (eq-eqb j (suc (length es)) h)

    follow_past : (j ≡ suc (length es) → ⊥) → follow p (e ∷ es) j ≡ follow p es j
    unfolding follow
    follow_past h = rw (ne_eqb j (suc (length es)) h)

  -- there is no such entry
  pub follow_out : (es : List ℕ) (j : ℕ) → (0 < j → j ≤ length es → ⊥) → follow p es j ≡ 0
  follow_out [] j h = follow_none j
  follow_out (e ∷ es) j h = follow_past e es (λ y. h (omega arith) (omega arith)) ∙ follow_out es j (λ a b. h a (omega arith))

  -- the chain from an entry by its parts
  abbrev by_parts : List ℕ → List ℕ → ℕ → ℕ
  by_parts es fs j = cond (p (entry_at es j)) (row_in (entry_at es j) + 1) (cond (ltb (link_in (entry_at es j)) j) (follow p fs (link_in (entry_at es j))) 0)

  follow_at : (es : List ℕ) (j : ℕ) → 0 < j → j ≤ length es → follow p es j ≡ by_parts es es j
  follow_at [] j h l = absurd (omega arith)
  follow_at (e ∷ es) j h l = go (ℕ_discrete j (suc (length es))) (follow_at es j h)
    where
      -- an entry before that is no link
      before : (k : ℕ) (b : Bool) → ltb k j ≡ b → cond b (follow p es k) 0 ≡ cond b (follow p (e ∷ es) k) 0
      before k true t = sym (follow_past e es (λ x. omega (arith, ltb-true k j t)))
      before k false t = refl

      own : (b : Bool) → ltb (link_in e) j ≡ b → j ≡ suc (length es) → follow p es (link_in e) ≡ cond b (follow p (e ∷ es) (link_in e)) 0
      own true t y = sym (follow_past e es (λ x. omega (arith, ltb-true (link_in e) j t)))
      own false t y = follow_out es (link_in e) (λ a b. omega (arith, ltb-false (link_in e) j t))

      go : Dec (j ≡ suc (length es)) → (j ≤ length es → follow p es j ≡ by_parts es es j) → follow p (e ∷ es) j ≡ by_parts (e ∷ es) (e ∷ es) j
      go (yes y) f =
          let z : suc (length es) - j ≡ 0 = omega arith in
          rw z (follow_here e es y ∙ ap (cond (p e) (row_in e + 1)) (own (ltb (link_in e) j) refl y))
      go (no y) f =
          let z : suc (length es) - j ≡ suc (length es - j) = omega arith in
          let k : ℕ = link_in (entry_at es j) in
          rw z (follow_past e es y ∙ f (omega arith) ∙ ap (cond (p (entry_at es j)) (row_in (entry_at es j) + 1)) (before k (ltb k j) refl))

  -- entry n + 1 is written: the chains from those before it stay
  pub follow_set : (es : List ℕ) (n e j : ℕ) → n < length es → j ≤ n → follow p (set es (length es - suc n) e) j ≡ follow p es j
  follow_set [] n e j h l = absurd (omega arith)
  follow_set (x ∷ es) n e j h l = go (ℕ_discrete n (length es)) (λ i. follow_set es n e j i l)
    where
      go : Dec (n ≡ length es) → (n < length es → follow p (set es (length es - suc n) e) j ≡ follow p es j)
          → follow p (set (x ∷ es) (suc (length es) - suc n) e) j ≡ follow p (x ∷ es) j
      go (yes y) f =
          let z : suc (length es) - suc n ≡ 0 = omega arith in
          rw z (follow_past e es (λ f. omega arith) ∙ sym (follow_past x es (λ f. omega arith)))
      go (no y) f =
          let z : suc (length es) - suc n ≡ suc (length es - suc n) = omega arith in
          let same : length (set es (length es - suc n) e) ≡ length es = length-set es (length es - suc n) e in
          rw z (follow_past x (set es (length es - suc n) e) (λ f. omega (arith, same)) ∙ f (omega arith) ∙ sym (follow_past x es (λ f. omega arith)))

  -- and the chain from it goes on by its link
  pub follow_new : (es : List ℕ) (n e : ℕ) → n < length es → link_in e ≤ n
      → follow p (set es (length es - suc n) e) (suc n) ≡ cond (p e) (row_in e + 1) (follow p es (link_in e))
  follow_new [] n e h l = absurd (omega arith)
  follow_new (x ∷ es) n e h l = go (ℕ_discrete n (length es)) (λ i. follow_new es n e i l) ∙ ap (cond (p e) (row_in e + 1)) (sym (follow_past x es {j = link_in e} (λ f. omega arith)))
    where
      go : Dec (n ≡ length es) → (n < length es → follow p (set es (length es - suc n) e) (suc n) ≡ cond (p e) (row_in e + 1) (follow p es (link_in e)))
          → follow p (set (x ∷ es) (suc (length es) - suc n) e) (suc n) ≡ cond (p e) (row_in e + 1) (follow p es (link_in e))
      go (yes y) f = let z : suc (length es) - suc n ≡ 0 = omega arith in rw z (follow_here e es (ap suc y))
      go (no y) f =
          let z : suc (length es) - suc n ≡ suc (length es - suc n) = omega arith in
          let same : length (set es (length es - suc n) e) ≡ length es = length-set es (length es - suc n) e in
          rw z (follow_past x (set es (length es - suc n) e) (λ g. omega (arith, same)) ∙ f (omega arith))

-- ---- the loop of `follow`: the chain from entry j has the same end as the one from the first

pub record Following (p : ℕ → Bool) (es : List ℕ) (first j : ℕ) : Type 0 where
  pub same : follow p es first ≡ follow p es j

pub following_start : (p : ℕ → Bool) (es : List ℕ) (first : ℕ) → Following p es first first
following_start p es first = record { same = refl }

-- the test of the loop
pub inside : (j n : ℕ) → (ltb 0 j && leb j n) ≡ true → (0 < j) × (j ≤ n)
inside j n e = let both = and_yes (ltb 0 j) (leb j n) e in (ltb-true 0 j both.0, leb-true j n both.1)

module _ {p : ℕ → Bool} {es : List ℕ} {first j : ℕ} (v : Following p es first j) where
  pub following_end : (0 < j → length es < j) → 0 ≡ follow p es first
  following_end none = sym (v.same ∙ follow_out p es j (λ a b. omega (arith, none a)))

  module _ (l : 0 < j) (h : j ≤ length es) {b : Bool} (m : b ≡ p (entry_at p es j)) where
    by_parts_lem : follow p es first ≡ cond b (row_in (entry_at p es j) + 1) (cond (ltb (link_in (entry_at p es j)) j) (follow p es (link_in (entry_at p es j))) 0)
    by_parts_lem = v.same ∙ follow_at p es j l h ∙ rw m

    pub following_here : b ≡ true → row_in (entry_at p es j) + 1 ≡ follow p es first
    following_here y = sym (by_parts_lem ∙ rw y)

    pub following_stop : b ≡ false → j ≤ link_in (entry_at p es j) → 0 ≡ follow p es first
    following_stop y k = sym (by_parts_lem ∙ rw (y, le-ltb (link_in (entry_at p es j)) j k))

    pub following_next : b ≡ false → link_in (entry_at p es j) < j → Following p es first (link_in (entry_at p es j))
    following_next y k = record { same = by_parts_lem ∙ rw (y, lt-ltb (link_in (entry_at p es j)) j k) }
