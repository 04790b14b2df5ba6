-- `same` decides whether two texts are equal, and `place_of` whether a text stands in a list.
-- Assumes nothing.
use mathlib.Core.Path.{◌≡◌, refl, sym, ◌∙◌}
use mathlib.Core.Logic.{⊎_elim}
use mathlib.Core.Bool.{true, false≢true}
use mathlib.Core.List.Memᴰ
use mathlib.Core.List.{List, [], ◌∷◌, Memᴰ}
use Prim.Native.Nat.{ℕ, suc, ◌<◌, ◌≤◌, zero-le, suc-le-suc}
use native.Mathlib.Nat.{le_of_suc-le-suc}
use native.Mathlib.Omega.{arith}
use lib.Dec.{eqb}
use lib.ListN.{length, get_or, drop}
use borrow.Author.Tests.{eqb-true, eqb-false, eq-eqb, ne_eqb}
use Rattle.lexemes.specs.Words.{same, place_among, word, same_word}
use Rattle.lexemes.proofs.Lists.{either, and_true}

eqb_sym : (a b : ℕ) → eqb a b ≡ eqb b a
eqb_sym a b =
    either (eqb a b)
    (λ e. e ∙ sym (eq-eqb b a (sym (eqb-true a b e))))
    (λ e. e ∙ sym (ne_eqb b a (λ h. eqb-false a b e (sym h))))

-- `same` is true exactly of equal texts, in either order
pub same_refl : (w : List ℕ) → same w w ≡ true
unfolding same
same_refl [] = refl
same_refl (a ∷ w) = rw (eq-eqb a a refl) (same_refl w)

pub eq_same : (w v : List ℕ) → w ≡ v → same w v ≡ true
eq_same w v e = rw e (same_refl v)

pub same_true : (w v : List ℕ) → same w v ≡ true → w ≡ v
unfolding same
same_true [] [] e = refl
same_true [] (b ∷ v) e = absurd (false≢true e)
same_true (a ∷ w) [] e = absurd (false≢true e)
same_true (a ∷ w) (b ∷ v) e = let both = and_true (eqb a b) (same w v) e in rw (eqb-true a b both.0, same_true w v both.1)

pub same_sym : (w v : List ℕ) → same w v ≡ same v w
unfolding same
same_sym [] [] = refl
same_sym [] (b ∷ v) = refl
same_sym (a ∷ w) [] = refl
same_sym (a ∷ w) (b ∷ v) = rw (eqb_sym a b, same_sym w v)

-- a place is at most the list's length
pub place_le : (w : List ℕ) (ws : List (List ℕ)) → place_among w ws ≤ length ws
unfolding place_among
place_le w [] = zero-le
place_le w (v ∷ vs) = either (same w v) (λ e. rw e zero-le) (λ e. rw e (suc-le-suc (place_le w vs)))

-- a place below the length is where the text stands
pub place_at_lem : (w : List ℕ) (ws : List (List ℕ)) → place_among w ws < length ws → get_or ws (place_among w ws) [] ≡ w
unfolding place_among
place_at_lem w [] h = absurd (omega arith)
place_at_lem w (v ∷ vs) h =
    either (same w v)
    (λ e. rw e (sym (same_true w v e)))
    (λ e. let later : suc (place_among w vs) < suc (length vs) = rw e at h in rw e (place_at_lem w vs (le_of_suc-le-suc later)))

-- it is below the length exactly where the text stands in the list
pub member_place : (w : List ℕ) (ws : List (List ℕ)) → Memᴰ w ws → place_among w ws < length ws
unfolding place_among
member_place w [] m = absurd (Memᴰ.not-nil m)
member_place w (v ∷ vs) m =
    either (same w v)
    (λ e. rw e (omega arith))
    (λ e.
    rw e (suc-le-suc (⊎_elim (λ h. absurd (false≢true (sym e ∙ eq_same w v h))) (λ later. member_place w vs later) (Memᴰ.cases_cons m))))

pub place_member : (w : List ℕ) (ws : List (List ℕ)) → place_among w ws < length ws → Memᴰ w ws
unfolding place_among
place_member w [] h = absurd (omega arith)
place_member w (v ∷ vs) h =
    either (same w v)
    (λ e. Memᴰ.head (same_true w v e))
    (λ e. let later : suc (place_among w vs) < suc (length vs) = rw e at h in Memᴰ.tail (place_member w vs (le_of_suc-le-suc later)))

-- ---- words

-- the words that start at two places are the same exactly where they are equal lists
module _ (s : List ℕ) (p q : ℕ) where
  pub eq_same_word : word (drop p s) ≡ word (drop q s) → same_word s p q ≡ true
  unfolding same_word
  eq_same_word e = eq_same (word (drop p s)) (word (drop q s)) e

  pub same_word_true : same_word s p q ≡ true → word (drop p s) ≡ word (drop q s)
  unfolding same_word
  same_word_true e = same_true (word (drop p s)) (word (drop q s)) e

pub same_word_refl : (s : List ℕ) (p : ℕ) → same_word s p p ≡ true
same_word_refl s p = eq_same_word s p p refl

pub same_word_sym : (s : List ℕ) (p q : ℕ) → same_word s p q ≡ same_word s q p
unfolding same_word
same_word_sym s p q = same_sym (word (drop p s)) (word (drop q s))
