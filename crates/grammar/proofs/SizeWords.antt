-- Words that are printed: those that are set among flags, the word of a size or a display; and lists of them without a second size or display word.
-- Assumes nothing.
use mathlib.Core.Path.{◌≡◌, refl}
use mathlib.Core.List.{List, [], ◌∷◌, map}
use mathlib.Core.Bool.{Bool, true, false, cond, ◌&&◌, ◌||◌}
use Prim.Native.Nat.{ℕ, ◌+◌, ◌≤◌}
use native.Mathlib.Omega.{arith}
use lib.Dec.{eqb}
use Rattle.rows.specs.Flags.{is_set}
use Rattle.ll1.specs.Trees.{Token, token}
use Rattle.ll1.specs.ParseTable.{member}
use Rattle.ll1.specs.Test.{all}
use Rattle.ll1.proofs.Basics.{both}
use Rattle.grammar.specs.Parts.{when}
use Rattle.grammar.specs.Flags.{FlagWord, size_words, display_words, classes_of, class_of, set_in, word_or, seconds_after}
use Rattle.grammar.proofs.FlagTotals.{count}

-- ---- what holds of all the words of a table

module _ (test : FlagWord → Bool) where
  -- holds of those that are set
  pub set_tested : (n : ℕ) (ws : List FlagWord) → all test ws ≡ true → all test (set_in n ws) ≡ true
  set_tested n [] h = refl
  set_tested n (w ∷ ws) h = let f = both (test w) _ h in by (is_set w.value n) f.0 (set_tested n ws f.1)
    where
      by : (b : Bool) → test w ≡ true → all test (set_in n ws) ≡ true → all test (cond b (w ∷ set_in n ws) (set_in n ws)) ≡ true
      by true k more = rw k more
      by false k more = more

  -- and of the word of a value
  pub word_tested : (other : FlagWord) (ws : List FlagWord) (v : ℕ) → test other ≡ true → all test ws ≡ true → test (word_or other ws v) ≡ true
  word_tested other [] v h g = h
  word_tested other (w ∷ ws) v h g = let f = both (test w) _ g in by (eqb w.value v) f.0 (word_tested other ws v h f.1)
    where
      by : (b : Bool) → test w ≡ true → test (word_or other ws v) ≡ true → test (cond b w (word_or other ws v)) ≡ true
      by true h g = h
      by false h g = g

-- a test of classes, over those of words
pub classes_tested : (test : ℕ → Bool) (ws : List FlagWord) → all (λ w. test w.class) ws ≡ true → all test (classes_of ws) ≡ true
classes_tested test [] h = refl
classes_tested test (w ∷ ws) h = let f = both (test w.class) _ h in rw f.0 (classes_tested test ws f.1)

-- ---- no second word

-- one at most, of which one may stand before
one_more :
    (before this : Bool) (later : ℕ)
    → when before 1 + (when this 1 + later) ≤ 1 → (before && this ≡ false) × (when (before || this) 1 + later ≤ 1)
one_more true true later h = absurd (omega arith)
one_more true false later h = (refl, omega arith)
one_more false true later h = (refl, omega arith)
one_more false false later h = (refl, omega arith)

-- tokens with one size word and one display word at most have no second one
pub no_second :
    (sized shown : Bool) (ts : List Token)
    → when sized 1 + count size_words (map class_of ts) ≤ 1 → when shown 1 + count display_words (map class_of ts) ≤ 1 → seconds_after sized shown ts ≡ []
no_second sized shown [] h g = refl
no_second sized shown (token k p ∷ ts) h g =
    let is_size = member k (classes_of size_words) in
    let is_display = member k (classes_of display_words) in
    let a = one_more sized is_size (count size_words (map class_of ts)) h in
    let b = one_more shown is_display (count display_words (map class_of ts)) g in
    rw (a.0, b.0) (no_second (sized || is_size) (shown || is_display) ts a.1 b.1)
