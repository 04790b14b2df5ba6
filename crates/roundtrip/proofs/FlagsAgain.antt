-- Column 5 is read back: the flags of the words that a row sets are the row's, with or without a default.
-- Assumes nothing.
use mathlib.Core.Path.{◌≡◌, refl, ap, ◌∙◌}
use mathlib.Core.List.{List, [], ◌∷◌}
use mathlib.Core.Bool.{Bool, true, false, ◌&&◌}
use Prim.Native.Nat.{ℕ, ◌+◌, ◌/◌, ◌%◌}
use native.Mathlib.Nat.{add-zero}
use lib.Dec.{eqb}
use borrow.Author.Tests.{eqb-true}
use Rattle.rows.specs.Flags as flag
use Rattle.ll1.specs.ParseTable.{member}
use Rattle.ll1.proofs.Basics.{both}
use Rattle.grammar.specs.Parts.{when}
use Rattle.grammar.specs.Flags.{FlagWord, flag_words, total, set_in}
use Rattle.roundtrip.proofs.PhraseRows.{flag_total}

-- ---- a test of every total that the words of a table can have

abbrev every_total : (ℕ → Bool) → List FlagWord → Bool
every_total test [] = test 0
every_total test (w ∷ ws) = every_total (λ n. test (w.value + n)) ws && every_total (λ n. test (0 + n)) ws

total_tested : (test : ℕ → Bool) (ws : List FlagWord) (ks : List ℕ) → every_total test ws ≡ true → test (total ws ks) ≡ true
total_tested test [] ks h = h
total_tested test (w ∷ ws) ks h = by (member w.class ks) (both _ _ h) (λ p. total_tested p ws ks)
  where
    by :
        (b : Bool) → (every_total (λ n. test (w.value + n)) ws ≡ true) × (every_total (λ n. test (0 + n)) ws ≡ true)
        → ((p : ℕ → Bool) → every_total p ws ≡ true → p (total ws ks) ≡ true) → test (when b w.value + total ws ks) ≡ true
    by true q later = later (λ n. test (w.value + n)) q.0
    by false q later = later (λ n. test (0 + n)) q.1

-- ---- the column

-- the flags of the words that are set in it
abbrev pub again : ℕ → ℕ
again x = flag_total (set_in x flag_words)

-- flags, and a default or none
abbrev with_default : ℕ → Bool → ℕ
with_default n d = n + when d flag.HAS_DEFAULT

abbrev read_back : Bool → ℕ → Bool
read_back d n = eqb (again (with_default n d)) n && eqb (with_default n d / flag.HAS_DEFAULT % 2) (when d 1)

every_read_back : (d : Bool) → every_total (read_back d) flag_words ≡ true
every_read_back true = refl
every_read_back false = refl

module _ (ks : List ℕ) where
  abbrev n : ℕ
  n = total flag_words ks

  read_back_lem : (d : Bool) → (eqb (again (with_default n d)) n ≡ true) × (eqb (with_default n d / flag.HAS_DEFAULT % 2) (when d 1) ≡ true)
  read_back_lem d = both (eqb (again (with_default n d)) n) _ (total_tested (read_back d) flag_words ks (every_read_back d))

  pub flags_default_again : (d : Bool) → again (with_default n d) ≡ n
  flags_default_again d = eqb-true (again (with_default n d)) n (read_back_lem d).0

  pub flags_again : again n ≡ n
  flags_again = rw (add-zero n) at (flags_default_again false)

  pub default_again : (d : Bool) → flag.is_set flag.HAS_DEFAULT (with_default n d) ≡ d
  default_again d = ap (λ m. eqb m 1) (eqb-true (with_default n d / flag.HAS_DEFAULT % 2) (when d 1) (read_back_lem d).1) ∙ truth d
    where
      truth : (d : Bool) → eqb (when d 1) 1 ≡ d
      truth true = refl
      truth false = refl
