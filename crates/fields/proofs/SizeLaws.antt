-- A numeric's size from what its FL keeps, and the first of its numbers that does not fit it, test by test.
-- Assumes nothing.
use Prim.Native.Nat.{ℕ, zero, suc, ◌+◌, ◌/◌, ◌<◌}
use native.Mathlib.Numerals.{add-one}
use mathlib.Core.Path.{◌≡◌, refl, ap, sym, ◌∙◌}
use mathlib.Core.Logic.{◌≢◌}
use mathlib.Core.Bool.{Bool, true, false, not}
use mathlib.Core.List.{List, [], ◌∷◌}
use native.Mathlib.Omega.{arith}
use lib.ListN.{get_or}
use borrow.Author.Tests.{eq-eqb, ne_eqb}
use Rattle.std.specs.Prelude.{Option}
use Rattle.values.specs.Numbers.{value_at}
use Rattle.sizes.specs.Sizes.{width}
use Rattle.grammar.specs.Ranges.{fits_bytes, keeps}
use Rattle.fields.specs.Sizes.{size_entry, oversized, first_oversized}

-- ---- the size

pub entry_absent : (entry : ℕ) → entry / 256 ≡ 0 → 33 ≡ size_entry entry
unfolding size_entry
entry_absent entry e = rw (eq-eqb (entry / 256) 0 e)

pub entry_there : (entry : ℕ) → entry / 256 ≢ 0 → entry / 256 ≡ size_entry entry
unfolding size_entry
entry_there entry h = rw (ne_eqb (entry / 256) 0 h)

-- ---- a number

module _ (s : List ℕ) (size : ℕ) where
  pub none_oversized : {m : ℕ} → m ≡ 0 → false ≡ oversized s size m
  unfolding oversized
  none_oversized e = rw e

  -- the value that is read at the place of a mark
  pub there_oversized : (p : ℕ) {m : ℕ} (v : Option ℕ) → p + 1 ≡ m → v ≡ value_at s p → oversized s size m ≡ not (fits_bytes (width size) v)
  unfolding keeps oversized
  there_oversized p v e f = rw (← e, add-one p, f)

-- ---- the first of four, where n is the size and display that the code has in hand

module _ (s : List ℕ) (k : ℕ → ℕ) {n : ℕ} (size : n ≡ size_entry (k 4)) where
  -- the number of entry i is oversized, as the code's test tells
  abbrev pub Told : Bool → ℕ → Type 0
  Told told i = oversized s (n / 4) (k i) ≡ told

  told_by : (i : ℕ) {told : Bool} → Told told i → oversized s (size_entry (k 4) / 4) (k i) ≡ told
  told_by i t = ap (λ m. oversized s (m / 4) (k i)) (sym size) ∙ t

  -- the first is entry 5 + i
  pub first_told : (i : ℕ) → i < 4 → ((j : ℕ) → j < i → Told false (5 + j)) → Told true (5 + i) → k (5 + i) ≡ first_oversized s k
  unfolding first_oversized
  first_told zero h before t = rw (told_by 5 t)
  first_told (suc zero) h before t = rw (told_by 5 (before 0 (omega arith)), told_by 6 t)
  first_told (suc (suc zero)) h before t = rw (told_by 5 (before 0 (omega arith)), told_by 6 (before 1 (omega arith)), told_by 7 t)
  first_told (suc (suc (suc zero))) h before t =
      rw (told_by 5 (before 0 (omega arith)), told_by 6 (before 1 (omega arith)), told_by 7 (before 2 (omega arith)), told_by 8 t)
  first_told (suc (suc (suc (suc i)))) h before t = absurd (omega arith)

  -- there is none
  pub none_told : ((j : ℕ) → j < 4 → Told false (5 + j)) → 0 ≡ first_oversized s k
  unfolding first_oversized
  none_told all =
      rw (told_by 5 (all 0 (omega arith)), told_by 6 (all 1 (omega arith)), told_by 7 (all 2 (omega arith)), told_by 8 (all 3 (omega arith)))

-- ---- the numbers as the code lists them

pub listed : (k : ℕ → ℕ) (i : ℕ) → i < 4 → get_or (k 5 ∷ k 6 ∷ k 7 ∷ k 8 ∷ []) i 0 ≡ k (5 + i)
listed k zero h = refl
listed k (suc zero) h = refl
listed k (suc (suc zero)) h = refl
listed k (suc (suc (suc zero))) h = refl
listed k (suc (suc (suc (suc i)))) h = absurd (omega arith)
