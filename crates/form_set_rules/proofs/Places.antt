-- The place that is noted for a rule's number is the only row that has it.
-- Assumes nothing.
use Prim.Native.Nat.{ℕ, zero, suc, ◌+◌, ◌≤◌, ◌<◌}
use native.Mathlib.Decide.{ℕ_discrete}
use native.Mathlib.Omega.{arith}
use mathlib.Core.Path.{◌≡◌, refl, sym, ◌∙◌}
use mathlib.Core.List.{List}
use borrow.Author.Tests.{eqb-true}
use lib.Dec.{eqb}
use lib.ListN.{length, get_or}
use lib.Seq.{get_or-set_same, get_or-set_other}
use Rattle.lexemes.proofs.Lists.{either}
use Rattle.rows.specs.Codes as code
use Rattle.rows.specs.Columns as column
use Rattle.rows.specs.Table.{cell_at}
use Rattle.rule_values.specs.Values.{placed_row, placed_rows}
use Rattle.rule_values.proofs.PlaceLaws.{length_placed}

module _ (t : List ℕ) (k : ℕ) where
  -- row r is that of a rule of number k
  abbrev Has : ℕ → Type 0
  Has r = (cell_at t r column.CODE ≡ code.RULE) × (cell_at t r column.OWN ≡ k)

  row_kept : (places : List ℕ) (i : ℕ) → (Has i → ⊥) → get_or (placed_row t places i) k 0 ≡ get_or places k 0
  unfolding placed_row
  row_kept places i none =
      either (eqb (cell_at t i column.CODE) code.RULE)
      (λ e. rw e (get_or-set_other places (cell_at t i column.OWN) k i 0 (λ q. none (eqb-true (cell_at t i column.CODE) code.RULE e, sym q))))
      (λ e. rw e)

  row_placed : (places : List ℕ) (i : ℕ) → Has i → k < length places → get_or (placed_row t places i) k 0 ≡ i
  unfolding placed_row
  row_placed places i h l = rw (h.0, h.1) (get_or-set_same places k i 0 l)

  rows_kept : (n : ℕ) (places : List ℕ) (i : ℕ) → ((r : ℕ) → i ≤ r → r < i + n → Has r → ⊥) → get_or (placed_rows t places i n) k 0 ≡ get_or places k 0
  unfolding placed_rows
  rows_kept zero places i none = refl
  rows_kept (suc n) places i none =
      rows_kept n (placed_row t places i) (suc i) (λ r a b. none r (omega arith) (omega arith))
      ∙ row_kept places i (none i (omega arith) (omega arith))

  pub row_found :
      (n : ℕ) (places : List ℕ) (i : ℕ) (r : ℕ)
      → k < length places → i ≤ r → r < i + n → Has r → ((q : ℕ) → i ≤ q → q < i + n → Has q → q ≡ r)
      → get_or (placed_rows t places i n) k 0 ≡ r
  unfolding placed_rows
  row_found zero places i r room from to has only = absurd (omega arith)
  row_found (suc n) places i r room from to has only =
      elim (ℕ_discrete r i) [
        | yes e ↦
            rows_kept n (placed_row t places i) (suc i) (λ q a b h. let z = only q (omega arith) (omega arith) h in omega arith)
            ∙ row_placed places i (rw e at has) room
            ∙ sym e
        | no d ↦
            row_found n (placed_row t places i) (suc i) r (omega (arith, length_placed t places i)) (omega arith) (omega arith) has
            (λ q a b h. only q (omega arith) (omega arith) h)
      ]
