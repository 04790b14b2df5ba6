-- Draft rows held by a table: each with its code and its parent, a rule's with its own number, and as the row that is found at its place.
-- Assumes nothing.
use Prim.Native.Nat.{ℕ, zero, suc, ◌+◌, ◌<◌}
use native.Mathlib.Omega.{arith}
use mathlib.Core.Path.{◌≡◌}
use mathlib.Core.List.{List, [], ◌∷◌, ◌++◌}
use lib.ListN.{length, get_or}
use Rattle.rows.specs.Codes as code
use Rattle.rows.specs.Columns as column
use Rattle.rows.specs.Table.{row_at, cell_at}
use Rattle.answers.specs.Rows.{Draft}

module _ (t : List ℕ) (found : ℕ → List ℕ) where
  pub record RowHeld (d : Draft) (i : ℕ) : Type 0 where
    pub code_is : cell_at t i column.CODE ≡ get_or d.row column.CODE 0
    pub parent_is : cell_at t i column.PARENT ≡ get_or d.row column.PARENT 0
    pub own_is : get_or d.row column.CODE 0 ≡ code.RULE → cell_at t i column.OWN ≡ get_or d.row column.OWN 0
    pub row_is : row_at t i ≡ found (get_or d.row column.PLACE 0)

  -- the rows from i on
  pub data Held : List Draft → ℕ → Type 0 where
    held_none : {i : ℕ} → Held [] i
    held_more : {d : Draft} {ds : List Draft} {i : ℕ} → RowHeld d i → Held ds (suc i) → Held (d ∷ ds) i

  pub held_parts : (a : List Draft) {b : List Draft} {i : ℕ} → Held (a ++ b) i → Held a i × Held b (i + length a)
  held_parts [] {b} {i} h = let e : i ≡ i + 0 = omega arith in (held_none, rw e at h)
  held_parts (d ∷ a) {b} {i} (held_more r h) =
      let q = held_parts a h in
      let e : suc i + length a ≡ i + suc (length a) = omega arith in
      (held_more r q.0, rw e at q.1)

  pub first_held : {d : Draft} {ds : List Draft} {i : ℕ} → Held (d ∷ ds) i → RowHeld d i
  first_held (held_more r h) = r

  pub rest_held : {d : Draft} {ds : List Draft} {i : ℕ} → Held (d ∷ ds) i → Held ds (suc i)
  rest_held (held_more r h) = h

  -- one of them
  pub held_at : {ds : List Draft} {i : ℕ} → Held ds i → (k : ℕ) (d : Draft) → k < length ds → RowHeld (get_or ds k d) (i + k)
  held_at held_none k d l = absurd (omega arith)
  held_at {i = i} (held_more r h) zero d l = let e : i + 0 ≡ i = omega arith in rw e r
  held_at {i = i} (held_more r h) (suc k) d l = let e : i + suc k ≡ suc i + k = omega arith in rw e (held_at h k d (omega arith))
