-- The laws of a table that holds rows and then zeros.
use Prim.Native.Nat.{ℕ, zero, suc, ◌+◌, ◌-◌, ◌*◌, ◌≤◌, ◌<◌}
use mathlib.Core.Path.{◌≡◌, sym, ap, ◌∙◌}
use mathlib.Core.List.{List, [], ◌∷◌, ◌++◌, flatten}
use native.Mathlib.Nat.{sub-zero, le_of_suc-le-suc, not-suc-le-zero}
use native.Mathlib.Decide.{dec_lt}
use native.Mathlib.Omega.{arith}
use lib.ListN.{length, get_or, drop, replicate, length-append, length-replicate, get_or-eq_default}
use lib.Seq.{take_at}
use Rattle.rows.specs.Columns.{ROW}
use Rattle.rows.specs.Table.{whole_rows, row_at, cell_at, cleared}
use Rattle.rows.specs.Rows.{AreRows, put, laid}
use Rattle.rows.proofs.RowLaws.{inside_or_not}
use Rattle.rows.proofs.CellLaws.{get_or_zeros, cell_inside, cell_outside, cell_past}
use Rattle.rows.proofs.FlatLaws.{length_flatten, row_flat, cell_flat}
use Rattle.rows.proofs.RunLaws.{length_put, put_fits}

-- no rows, as after a refusal
pub laid_none : (n : ℕ) → laid [] n ≡ replicate n 0
unfolding laid flatten
laid_none n = rw sub-zero

get_or_past : (p : List ℕ) (n i : ℕ) → length p ≤ i → get_or (p ++ replicate n 0) i 0 ≡ 0
get_or_past [] n i h = get_or_zeros n i
get_or_past (x ∷ p) n zero h = absurd (not-suc-le-zero h)
get_or_past (x ∷ p) n (suc i) h = get_or_past p n i (le_of_suc-le-suc h)

module _ {rs : List (List ℕ)} (w : AreRows rs) where
  pub length_laid : (n : ℕ) → length rs * ROW ≤ n → length (laid rs n) ≡ n
  unfolding laid
  length_laid n h = simp (length-append, length-replicate, length_flatten w) (omega arith)

  pub row_laid : (n i : ℕ) → i < length rs → row_at (laid rs n) i ≡ get_or rs i []
  unfolding laid
  row_laid n i h = row_flat w (replicate (n - length (flatten rs)) 0) i h

  -- every cell is that of the row; 0 past the rows
  pub cell_laid : (n i c : ℕ) → cell_at (laid rs n) i c ≡ get_or (get_or rs i []) c 0
  unfolding laid
  cell_laid n i c = go (dec_lt i (length rs)) (dec_lt c ROW)
    where
      z : List ℕ
      z = replicate (n - length (flatten rs)) 0

      t : List ℕ
      t = flatten rs ++ z

      none : length rs ≤ i → cell_at t i c ≡ 0 → cell_at t i c ≡ get_or (get_or rs i []) c 0
      none h e = rw (get_or-eq_default rs [] h) e

      go : Dec (i < length rs) → Dec (c < ROW) → cell_at t i c ≡ get_or (get_or rs i []) c 0
      go (yes h) k = cell_flat w z i h c
      go (no h) (no k) = none (omega arith) (cell_past t i c (omega arith))
      go (no h) (yes k) =
          let past : length (flatten rs) ≤ i * ROW + c = omega (arith, length_flatten w) in
          none (omega arith)
          (inside_or_not t i
          (λ j. sym (cell_inside t i c j k) ∙ get_or_past (flatten rs) (n - length (flatten rs)) (i * ROW + c) past)
          (λ j. cell_outside t i c j))

  -- a table that starts with rows, cleared past them
  pub cleared_flat : (z : List ℕ) → cleared (flatten rs ++ z) (length rs * ROW) ≡ laid rs (length (flatten rs ++ z))
  unfolding cleared laid
  cleared_flat z = rw (take_at (flatten rs) z (length rs * ROW) (length_flatten w), length_flatten w)

  -- rows written at the start and cleared past them
  pub put_cleared : (t : List ℕ) → length rs ≤ whole_rows t → cleared (put t 0 rs) (length rs * ROW) ≡ laid rs (length t)
  put_cleared t h =
      ap (λ (u : List ℕ). cleared u (length rs * ROW)) (put_fits w t h)
      ∙ cleared_flat (drop (length rs * ROW) t)
      ∙ ap (laid rs) (ap length (sym (put_fits w t h)) ∙ length_put w t 0)
