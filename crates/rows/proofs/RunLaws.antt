-- The laws of a run of rows: read from a table, and written into one.
use Prim.Native.Nat.{ℕ, zero, suc, ◌+◌, ◌-◌, ◌*◌, ◌≤◌, ◌<◌}
use mathlib.Core.Path.{◌≡◌, refl, ap, ◌∙◌}
use mathlib.Core.Logic.{◌≢◌}
use mathlib.Core.List.{List, [], ◌∷◌, ◌++◌, flatten, append-nil}
use native.Mathlib.Nat.{add-zero, zero-add, suc-add}
use native.Mathlib.Omega.{arith}
use lib.ListN.{length, get_or, drop, length-append, length-drop}
use lib.Seq.{append_snoc, drop-drop, drop_at}
use Rattle.rows.specs.Columns.{ROW}
use Rattle.rows.specs.Table.{whole_rows, row_at, with_row}
use Rattle.rows.specs.Rows.{AreRows, no_rows, add_row, rows_from, put}
use Rattle.rows.proofs.RowLaws.{length_row, length_with_row, with_row_outside, with_own_row, row_same, row_other}
use Rattle.rows.proofs.FlatLaws.{are_rows_append, length_flatten, row_flat, next_row_flat}

-- ---- rows read

module _ (t : List ℕ) where
  pub length_rows_from : (n m : ℕ) → length (rows_from t n m) ≡ m
  unfolding rows_from
  length_rows_from n zero = refl
  length_rows_from n (suc m) = ap suc (length_rows_from (n + 1) m)

  pub are_rows_from : (n m : ℕ) → AreRows (rows_from t n m)
  unfolding rows_from
  are_rows_from n zero = no_rows
  are_rows_from n (suc m) = add_row (length_row t n) (are_rows_from (n + 1) m)

  pub row_of_run : (n m i : ℕ) → i < m → get_or (rows_from t n m) i [] ≡ row_at t (n + i)
  unfolding rows_from
  row_of_run n zero i h = absurd (omega arith)
  row_of_run n (suc m) zero h = rw add-zero
  row_of_run n (suc m) (suc i) h = let e : n + suc i ≡ n + 1 + i = omega arith in rw e (row_of_run (n + 1) m i (omega arith))

  pub rows_append : (n m k : ℕ) → rows_from t n (m + k) ≡ rows_from t n m ++ rows_from t (n + m) k
  unfolding rows_from
  rows_append n zero k = rw (zero-add, add-zero)
  rows_append n (suc m) k =
      let e : n + suc m ≡ n + 1 + m = omega arith in
      rw (suc-add m k, e) (ap (λ (rs : List (List ℕ)). row_at t n ∷ rs) (rows_append (n + 1) m k))

  -- a loop over the rows below m: what is left at row n
  pub rows_next : (n m : ℕ) → n < m → rows_from t n (m - n) ≡ row_at t n ∷ rows_from t (n + 1) (m - (n + 1))
  unfolding rows_from
  rows_next n m h = let e : m - n ≡ suc (m - (n + 1)) = omega arith in rw e

  pub rows_end : (n m : ℕ) → m ≤ n → rows_from t n (m - n) ≡ []
  unfolding rows_from
  rows_end n m h = let e : m - n ≡ 0 = omega arith in rw e

  -- where row n + i is the i-th row of a list
  pub rows_are : (rs : List (List ℕ)) (n : ℕ) → ((i : ℕ) → i < length rs → row_at t (n + i) ≡ get_or rs i []) → rows_from t n (length rs) ≡ rs
  unfolding rows_from
  rows_are [] n d = refl
  rows_are (r ∷ rs) n d =
      let first : row_at t n ≡ r = rw add-zero at (d 0 (omega arith)) in
      let more : (i : ℕ) → i < length rs → row_at t (n + 1 + i) ≡ get_or rs i [] =
      λ i h. let e : n + 1 + i ≡ n + suc i = omega arith in rw e (d (suc i) (omega arith)) in
      rw (first, rows_are rs (n + 1) more)

  -- a row written changes none of the rows past it
  pub rows_past : (k : ℕ) (r : List ℕ) → length r ≡ ROW → (n m : ℕ) → k < n → rows_from (with_row t k r) n m ≡ rows_from t n m
  unfolding rows_from
  rows_past k r l n zero h = refl
  rows_past k r l n (suc m) h = rw (row_other t k r l n (λ e. omega arith), rows_past k r l (n + 1) m (omega arith))

-- ---- rows written

pub put_append : (rs qs : List (List ℕ)) (t : List ℕ) (n : ℕ) → put t n (rs ++ qs) ≡ put (put t n rs) (n + length rs) qs
unfolding put
put_append [] qs t n = rw add-zero
put_append (r ∷ rs) qs t n =
    let e : n + 1 + length rs ≡ n + suc (length rs) = omega arith in
    put_append rs qs (with_row t n r) (n + 1) ∙ rw e

pub length_put : {rs : List (List ℕ)} → AreRows rs → (t : List ℕ) (n : ℕ) → length (put t n rs) ≡ length t
unfolding put
length_put no_rows t n = refl
length_put (add_row {r = r} l w) t n = length_put w (with_row t n r) (n + 1) ∙ length_with_row t n r l

-- no row fits
pub put_outside : (rs : List (List ℕ)) (t : List ℕ) (n : ℕ) → whole_rows t ≤ n → put t n rs ≡ t
unfolding put
put_outside [] t n h = refl
put_outside (r ∷ rs) t n h = rw (with_row_outside t n r h) (put_outside rs t (n + 1) (omega arith))

-- rows written over themselves
pub put_own : (t : List ℕ) (n m : ℕ) → put t n (rows_from t n m) ≡ t
unfolding put rows_from
put_own t n zero = refl
put_own t n (suc m) = ap (λ (u : List ℕ). put u (n + 1) (rows_from t (n + 1) m)) (with_own_row t n) ∙ put_own t (n + 1) m

-- ---- reading where rows were written

-- the other rows stay
pub row_beside_put : {rs : List (List ℕ)} → AreRows rs → (t : List ℕ) (n m : ℕ) → ((i : ℕ) → i < length rs → m ≢ n + i) → row_at (put t n rs) m ≡ row_at t m
unfolding put
row_beside_put no_rows t n m d = refl
row_beside_put (add_row {r = r} l w) t n m d =
    row_beside_put w (with_row t n r) (n + 1) m (λ i h e. d (suc i) (omega arith) (omega arith))
    ∙ row_other t n r l m (λ e. d 0 (omega arith) (omega arith))

pub row_put : {rs : List (List ℕ)} → AreRows rs → (t : List ℕ) (n i : ℕ) → i < length rs → n + i < whole_rows t → row_at (put t n rs) (n + i) ≡ get_or rs i []
unfolding put
row_put no_rows t n i h k = absurd (omega arith)
row_put (add_row {r = r} l w) t n zero h k =
    rw (add-zero n)
    (row_beside_put w (with_row t n r) (n + 1) n (λ i j e. omega arith) ∙ row_same t n r l (omega arith))
row_put (add_row {r = r} l w) t n (suc i) h k =
    let e : n + suc i ≡ n + 1 + i = omega arith in
    rw e (row_put w (with_row t n r) (n + 1) i (omega arith) (rw (length_with_row t n r l) (omega arith)))

pub rows_put : {rs : List (List ℕ)} → AreRows rs → (t : List ℕ) (n : ℕ) → n + length rs ≤ whole_rows t → rows_from (put t n rs) n (length rs) ≡ rs
rows_put {rs} w t n h = rows_are (put t n rs) rs n (λ i k. row_put w t n i k (omega arith))

-- ---- tables that start with rows

pub rows_flat : {rs : List (List ℕ)} → AreRows rs → (z : List ℕ) → rows_from (flatten rs ++ z) 0 (length rs) ≡ rs
rows_flat {rs} w z = rows_are (flatten rs ++ z) rs 0 (λ i k. rw (zero-add i) (row_flat w z i k))

-- rows written past those that a table starts with, where they fit
pub put_flat : {rs qs : List (List ℕ)} → AreRows rs → AreRows qs → (z : List ℕ) → length qs * ROW ≤ length z
    → put (flatten rs ++ z) (length rs) qs ≡ flatten (rs ++ qs) ++ drop (length qs * ROW) z
unfolding put
put_flat {rs = rs} w no_rows z h = rw (append-nil rs)
put_flat {rs = rs} w (add_row {r = q} {rs = qs} l v) z h =
    let n : length (rs ++ (q ∷ [])) ≡ length rs + 1 = length-append rs (q ∷ []) in
    let m : suc (length qs) * ROW ≡ ROW + length qs * ROW = omega arith in
    rw (next_row_flat w z q (omega arith), ← n, ← append_snoc rs q qs, m, ← drop-drop (length qs * ROW) ROW z)
    (put_flat (are_rows_append w (add_row l no_rows)) v (drop ROW z) (simp length-drop (omega arith)))

-- rows written at the start, where they fit
pub put_fits : {rs : List (List ℕ)} → AreRows rs → (t : List ℕ) → length rs ≤ whole_rows t → put t 0 rs ≡ flatten rs ++ drop (length rs * ROW) t
unfolding flatten
put_fits w t h = put_flat no_rows w t (omega arith)

-- as many rows written again
pub put_twice : {rs qs : List (List ℕ)} → AreRows rs → AreRows qs → length rs ≡ length qs → (t : List ℕ) → length rs ≤ whole_rows t → put (put t 0 rs) 0 qs ≡ put t 0 qs
put_twice {rs} {qs} w v e t h =
    let z : List ℕ = drop (length rs * ROW) t in
    rw (put_fits w t h, put_fits v (flatten rs ++ z) (simp (length-append, length_flatten w, length-drop) (omega arith)), put_fits v t (omega arith), ← e)
    (ap (λ (u : List ℕ). flatten qs ++ u) (drop_at (flatten rs) z (length rs * ROW) (length_flatten w)))
