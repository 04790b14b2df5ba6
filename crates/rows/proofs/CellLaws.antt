-- The laws of a cell of a table: where it stands among the numbers, and what is read where one was set.
use Prim.Native.Nat.{ℕ, zero, suc, ◌+◌, ◌*◌, ◌≤◌, ◌<◌}
use mathlib.Core.Path.{◌≡◌, refl, sym, ap, ◌∙◌}
use mathlib.Core.Logic.{◌≢◌}
use mathlib.Core.List.{List, [], ◌∷◌, ◌++◌}
use native.Mathlib.Nat.{zero-add, suc-add}
use native.Mathlib.Decide.{ℕ_discrete}
use native.Mathlib.Omega.{arith}
use lib.ListN.{length, get_or, set, take, drop, replicate, length-set, get_or-eq_default}
use lib.Seq.{length-take-le, get_or-take, get_or-drop, get_or-set_same, get_or-set_other, set-append_left, set_out}
use Rattle.rows.specs.Columns.{ROW}
use Rattle.rows.specs.Table.{whole_rows, row_at, cell_at, with_cell}
use Rattle.rows.proofs.RowLaws.{inside_or_not, row_inside, row_outside, with_row_inside, with_row_outside, length_row, length_with_row, split_row, with_own_row, row_same, row_other}

set_append_add : (p s : List ℕ) (i v : ℕ) → set (p ++ s) (length p + i) v ≡ p ++ set s i v
set_append_add [] s i v = rw zero-add
set_append_add (x ∷ p) s i v = rw suc-add (ap (λ (l : List ℕ). x ∷ l) (set_append_add p s i v))

pub get_or_zeros : (n i : ℕ) → get_or {A = ℕ} (replicate n 0) i 0 ≡ 0
get_or_zeros zero i = refl
get_or_zeros (suc n) zero = refl
get_or_zeros (suc n) (suc i) = get_or_zeros n i

-- zeros behind a list change no number of it
pub get_or_padded : (l : List ℕ) (m i : ℕ) → get_or (l ++ replicate m 0) i 0 ≡ get_or l i 0
get_or_padded [] m i = get_or_zeros m i
get_or_padded (x ∷ l) m zero = refl
get_or_padded (x ∷ l) m (suc i) = get_or_padded l m i

module _ (t : List ℕ) (n c : ℕ) where
  -- ---- a cell inside, one of no row, and one past its row

  pub cell_inside : n < whole_rows t → c < ROW → get_or t (n * ROW + c) 0 ≡ cell_at t n c
  cell_inside h k = sym (rw (row_inside t n h) (get_or-take ROW (drop (n * ROW) t) c 0 k ∙ get_or-drop (n * ROW) t c 0))

  pub cell_outside : whole_rows t ≤ n → cell_at t n c ≡ 0
  cell_outside h = rw (row_outside t n h) (get_or_zeros ROW c)

  pub cell_past : ROW ≤ c → cell_at t n c ≡ 0
  cell_past k = get_or-eq_default (row_at t n) 0 (rw (length_row t n) k)

  module _ (v : ℕ) where
    pub with_cell_inside : n < whole_rows t → c < ROW → set t (n * ROW + c) v ≡ with_cell t n c v
    unfolding with_cell
    with_cell_inside h k =
        let p : List ℕ = take (n * ROW) t in
        let z : List ℕ = drop (n * ROW + ROW) t in
        let e : length p ≡ n * ROW = length-take-le (n * ROW) t (omega arith) in
        ap (λ (u : List ℕ). set u (n * ROW + c) v) (split_row t n h)
        ∙ ap (λ (i : ℕ). set (p ++ (row_at t n ++ z)) (i + c) v) (sym e)
        ∙ set_append_add p (row_at t n ++ z) c v
        ∙ ap (λ (u : List ℕ). p ++ u) (set-append_left (row_at t n) z c v (rw (length_row t n) k))
        ∙ sym (with_row_inside t n (set (row_at t n) c v) h)

    pub with_cell_outside : whole_rows t ≤ n → with_cell t n c v ≡ t
    unfolding with_cell
    with_cell_outside h = with_row_outside t n (set (row_at t n) c v) h

    pub with_cell_past : ROW ≤ c → with_cell t n c v ≡ t
    unfolding with_cell
    with_cell_past k = rw (set_out (row_at t n) c v (rw (length_row t n) k)) (with_own_row t n)

    -- ---- reading where a cell was set

    length_set_row : length (set (row_at t n) c v) ≡ ROW
    length_set_row = length-set (row_at t n) c v ∙ length_row t n

    -- a cell set keeps the table's length
    pub length_with_cell : length (with_cell t n c v) ≡ length t
    unfolding with_cell
    length_with_cell = length_with_row t n (set (row_at t n) c v) length_set_row

    -- in its row only that cell changes
    pub row_with_cell : n < whole_rows t → row_at (with_cell t n c v) n ≡ set (row_at t n) c v
    unfolding with_cell
    row_with_cell h = row_same t n (set (row_at t n) c v) length_set_row h

    -- what was set is read
    pub cell_same : n < whole_rows t → c < ROW → cell_at (with_cell t n c v) n c ≡ v
    cell_same h k = rw (row_with_cell h) (get_or-set_same (row_at t n) c v 0 (rw (length_row t n) k))

    -- the other rows stay
    pub row_beside_cell : (m : ℕ) → m ≢ n → row_at (with_cell t n c v) m ≡ row_at t m
    unfolding with_cell
    row_beside_cell m d = row_other t n (set (row_at t n) c v) length_set_row m d

    -- the other columns stay
    pub cell_beside : (m d : ℕ) → d ≢ c → cell_at (with_cell t n c v) m d ≡ cell_at t m d
    cell_beside m d e = go (ℕ_discrete m n)
      where
        go : Dec (m ≡ n) → cell_at (with_cell t n c v) m d ≡ cell_at t m d
        go (yes f) =
            inside_or_not t n
            (λ h. rw (f, row_with_cell h) (get_or-set_other (row_at t n) c d v 0 e))
            (λ h. ap (λ (u : List ℕ). cell_at u m d) (with_cell_outside h))
        go (no f) = ap (λ (r : List ℕ). get_or r d 0) (row_beside_cell m f)
