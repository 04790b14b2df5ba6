-- The laws of rows one after another: a table that starts with them holds each at its number.
use Prim.Native.Nat.{ℕ, zero, suc, ◌*◌, ◌≤◌, ◌<◌}
use mathlib.Core.Path.{◌≡◌, refl, sym, ap, ◌∙◌}
use mathlib.Core.List.{List, [], ◌∷◌, ◌++◌, map, flatten, append_assoc}
use native.Mathlib.Nat.{le_of_suc-le-suc, not-suc-le-zero}
use native.Mathlib.Omega.{arith}
use lib.ListN.{length, get_or, set, take, drop, length-append, take-append-drop}
use lib.Seq.{length-take-le, split_at, set_split}
use Rattle.rows.specs.Columns.{ROW}
use Rattle.rows.specs.Table.{row_at, with_row, cell_at, with_cell}
use Rattle.rows.specs.Rows.{AreRows, no_rows, add_row}
use Rattle.rows.proofs.RowLaws.{row_of_parts, with_row_of_parts}

-- ---- each has ROW numbers

pub are_rows_append : {rs qs : List (List ℕ)} → AreRows rs → AreRows qs → AreRows (rs ++ qs)
are_rows_append no_rows v = v
are_rows_append (add_row l w) v = add_row l (are_rows_append w v)

pub are_rows_set : (i : ℕ) (r : List ℕ) → length r ≡ ROW → {rs : List (List ℕ)} → AreRows rs → AreRows (set rs i r)
are_rows_set i r l no_rows = no_rows
are_rows_set zero r l (add_row k w) = add_row l w
are_rows_set (suc i) r l (add_row k w) = add_row k (are_rows_set i r l w)

pub are_rows_map : (f : List ℕ → List ℕ) → ((r : List ℕ) → length r ≡ ROW → length (f r) ≡ ROW) → {rs : List (List ℕ)} → AreRows rs → AreRows (map f rs)
are_rows_map f h no_rows = no_rows
are_rows_map f h (add_row {r = r} l w) = add_row (h r l) (are_rows_map f h w)

are_rows_take : (i : ℕ) {rs : List (List ℕ)} → AreRows rs → AreRows (take i rs)
are_rows_take zero w = no_rows
are_rows_take (suc i) no_rows = no_rows
are_rows_take (suc i) (add_row l w) = add_row l (are_rows_take i w)

pub length_of_row : (i : ℕ) {rs : List (List ℕ)} → AreRows rs → i < length rs → length (get_or rs i []) ≡ ROW
length_of_row i no_rows h = absurd (not-suc-le-zero h)
length_of_row zero (add_row l w) h = l
length_of_row (suc i) (add_row l w) h = length_of_row i w (le_of_suc-le-suc h)

-- ---- rows one after another

pub flatten_append : (rs qs : List (List ℕ)) → flatten (rs ++ qs) ≡ flatten rs ++ flatten qs
unfolding flatten
flatten_append [] qs = refl
flatten_append (r ∷ rs) qs = rw (flatten_append rs qs) (sym (append_assoc r (flatten rs) (flatten qs)))

pub length_flatten : {rs : List (List ℕ)} → AreRows rs → length (flatten rs) ≡ length rs * ROW
unfolding flatten
length_flatten no_rows = refl
length_flatten (add_row {r = r} {rs = rs} l w) = length-append r (flatten rs) ∙ omega (arith, length_flatten w)

-- a row among others
flatten_parts : (ps : List (List ℕ)) (r : List ℕ) (qs : List (List ℕ)) (z : List ℕ) → flatten (ps ++ r ∷ qs) ++ z ≡ flatten ps ++ (r ++ (flatten qs ++ z))
unfolding flatten
flatten_parts ps r qs z = rw (flatten_append ps (r ∷ qs), append_assoc (flatten ps) (r ++ flatten qs) z, append_assoc r (flatten qs) z)

-- ---- a table that starts with rows

module _ {rs : List (List ℕ)} (w : AreRows rs) (z : List ℕ) (i : ℕ) (h : i < length rs) where
  length_ahead : length (flatten (take i rs)) ≡ i * ROW
  length_ahead = length_flatten (are_rows_take i w) ∙ rw (length-take-le i rs (omega arith))

  pub row_flat : row_at (flatten rs ++ z) i ≡ get_or rs i []
  row_flat =
      ap (λ (l : List (List ℕ)). row_at (flatten l ++ z) i) (split_at rs i [] h)
      ∙ rw (flatten_parts (take i rs) (get_or rs i []) (drop (suc i) rs) z)
      (row_of_parts (flatten (take i rs)) (get_or rs i []) (flatten (drop (suc i) rs) ++ z) i length_ahead (length_of_row i w h))

  pub with_row_flat : (r : List ℕ) → with_row (flatten rs ++ z) i r ≡ flatten (set rs i r) ++ z
  with_row_flat r =
      ap (λ (l : List (List ℕ)). with_row (flatten l ++ z) i r) (split_at rs i [] h)
      ∙ rw (flatten_parts (take i rs) (get_or rs i []) (drop (suc i) rs) z, set_split rs i r h, flatten_parts (take i rs) r (drop (suc i) rs) z)
      (with_row_of_parts (flatten (take i rs)) (get_or rs i []) (flatten (drop (suc i) rs) ++ z) i length_ahead (length_of_row i w h) r)

  pub cell_flat : (c : ℕ) → cell_at (flatten rs ++ z) i c ≡ get_or (get_or rs i []) c 0
  cell_flat c = ap (λ (r : List ℕ). get_or r c 0) row_flat

  pub with_cell_flat : (c v : ℕ) → with_cell (flatten rs ++ z) i c v ≡ flatten (set rs i (set (get_or rs i []) c v)) ++ z
  unfolding with_cell
  with_cell_flat c v = rw row_flat (with_row_flat (set (get_or rs i []) c v))

-- the next row, where it fits
pub next_row_flat : {rs : List (List ℕ)} → AreRows rs → (z r : List ℕ) → ROW ≤ length z
    → with_row (flatten rs ++ z) (length rs) r ≡ flatten (rs ++ (r ∷ [])) ++ drop ROW z
unfolding flatten
next_row_flat {rs} w z r h =
    ap (λ (u : List ℕ). with_row (flatten rs ++ u) (length rs) r) (sym (take-append-drop ROW z))
    ∙ with_row_of_parts (flatten rs) (take ROW z) (drop ROW z) (length rs) (length_flatten w) (length-take-le ROW z h) r
    ∙ sym (flatten_parts rs r [] (drop ROW z))
