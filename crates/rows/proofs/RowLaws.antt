-- The laws of a row of a table: what is read where a row was written.
use Prim.Native.Nat.{ℕ, ◌+◌, ◌-◌, ◌*◌, ◌≤◌, ◌<◌}
use mathlib.Core.Path.{◌≡◌, sym, ap, ◌∙◌}
use mathlib.Core.Logic.{◌≢◌}
use mathlib.Core.List.{List, ◌++◌, append_assoc}
use native.Mathlib.Decide.{dec_lt}
use native.Mathlib.Omega.{arith}
use borrow.Author.Tests.{lt-ltb, le-ltb}
use lib.ListN.{length, take, drop, replicate, length-append, length-take, length-drop, take-append-drop}
use lib.Seq.{paste, length-take-le, take_all, take-append-le, drop-append-le, drop-append-add, take_at, drop_at, take-add}
use Rattle.rows.specs.Columns.{ROW}
use Rattle.rows.specs.Table.{whole_rows, row_at, with_row}

-- ---- a row inside the table, and one outside

module _ (t : List ℕ) (n : ℕ) where
  pub inside_or_not : {P : Type 0} → (n < whole_rows t → P) → (whole_rows t ≤ n → P) → P
  inside_or_not {P} f g = go (dec_lt n (whole_rows t))
    where
      go : Dec (n < whole_rows t) → P
      go (yes h) = f h
      go (no h) = g (omega arith)

  pub row_inside : n < whole_rows t → row_at t n ≡ take ROW (drop (n * ROW) t)
  unfolding row_at
  row_inside h = rw (lt-ltb n (whole_rows t) h)

  pub row_outside : whole_rows t ≤ n → row_at t n ≡ replicate ROW 0
  unfolding row_at
  row_outside h = rw (le-ltb n (whole_rows t) h)

  pub with_row_inside : (r : List ℕ) → n < whole_rows t → with_row t n r ≡ take (n * ROW) t ++ (r ++ drop (n * ROW + ROW) t)
  unfolding with_row
  with_row_inside r h = rw (lt-ltb n (whole_rows t) h)

  pub with_row_outside : (r : List ℕ) → whole_rows t ≤ n → with_row t n r ≡ t
  unfolding with_row
  with_row_outside r h = rw (le-ltb n (whole_rows t) h)

  -- a row written number by number
  pub pasted_row : (r : List ℕ) → n < whole_rows t → length r ≡ ROW → paste t (n * ROW) r ROW ≡ with_row t n r
  pasted_row r h l =
      rw (take_all ROW r (omega arith), append_assoc (take (n * ROW) t) r (drop (n * ROW + ROW) t)) (sym (with_row_inside r h))

  -- every row has ROW numbers
  pub length_row : length (row_at t n) ≡ ROW
  length_row =
      inside_or_not
      (λ h. rw (row_inside h) (simp (length-take, length-drop) (omega arith)))
      (λ h. rw (row_outside h))

  -- a row written keeps the table's length
  pub length_with_row : (r : List ℕ) → length r ≡ ROW → length (with_row t n r) ≡ length t
  length_with_row r l =
      inside_or_not
      (λ h. rw (with_row_inside r h) (simp (length-append, length-take, length-drop) (omega arith)))
      (λ h. ap length (with_row_outside r h))

  -- the numbers before row n, the row and the numbers after it
  pub split_row : n < whole_rows t → t ≡ take (n * ROW) t ++ (row_at t n ++ drop (n * ROW + ROW) t)
  split_row h =
      rw (row_inside h, ← append_assoc (take (n * ROW) t) (take ROW (drop (n * ROW) t)) (drop (n * ROW + ROW) t), ← take-add (n * ROW) ROW t)
      (sym (take-append-drop (n * ROW + ROW) t))

  length_before : n < whole_rows t → length (take (n * ROW) t) ≡ n * ROW
  length_before h = length-take-le (n * ROW) t (omega arith)

-- ---- a table of which the parts are known: the numbers before row n, the row and the numbers after it

part_before : (p s z : List ℕ) (j k : ℕ) → j + k ≤ length p → take k (drop j (p ++ s)) ≡ take k (drop j (p ++ z))
part_before p s z j k h = go s ∙ sym (go z)
  where
    go : (u : List ℕ) → take k (drop j (p ++ u)) ≡ take k (drop j p)
    go u = rw (drop-append-le j p u (omega arith)) (take-append-le k (drop j p) u (simp length-drop (omega arith)))

part_after : (p s : List ℕ) (j k : ℕ) → length p + k ≡ j → drop j (p ++ s) ≡ drop k s
part_after p s j k e = rw (← e) (drop-append-add p s k)

module _ (p q z : List ℕ) (n : ℕ) (lp : length p ≡ n * ROW) (lq : length q ≡ ROW) where
  inside : n < whole_rows (p ++ (q ++ z))
  inside = simp length-append (omega arith)

  pub row_of_parts : row_at (p ++ (q ++ z)) n ≡ q
  row_of_parts = row_inside (p ++ (q ++ z)) n inside ∙ rw (drop_at p (q ++ z) (n * ROW) lp) (take_at q z ROW lq)

  pub with_row_of_parts : (r : List ℕ) → with_row (p ++ (q ++ z)) n r ≡ p ++ (r ++ z)
  with_row_of_parts r =
      with_row_inside (p ++ (q ++ z)) n r inside
      ∙ rw (take_at p (q ++ z) (n * ROW) lp, part_after p (q ++ z) (n * ROW + ROW) ROW (omega arith), drop_at q z ROW lq)

  -- another row in its place changes no other row
  row_beside_parts : (r : List ℕ) → length r ≡ ROW → (m : ℕ) → m ≢ n → row_at (p ++ (r ++ z)) m ≡ row_at (p ++ (q ++ z)) m
  unfolding row_at
  row_beside_parts r lr m d =
      let e : length (p ++ (r ++ z)) ≡ length (p ++ (q ++ z)) = simp length-append (omega arith) in
      rw (e, go (dec_lt m n))
    where
      past : (u : List ℕ) → length u ≡ ROW → n < m → drop (m * ROW) (p ++ (u ++ z)) ≡ drop (m * ROW - n * ROW - ROW) z
      past u lu h =
          part_after p (u ++ z) (m * ROW) (m * ROW - n * ROW) (omega arith)
          ∙ part_after u z (m * ROW - n * ROW) (m * ROW - n * ROW - ROW) (omega arith)

      go : Dec (m < n) → take ROW (drop (m * ROW) (p ++ (r ++ z))) ≡ take ROW (drop (m * ROW) (p ++ (q ++ z)))
      go (yes h) = part_before p (r ++ z) (q ++ z) (m * ROW) ROW (omega arith)
      go (no h) = rw (past r lr (omega arith), past q lq (omega arith))

-- ---- reading and writing rows

module _ (t : List ℕ) (n : ℕ) where
  -- a row written over itself
  pub with_own_row : with_row t n (row_at t n) ≡ t
  with_own_row =
      inside_or_not t n
      (λ h. with_row_inside t n (row_at t n) h ∙ sym (split_row t n h))
      (λ h. with_row_outside t n (row_at t n) h)

  module _ (r : List ℕ) (l : length r ≡ ROW) where
    -- what was written is read
    pub row_same : n < whole_rows t → row_at (with_row t n r) n ≡ r
    row_same h =
        rw (with_row_inside t n r h)
        (row_of_parts (take (n * ROW) t) r (drop (n * ROW + ROW) t) n (length_before t n h) l)

    -- the other rows stay
    pub row_other : (m : ℕ) → m ≢ n → row_at (with_row t n r) m ≡ row_at t m
    row_other m d =
        inside_or_not t n
        (λ h. rw (with_row_inside t n r h)
        (row_beside_parts (take (n * ROW) t) (row_at t n) (drop (n * ROW + ROW) t) n (length_before t n h) (length_row t n) r l m d)
        ∙ ap (λ (u : List ℕ). row_at u m) (sym (split_row t n h)))
        (λ h. ap (λ (u : List ℕ). row_at u m) (with_row_outside t n r h))

    -- of two rows written at one place the second stays
    pub with_row_twice : (q : List ℕ) → with_row (with_row t n r) n q ≡ with_row t n q
    with_row_twice q =
        inside_or_not t n
        (λ h. rw (with_row_inside t n r h)
        (with_row_of_parts (take (n * ROW) t) r (drop (n * ROW + ROW) t) n (length_before t n h) l q)
        ∙ sym (with_row_inside t n q h))
        (λ h. ap (λ (u : List ℕ). with_row u n q) (with_row_outside t n r h))

    -- a row written, read and written again with a change
    pub with_row_changed : (f : List ℕ → List ℕ) → with_row (with_row t n r) n (f (row_at (with_row t n r) n)) ≡ with_row t n (f r)
    with_row_changed f =
        inside_or_not t n
        (λ h. rw (row_same h) (with_row_twice (f r)))
        (λ h. rw (with_row_outside t n r h) (with_row_outside t n (f (row_at t n)) h ∙ sym (with_row_outside t n (f r) h)))
