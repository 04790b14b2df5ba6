-- Which numbers a map of `question_kinds` holds, in terms of rows; and where every question has a number of its own, the map tells its kind
-- (document 02, W-202).
use Prim.Native.Nat.{ℕ, zero, suc, ◌+◌, ◌≤◌, ◌<◌}
use native.Mathlib.Decide.{ℕ_discrete}
use native.Mathlib.Omega.{arith}
use mathlib.Core.Path.{◌≡◌, refl, sym, ◌∙◌}
use mathlib.Core.Bool.{Bool, true, false, true≢false, not, cond, ◌||◌, or-false, or-true}
use mathlib.Core.Logic.{◌↔◌}
use mathlib.Core.List.{List, [], ◌∷◌, ◌++◌}
use borrow.Author.Tests.{eq-eqb, eqb-true, not-true}
use lib.Dec.{eqb}
use Rattle.numbers.specs.Numbers.{used, is_number, mem, distinct}
use Rattle.numbers.proofs.Lists.{mem_append}
use Rattle.numbers.proofs.Ranges.{and_yes}
use Rattle.rows.specs.Codes.{is_question}
use Rattle.rows.specs.Columns as column
use Rattle.rows.specs.Table.{cell_at}
use Rattle.rows.specs.Rows.{rows_from}
use Rattle.question_kinds.specs.Kinds.{own_in, owns_in, own_at, table_owns, kind_map, Bears}
use Rattle.question_kinds.proofs.Marks.{kinds_held}

or_yes : {P : Type 0} (a b : Bool) → (a || b) ≡ true → (a ≡ true → P) → (b ≡ true → P) → P
or_yes true b e f g = f refl
or_yes false b e f g = g e

-- ---- the rows of the kinds that a test holds of

module _ (test : ℕ → Bool) (t : List ℕ) where
  -- one of the m rows from i on is of these kinds, and k is its own number
  record From (i m k : ℕ) : Type 0 where
    row : ℕ
    up : i ≤ row
    below : row < i + m
    kind : test (cell_at t row column.CODE) ≡ true
    own : cell_at t row column.OWN ≡ k

  -- row i
  first : (i k : ℕ) → mem k (own_at test t i) ≡ true → (test (cell_at t i column.CODE) ≡ true) × (cell_at t i column.OWN ≡ k)
  unfolding own_in mem
  first i k = go (test (cell_at t i column.CODE)) refl
    where
      go : (b : Bool) → test (cell_at t i column.CODE) ≡ b → mem k (cond b (cell_at t i column.OWN ∷ []) []) ≡ true
          → (test (cell_at t i column.CODE) ≡ true) × (cell_at t i column.OWN ≡ k)
      go true e h = (e, sym (eqb-true k _ (sym (or-false (eqb k (cell_at t i column.OWN))) ∙ h)))
      go false e h = absurd (true≢false (sym h))

  own_first : (i k : ℕ) → test (cell_at t i column.CODE) ≡ true → cell_at t i column.OWN ≡ k → mem k (own_at test t i) ≡ true
  unfolding own_in mem
  own_first i k e o = rw (e, o, eq-eqb k k refl)

  mem_next : (m i k : ℕ) → mem k (owns_in test (rows_from t i (suc m))) ≡ (mem k (own_at test t i) || mem k (owns_in test (rows_from t (i + 1) m)))
  unfolding owns_in rows_from
  mem_next m i k = mem_append k (own_at test t i) (owns_in test (rows_from t (i + 1) m))

  mem_from : (m i k : ℕ) → mem k (owns_in test (rows_from t i m)) ≡ true → From i m k
  unfolding owns_in rows_from mem
  mem_from zero i k h = absurd (true≢false (sym h))
  mem_from (suc m) i k h =
      or_yes (mem k (own_at test t i)) (mem k (owns_in test (rows_from t (i + 1) m))) (sym (mem_next m i k) ∙ h)
      (λ e. let u = first i k e in record { row = i; up = omega arith; below = omega arith; kind = u.0; own = u.1 })
      (λ e.
      let u = mem_from m (i + 1) k e in
      record { row = u.row; up = omega (arith, u.up); below = omega (arith, u.below); kind = u.kind; own = u.own })

  later : {i m k : ℕ} (u : From i (suc m) k) → (u.row ≡ i → ⊥) → From (i + 1) m k
  later {i} u d =
      let l : i + 1 ≤ u.row = omega (arith, u.up, d) in
      record { row = u.row; up = l; below = omega (arith, u.below); kind = u.kind; own = u.own }

  from_mem : (m i k : ℕ) → From i m k → mem k (owns_in test (rows_from t i m)) ≡ true
  from_mem zero i k u = absurd (omega (arith, u.up, u.below))
  from_mem (suc m) i k u =
      mem_next m i k
      ∙ elim (ℕ_discrete u.row i) [
        | yes e ↦ rw (own_first i k (rw e at u.kind) (rw e at u.own))
        | no d ↦ rw (from_mem m (i + 1) k (later u d), or-true (mem k (own_at test t i)))
      ]

  module _ (count k : ℕ) where
    pub mem_bears : (mem k (table_owns test t count) ≡ true) ↔ Bears test t count k
    mem_bears = (
      λ h. let u = mem_from count 0 k h in record { row = u.row; inside = omega (arith, u.below); kind = u.kind; own = u.own },
      λ b. from_mem count 0 k (record { row = b.row; up = omega arith; below = omega (arith, b.inside); kind = b.kind; own = b.own }),
    )

    -- a map that was empty holds a question number exactly where a row of these kinds bears it
    pub kind_held : is_number k ≡ true → (used (kind_map test t count) k ≡ true) ↔ Bears test t count k
    kind_held e =
        let same : used (kind_map test t count) k ≡ mem k (table_owns test t count) = kinds_held test t count k ∙ rw e in
        rw same mem_bears

  -- ---- numbers of their own

  next_distinct :
      (m i : ℕ) → distinct (owns_in test (rows_from t i (suc m))) ≡ true
      → (distinct (owns_in test (rows_from t (i + 1) m)) ≡ true)
      × (test (cell_at t i column.CODE) ≡ true → mem (cell_at t i column.OWN) (owns_in test (rows_from t (i + 1) m)) ≡ false)
  unfolding owns_in rows_from own_in distinct
  next_distinct m i h = go (test (cell_at t i column.CODE)) h
    where
      rest : List ℕ
      rest = owns_in test (rows_from t (i + 1) m)

      go : (b : Bool) → distinct (cond b (cell_at t i column.OWN ∷ []) [] ++ rest) ≡ true
          → (distinct rest ≡ true) × (b ≡ true → mem (cell_at t i column.OWN) rest ≡ false)
      go true h = let z = and_yes (not (mem (cell_at t i column.OWN) rest)) (distinct rest) h in (z.1, λ e. not-true _ z.0)
      go false h = (h, λ e. absurd (true≢false (sym e)))

  -- where no number stands twice, one row has it
  from_one : (m i k : ℕ) → distinct (owns_in test (rows_from t i m)) ≡ true → (u v : From i m k) → u.row ≡ v.row
  unfolding later
  from_one zero i k h u v = absurd (omega (arith, u.up, u.below))
  from_one (suc m) i k h u v =
      elim (ℕ_discrete u.row i) [
        | yes e ↦ elim (ℕ_discrete v.row i) [ yes f ↦ e ∙ sym f | no f ↦ absurd (apart u e (later v f)) ]
        | no e ↦ elim (ℕ_discrete v.row i) [ yes f ↦ absurd (apart v f (later u e)) | no f ↦ from_one m (i + 1) k next.0 (later u e) (later v f) ]
      ]
    where
      next : (distinct (owns_in test (rows_from t (i + 1) m)) ≡ true)
          × (test (cell_at t i column.CODE) ≡ true → mem (cell_at t i column.OWN) (owns_in test (rows_from t (i + 1) m)) ≡ false)
      next = next_distinct m i h

      apart : (w : From i (suc m) k) → w.row ≡ i → From (i + 1) m k → ⊥
      apart w e x =
          let none : mem k (owns_in test (rows_from t (i + 1) m)) ≡ false = rw (rw e at w.own) at (next.1 (rw e at w.kind)) in
          true≢false (sym (from_mem m (i + 1) k x) ∙ none)

  -- two rows among the first `count`
  pub row_of_number :
      (count : ℕ) → distinct (table_owns test t count) ≡ true
      → {i j : ℕ} → i < count → j < count → test (cell_at t i column.CODE) ≡ true → test (cell_at t j column.CODE) ≡ true
      → cell_at t i column.OWN ≡ cell_at t j column.OWN → i ≡ j
  row_of_number count h {i} {j} a b e f o =
      from_one count 0 (cell_at t j column.OWN) h
      (record { row = i; up = omega arith; below = omega arith; kind = e; own = o })
      (record { row = j; up = omega arith; below = omega arith; kind = f; own = refl })

-- where every question has a number of its own, the map of a kind of questions tells whether a question is of it
pub kind_told :
    (kind : ℕ → Bool) → ((c : ℕ) → kind c ≡ true → is_question c ≡ true)
    → (t : List ℕ) (count : ℕ) → distinct (table_owns is_question t count) ≡ true
    → (i : ℕ) → i < count → is_question (cell_at t i column.CODE) ≡ true → is_number (cell_at t i column.OWN) ≡ true
    → used (kind_map kind t count) (cell_at t i column.OWN) ≡ kind (cell_at t i column.CODE)
kind_told kind asks t count h i l q e = go (kind (cell_at t i column.CODE)) refl (used map own) refl
  where
    own : ℕ
    own = cell_at t i column.OWN

    map : List ℕ
    map = kind_map kind t count

    go : (b : Bool) → kind (cell_at t i column.CODE) ≡ b → (a : Bool) → used map own ≡ a → a ≡ b
    go true f true g = refl
    go false f false g = refl
    go true f false g =
        absurd (true≢false (sym ((kind_held kind t count own e).1 (record { row = i; inside = l; kind = f; own = refl })) ∙ g))
    go false f true g =
        let u = (kind_held kind t count own e).0 g in
        let same : u.row ≡ i = row_of_number is_question t count h u.inside l (asks _ u.kind) q u.own in
        absurd (true≢false (sym (rw same at u.kind) ∙ f))
