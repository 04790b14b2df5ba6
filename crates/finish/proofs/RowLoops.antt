-- Loops that change the rows of a table one by one.
use Prim.Native.Nat.{ℕ, ◌+◌, ◌-◌, ◌≤◌, ◌<◌}
use mathlib.Core.Path.{◌≡◌, refl, sym, ap, ◌∙◌}
use mathlib.Core.List.{List, [], ◌∷◌, map}
use native.Mathlib.Omega.{arith}
use lib.ListN.{length, get_or, set, length-set}
use lib.Seq.{get_or-set_other}
use Rattle.rows.specs.Columns as column
use Rattle.rows.specs.Draft.{low_of}
use Rattle.rows.specs.Table.{row_at, with_row, with_cell, cell_at}
use Rattle.rows.specs.Rows.{rows_from, put}
use Rattle.rows.proofs.RowLaws.{length_row, length_with_row, with_row_changed}
use Rattle.rows.proofs.RunLaws.{rows_next, rows_end, rows_past}
use Rattle.answers.specs.Drafts.{decoded}
use Rattle.finish.specs.Finish.{halved, stripped}

-- ---- rows written from row i on

pub put_none : (t : List ℕ) (i : ℕ) → put t i [] ≡ t
unfolding put
put_none t i = refl

pub put_cons : (t : List ℕ) (i : ℕ) (r : List ℕ) (rs : List (List ℕ)) → put t i (r ∷ rs) ≡ put (with_row t i r) (i + 1) rs
unfolding put
put_cons t i r rs = refl

-- the rows after row i, where row i is another
pub rows_after : (t : List ℕ) (i n : ℕ) (r : List ℕ) → length r ≡ column.ROW → i < n
    → rows_from t i (n - i) ≡ row_at t i ∷ rows_from (with_row t i r) (i + 1) (n - (i + 1))
rows_after t i n r l h = rows_next t i n h ∙ rw (rows_past t i r l (i + 1) (n - (i + 1)) (omega arith))

-- ---- every row becomes f of it: doing the rows from i on comes to the same table

pub record Mapping (f : List ℕ → List ℕ) (t₀ : List ℕ) (n : ℕ) (t : List ℕ) (i : ℕ) : Type 0 where
  pub inside : i ≤ n
  pub long : length t ≡ length t₀
  pub same : put t₀ 0 (map f (rows_from t₀ 0 n)) ≡ put t i (map f (rows_from t i (n - i)))

pub mapping_start : (f : List ℕ → List ℕ) (t : List ℕ) (n : ℕ) → Mapping f t n t 0
mapping_start f t n = let e : n - 0 ≡ n = omega arith in record { inside = omega arith; long = refl; same = rw e }

module _ {f : List ℕ → List ℕ} {t₀ t : List ℕ} {n i : ℕ} (v : Mapping f t₀ n t i) where
  pub mapping_next : ((r : List ℕ) → length r ≡ column.ROW → length (f r) ≡ column.ROW) → i < n → {t' : List ℕ} → t' ≡ with_row t i (f (row_at t i)) → Mapping f t₀ n t' (i + 1)
  unfolding map
  mapping_next keeps h e =
      let r = f (row_at t i) in
      let wide : length r ≡ column.ROW = keeps (row_at t i) (length_row t i) in
      rw e
      record {
        inside = omega arith;
        long = length_with_row t i r wide ∙ v.long;
        same = v.same
            ∙ rw (rows_after t i n r wide h) (put_cons t i r (map f (rows_from (with_row t i r) (i + 1) (n - (i + 1)))));
      }

  pub mapping_end : n ≤ i → t ≡ put t₀ 0 (map f (rows_from t₀ 0 n))
  unfolding map
  mapping_end h = sym (v.same ∙ rw (rows_end t i n h) (put_none t i))

-- ---- stripping a row

pub length_halved : (c : ℕ) (r : List ℕ) → length (halved c r) ≡ length r
length_halved c r = length-set r c (low_of (get_or r c 0))

-- the three halves are those that a draft keeps
halves : (r : List ℕ) → halved column.FLAGS (halved column.SECOND (halved column.FIRST r)) ≡ stripped r
unfolding decoded
halves r =
    let a = low_of (get_or r column.FIRST 0) in
    let b = low_of (get_or r column.SECOND 0) in
    rw (
      get_or-set_other r column.FIRST column.SECOND a 0 (λ e. omega arith),
      get_or-set_other (set r column.FIRST a) column.SECOND column.FLAGS b 0 (λ e. omega arith),
      get_or-set_other r column.FIRST column.FLAGS a 0 (λ e. omega arith),
    )

pub length_stripped : (r : List ℕ) → length r ≡ column.ROW → length (stripped r) ≡ column.ROW
length_stripped r l = rw (← halves r) (simp length-set l)

pub cell_stripped : (t : List ℕ) (i c : ℕ) {v k : ℕ} {u : List ℕ} → v ≡ cell_at t i c → k ≡ low_of v → u ≡ with_cell t i c k → u ≡ with_row t i (halved c (row_at t i))
unfolding with_cell
cell_stripped t i c e f g = g ∙ rw (f, e)

-- the three cells one after the other
pub row_stripped : (t : List ℕ) (i : ℕ) {t₁ t₂ t₃ : List ℕ}
    → t₁ ≡ with_row t i (halved column.FIRST (row_at t i))
    → t₂ ≡ with_row t₁ i (halved column.SECOND (row_at t₁ i))
    → t₃ ≡ with_row t₂ i (halved column.FLAGS (row_at t₂ i))
    → t₃ ≡ with_row t i (stripped (row_at t i))
row_stripped t i {t₁} {t₂} {t₃} e₁ e₂ e₃ =
    let r = row_at t i in
    let r₁ = halved column.FIRST r in
    let r₂ = halved column.SECOND r₁ in
    let l₁ : length r₁ ≡ column.ROW = length_halved column.FIRST r ∙ length_row t i in
    let two : t₂ ≡ with_row t i r₂ = e₂ ∙ rw e₁ (with_row_changed t i r₁ l₁ (halved column.SECOND)) in
    e₃ ∙ rw two (with_row_changed t i r₂ (length_halved column.SECOND r₁ ∙ l₁) (halved column.FLAGS)) ∙ ap (with_row t i) (halves r)
