-- The form that a row stands in: it goes by codes and parents alone; and what is computed is what `StandsIn` says.
-- Assumes nothing.
use mathlib.Core.Path.{◌≡◌, refl, sym, ap, ◌∙◌}
use mathlib.Core.List.{List, [], ◌∷◌, map}
use mathlib.Core.Bool.{true}
use Prim.Native.Nat.{ℕ, zero, suc}
use lib.ListN.{get_or}
use borrow.Author.Tests.{eqb-true, eqb-false}
use Rattle.lexemes.proofs.Lists.{either}
use Rattle.rows.specs.Codes as code
use Rattle.rows.specs.Columns as column
use Rattle.answers.specs.Rows.{Draft, without_marks}
use Rattle.answers.specs.Stages.{cell, is, row_among, form_from, form_round, draft_rows}
use Rattle.answers.specs.Forms.{column_of, StandsIn, directly, within}

-- an element of a list's image, also past the end
pub map_get_or : {A B : Type 0} (f : A → B) (l : List A) (i : ℕ) (x : A) → get_or (map f l) i (f x) ≡ f (get_or l i x)
map_get_or f [] i x = refl
map_get_or f (a ∷ l) zero x = refl
map_get_or f (a ∷ l) (suc i) x = map_get_or f l i x

-- ---- by codes and parents

module _ (ds es : List Draft) where
  cell_same : (c : ℕ) → map (cell c) ds ≡ map (cell c) es → (p : ℕ) → cell c (row_among ds p) ≡ cell c (row_among es p)
  cell_same c e p =
      sym (map_get_or (cell c) ds p (without_marks [])) ∙ ap (λ (l : List ℕ). get_or l p 0) e ∙ map_get_or (cell c) es p (without_marks [])

  module _ (codes : map (cell column.CODE) ds ≡ map (cell column.CODE) es) (parents : map (cell column.PARENT) ds ≡ map (cell column.PARENT) es) where
    from_same : (n p : ℕ) → form_from ds n p ≡ form_from es n p
    unfolding form_from
    from_same zero p = refl
    from_same (suc n) p = rw (cell_same column.CODE codes p, cell_same column.PARENT parents p, from_same n (cell column.PARENT (row_among es p)))

    -- rows that are the same but for other columns have the same forms
    pub round_same : (d e : Draft) → cell column.PARENT d ≡ cell column.PARENT e → form_round ds d ≡ form_round es e
    unfolding form_round
    round_same d e h = rw h (from_same _ (cell column.PARENT e))

-- ---- as `StandsIn` says

-- a row stands in one form
pub stands_once : {rows : List (List ℕ)} {f g i : ℕ} → StandsIn rows f i → StandsIn rows g i → f ≡ g
stands_once (directly p c) (directly q d) = sym p ∙ q
stands_once {rows} (directly p c) (within n v) = absurd (n (rw p c))
stands_once (within n u) (directly q d) = absurd (n (rw q d))
stands_once (within n u) (within m v) = stands_once u v

-- and in other rows of the same codes and parents in the same
pub stands_same :
    {rows others : List (List ℕ)}
    → ((p : ℕ) → column_of rows column.CODE p ≡ column_of others column.CODE p) → ((p : ℕ) → column_of rows column.PARENT p ≡ column_of others column.PARENT p)
    → {f i : ℕ} → StandsIn rows f i → StandsIn others f i
stands_same codes parents {f} {i} (directly e c) = directly (sym (parents i) ∙ e) (sym (codes f) ∙ c)
stands_same {rows} {others} codes parents {f} {i} (within n v) =
    within
    (λ z. n (codes (column_of rows column.PARENT i) ∙ ap (column_of others column.CODE) (parents i) ∙ z))
    (rw (← parents i) (stands_same codes parents v))

module _ (ds : List Draft) where
  -- a column of a draft's row
  pub column_is : (c p : ℕ) → column_of (draft_rows ds) c p ≡ cell c (row_among ds p)
  column_is c p = ap (λ (r : List ℕ). get_or r c 0) (map_get_or (λ (d : Draft). d.row) ds p (without_marks []))

  abbrev IsForm : ℕ → Type 0
  IsForm p = is code.FORM (row_among ds p) ≡ true

  abbrev parent : ℕ → ℕ
  parent i = cell column.PARENT (row_among ds i)

  -- a row whose parent is a form
  pub parent_stands : (i : ℕ) → IsForm (parent i) → StandsIn (draft_rows ds) (parent i) i
  parent_stands i h = directly (column_is column.PARENT i) (column_is column.CODE (parent i) ∙ eqb-true _ _ h)

  -- what is reached from the parent of row i, if it is a form
  from_stands : (n i : ℕ) → IsForm (form_from ds n (parent i)) → StandsIn (draft_rows ds) (form_from ds n (parent i)) i
  unfolding form_from
  from_stands zero i h = parent_stands i h
  from_stands (suc n) i h =
      either (is code.FORM (row_among ds (parent i)))
      (λ e. rw e (parent_stands i e))
      (λ e.
      let above : StandsIn (draft_rows ds) (form_from ds n (parent (parent i))) (parent i) = from_stands n (parent i) (rw e at h) in
      rw e
      (within
      (λ z. eqb-false _ _ e (sym (column_is column.CODE (parent i)) ∙ ap (column_of (draft_rows ds) column.CODE) (sym (column_is column.PARENT i)) ∙ z))
      (rw (column_is column.PARENT i) above)))

  pub round_stands : (i : ℕ) → IsForm (form_round ds (row_among ds i)) → StandsIn (draft_rows ds) (form_round ds (row_among ds i)) i
  unfolding form_round
  round_stands i h = from_stands _ i h
