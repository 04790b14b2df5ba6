-- The climb to the form that a row stands in, as the code does it.
use Prim.Native.Nat.{ℕ, zero, suc, ◌+◌, ◌-◌, ◌≤◌, ◌<◌}
use mathlib.Core.Path.{◌≡◌, refl, sym, ap, ◌∙◌}
use mathlib.Core.Bool.{Bool, true, false}
use mathlib.Core.List.{List, []}
use native.Mathlib.Nat.{add-zero}
use native.Mathlib.Omega.{arith}
use lib.Dec.{eqb}
use Rattle.rows.specs.Codes as code
use Rattle.rows.specs.Columns as column
use Rattle.rows.specs.Table.{cell_at}
use Rattle.answers.specs.Rows.{Draft, without_marks}
use Rattle.answers.specs.Stages.{cell, is, row_among, form_from, form_round}
use Rattle.answers.specs.Drafts.{drafts_from}
use Rattle.drafts.specs.Faults.{draft_at}
use Rattle.drafts.proofs.DraftLaws.{cell_read}

-- ---- the rows of a table among its first ones

module _ (t : List ℕ) where
  row_from : (n i k : ℕ) → k < n → row_among (drafts_from t i n) k ≡ draft_at t (i + k)
  unfolding drafts_from
  row_from zero i k h = absurd (omega arith)
  row_from (suc n) i zero h = rw (add-zero i)
  row_from (suc n) i (suc k) h = let e : i + suc k ≡ i + 1 + k = omega arith in rw e (row_from n (i + 1) k (omega arith))

  no_row_from : (n i k : ℕ) → n ≤ k → row_among (drafts_from t i n) k ≡ without_marks []
  unfolding drafts_from
  no_row_from zero i k h = refl
  no_row_from (suc n) i zero h = absurd (omega arith)
  no_row_from (suc n) i (suc k) h = no_row_from n (i + 1) k (omega arith)

  module _ (n k : ℕ) where
    -- an unmarked cell of one of them
    abbrev among : Draft
    among = row_among (drafts_from t 0 n) k

    cell_among : (c : ℕ) {v : ℕ} → k < n → v ≡ cell c (draft_at t k) → v ≡ cell c among
    cell_among c h e = let z : 0 + k ≡ k = omega arith in e ∙ ap (cell c) (sym (rw z at (row_from n 0 k h)))

    pub form_read : k < n → {v : ℕ} → v ≡ cell_at t k column.CODE → eqb v code.FORM ≡ is code.FORM among
    form_read h e = ap (λ (v : ℕ). eqb v code.FORM) (cell_among column.CODE h (cell_read t k column.CODE refl e))

    pub no_form : n ≤ k → false ≡ is code.FORM among
    no_form h = rw (no_row_from n 0 k h)

    pub parent_read : k < n → {v : ℕ} → v ≡ cell_at t k column.PARENT → v ≡ cell column.PARENT among
    parent_read h e = cell_among column.PARENT h (cell_read t k column.PARENT refl e)

    pub no_parent : n ≤ k → 0 ≡ cell column.PARENT among
    no_parent h = rw (no_row_from n 0 k h)

-- ---- the loop of `form_round`: from row p, by as many parents as are left, the same form is reached

module _ (ds : List Draft) (d : Draft) where
  pub record Climbing (left p : ℕ) : Type 0 where
    pub same : form_from ds left p ≡ form_round ds d

  pub climbing_start : {p : ℕ} → p ≡ cell column.PARENT d → Climbing 16 p
  unfolding form_round
  climbing_start e = record { same = rw e }

  module _ {left p : ℕ} (v : Climbing left p) where
    pub climbing_found : 0 < left → {b : Bool} → b ≡ is code.FORM (row_among ds p) → b ≡ true → p ≡ form_round ds d
    unfolding form_from
    climbing_found h e y =
        let more : left ≡ suc (left - 1) = omega arith in
        let here : form_from ds (suc (left - 1)) p ≡ p = rw (sym e ∙ y) in
        sym here ∙ ap (λ (n : ℕ). form_from ds n p) (sym more) ∙ v.same

    pub climbing_next :
        0 < left → {b : Bool} → b ≡ is code.FORM (row_among ds p) → b ≡ false
        → {q : ℕ} → q ≡ cell column.PARENT (row_among ds p) → Climbing (left - 1) q
    unfolding form_from
    climbing_next h e y f =
        let more : left ≡ suc (left - 1) = omega arith in
        let above : form_from ds (suc (left - 1)) p ≡ form_from ds (left - 1) (cell column.PARENT (row_among ds p)) = rw (sym e ∙ y) in
        record { same = rw f (sym above ∙ ap (λ (n : ℕ). form_from ds n p) (sym more) ∙ v.same) }

    pub climbing_end : left ≤ 0 → p ≡ form_round ds d
    unfolding form_from
    climbing_end h = let none : left ≡ 0 = omega arith in rw none at v.same
