-- Rows of a table with and without their marks have the same steps; and what the code tells of one of them.
use Prim.Native.Nat.{ℕ, zero, suc, ◌+◌}
use mathlib.Core.Path.{◌≡◌, refl, ap₂, ◌∙◌}
use mathlib.Core.Bool.{Bool, true, false}
use mathlib.Core.List.{List}
use Rattle.rows.specs.Columns as column
use Rattle.rows.specs.Table.{row_at, cell_at}
use Rattle.rows.specs.Rows.{rows_from}
use Rattle.circles.proofs.Steps.{circular_none}
use Rattle.circles.specs.Circles.{circular_in}
use Rattle.rule_steps.specs.Steps.{rule_round, rule_found, rule_steps, table_steps}
use Rattle.rule_steps.proofs.Same.{SameCells, SameRows, no_rows, add_row, round_same, steps_same}
use Rattle.answers.specs.Drafts.{decoded, drafts_from}
use Rattle.answers.specs.Stages.{draft_rows}
use Rattle.drafts.specs.Faults.{draft_at}
use Rattle.drafts.proofs.DraftLaws.{cell_decoded}
use Rattle.circle_stage.specs.Circular.{mark_if}

-- a row and its decoding: the marks stand in other columns
cells_decoded : (r : List ℕ) → SameCells r (decoded r).row
cells_decoded r =
    record {
      code = cell_decoded r column.CODE refl;
      parent = cell_decoded r column.PARENT refl;
      own = cell_decoded r column.OWN refl;
      a = cell_decoded r column.A refl;
    }

rows_decoded : (t : List ℕ) (n i : ℕ) → SameRows (rows_from t i n) (draft_rows (drafts_from t i n))
unfolding rows_from drafts_from
rows_decoded t zero i = no_rows
rows_decoded t (suc n) i = add_row (cells_decoded (row_at t i)) (rows_decoded t n (i + 1))

module _ (t : List ℕ) (n : ℕ) where
  abbrev pub rows : List (List ℕ)
  rows = draft_rows (drafts_from t 0 n)

  pub steps_decoded : table_steps t n ≡ rule_steps rows
  steps_decoded = steps_same (rows_decoded t n 0)

  module _ (words : List ℕ) (i : ℕ) {a b : ℕ} (e : a ≡ rule_round (rows_from t 0 n) (row_at t i)) (f : b ≡ cell_at t i column.A) where
    test_is : {r : Bool} → r ≡ circular_in words a b → r ≡ circular_in words (rule_round rows (draft_at t i).row) (rule_found rows (draft_at t i).row)
    test_is g =
        g
        ∙ ap₂ (circular_in words) (e ∙ round_same (rows_decoded t n 0) (cells_decoded (row_at t i))) (f ∙ cell_decoded (row_at t i) column.A refl)

    -- the mark by the code's test
    module _ {r : Bool} (g : r ≡ circular_in words a b) where
      pub mark_on : r ≡ true → {m : ℕ} → m ≡ (draft_at t i).own_at → m ≡ mark_if (circular_in words) rows (draft_at t i)
      unfolding mark_if
      mark_on h k = rw (← test_is g, h) k

      pub mark_off : r ≡ false → 0 ≡ mark_if (circular_in words) rows (draft_at t i)
      unfolding mark_if
      mark_off h = rw (← test_is g, h)

    -- it stands in no rule
    pub mark_none : a ≡ 0 → 0 ≡ mark_if (circular_in words) rows (draft_at t i)
    mark_none z = mark_off (rw z (circular_none words 0 b refl)) refl
