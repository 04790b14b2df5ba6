-- Document 02's W-208, "A missing step is 1": what it says of rows, and of older text.
-- Assumes nothing.
use Rattle.std.specs.Prelude.{ℕ, ◌/◌, ◌≡◌, Bool, true, false, cond, ◌&&◌, List, set}
use Rattle.rows.specs.Columns as column
use Rattle.rows.specs.Columns.{ROW}
use Rattle.ll1.specs.Trees.{Trees, nil, leaf, node}
use Rattle.grammar.specs.Positions.{numeric_step, step_value}
use Rattle.grammar.specs.Parts.{child, written}
use Rattle.grammar.specs.Source.{number_at}
use Rattle.grammar.specs.Ranges.{is_numeric}
use Rattle.answers.specs.Rows.{Draft, value, drafts_by}
use Rattle.answers.specs.Answer.{Answer, refuses, answer_of}
use Rattle.answers.specs.WholeAnswer.{refusal, derived, checked}
use Rattle.answers.specs.Forms.{column_of}

-- "An absent step is now 1; a written 0 stays 0", as every written step does: row i is that of the numeric over the trees c
pub record Stepped (s : List ℕ) (rows : List (List ℕ)) (i : ℕ) (c : Trees) : Type 0 where
  pub absent : written numeric_step c ≡ false → column_of rows column.C i ≡ 1
  pub stays : written numeric_step c ≡ true → column_of rows column.C i ≡ value (number_at s) step_value (child numeric_step c)

-- ---- before and after

-- the rows of a source's derivation, not finished, as they were before: an absent step was 0
abbrev pub drafts_before : List ℕ → Trees → List Draft
drafts_before s f = drafts_by (number_at s) 0 f 0 0 0

-- what reading the source s into a table of n numbers was answered
unfoldable pub answer_before : List ℕ → ℕ → Answer
answer_before s n = elim (checked s) [ refusal k p ↦ refuses k p | derived f ↦ answer_of s (drafts_before s f) (n / ROW) ]

-- a row but for its step
abbrev pub without_step : List ℕ → List ℕ
without_step r = set r column.C 0

-- "Older resolved text writes every step and reads as before."

-- every numeric among the trees passes the test of the trees under it
unfoldable pub every_numeric : (Trees → Bool) → Trees → Bool
every_numeric p nil = true
every_numeric p (leaf t f) = every_numeric p f
every_numeric p (node A i c f) = cond (is_numeric A i) (p c) true && (every_numeric p c && every_numeric p f)

-- every numeric among them writes its step
abbrev pub writes_steps : Trees → Bool
writes_steps f = every_numeric (written numeric_step) f
