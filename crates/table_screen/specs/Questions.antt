-- What the questions of a source answer (document 02, W-202), by the table of n numbers that reading leaves of the source s.
-- Assumes nothing.
use Rattle.std.specs.Prelude.{ℕ, Bool, List}
use Rattle.answers.specs.WholeAnswer.{read_answer, read_table}
use Rattle.operators.specs.declared.Scalar.{Scalar}
use Rattle.question_kinds.specs.Kinds.{is_goto, is_checkbox, kind_map}
use Rattle.saved_answers.specs.Answers.{answered}

module _ (s : List ℕ) (n : ℕ) where
  -- the map of the numbers of a kind of questions, as `question_kinds::mark_rows` makes it of the rows from an empty one
  abbrev pub map_read : (ℕ → Bool) → List ℕ
  map_read kind = kind_map kind (read_table s n) (read_answer s n).rows

  -- those of gotos and of checkboxes
  abbrev pub gotos_read : List ℕ
  gotos_read = map_read is_goto

  abbrev pub checkboxes_read : List ℕ
  checkboxes_read = map_read is_checkbox

  -- what each question answers by these
  abbrev pub questions_read : (answers : List ℕ) → ℕ → Scalar
  questions_read answers = answered answers gotos_read checkboxes_read
