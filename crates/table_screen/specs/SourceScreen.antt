-- Which items of a source are hidden or grey, by its derivation and the answers (document 02, W-202): the conditions round an item and their values.
-- Assumes nothing.
use Rattle.std.specs.Prelude.{ℕ, Bool, false, List}
use Rattle.numbers.specs.Numbers.{mem}
use Rattle.rows.specs.Codes.{is_question}
use Rattle.ll1.specs.Trees.{Trees}
use Rattle.answers.specs.Stages.{finished}
use Rattle.answers.specs.Answer.{drafts}
use Rattle.answers.specs.Text.{row_first_at}
use Rattle.operators.specs.declared.Scalar.{Scalar}
use Rattle.saved_answers.specs.Answers.{saved_for, by_kind}
use Rattle.question_kinds.specs.Kinds.{is_goto, is_checkbox, owns_in}
use Rattle.meaning.specs.Rules.{worth}
use Rattle.screen.specs.Screen.{Screen, source_screen}
use Rattle.screen.specs.Bytes.{bytes}
use Rattle.form_set_rules.specs.Rules.{source_rules}

-- ---- the questions of rows

-- question k is in the rows: "a number no question bears" is none of theirs
unfoldable pub borne : List (List ℕ) → ℕ → Bool
borne rows k = mem k (owns_in is_question rows)

-- what question k answers: "a checkbox answers FALSE for 0 and TRUE otherwise, a goto or a missing answer is undefined"
unfoldable pub question_answer : List (List ℕ) → List ℕ → ℕ → Scalar
question_answer rows answers k = by_kind (mem k (owns_in is_goto rows)) (mem k (owns_in is_checkbox rows)) (saved_for k answers)

-- ---- a source with its derivation

module _ (s : List ℕ) (tree : Trees) where
  -- its finished rows, and its statements without their places
  abbrev pub source_rows : List (List ℕ)
  source_rows = finished s (drafts s tree)

  abbrev pub statements : Screen
  statements = source_screen (row_first_at source_rows) tree

  module _ (answers : List ℕ) where
    -- what its questions answer, and what its rules are worth by that
    abbrev pub questions : ℕ → Scalar
    questions = question_answer source_rows answers

    abbrev pub rules : ℕ → Scalar
    rules = worth (source_rules s tree) questions

    -- the byte of each row; no condition is round the form set
    unfoldable pub screen_bytes : List ℕ
    screen_bytes = bytes questions rules false false statements
