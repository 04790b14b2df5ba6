-- The screen of a source, in document 02's words (W-202); and of an accepted source: what `table_screen::show_table` gives of the table that reading
-- leaves is this screen.
-- Assumes nothing.
use Prim.Native.Nat.{ℕ, ◌/◌, ◌%◌, ◌<◌}
use mathlib.Core.Path.{◌≡◌, ap, ◌∙◌}
use mathlib.Core.Bool.{true, false}
use mathlib.Core.Logic.{◌↔◌}
use mathlib.Core.List.{List, []}
use lib.ListN.{length, get_or}
use Rattle.numbers.specs.Numbers.{used}
use Rattle.rows.specs.Codes.{is_question}
use Rattle.rows.specs.Columns as column
use Rattle.ll1.specs.Trees.{Trees}
use Rattle.answers.specs.WholeAnswer.{read_answer, read_table}
use Rattle.answers.specs.Demand3.{Sound}
use Rattle.operators.specs.declared.Scalar.{Scalar}
use Rattle.saved_answers.specs.Answers.{saved_for, by_kind, answered, Ascending}
use Rattle.question_kinds.specs.Kinds.{is_goto, is_checkbox}
use Rattle.meaning.specs.Rules.{Solves}
use Rattle.meaning.proofs.Theorems.{worth_only}
use Rattle.screen.specs.Kinds.{hides, greys}
use Rattle.screen.specs.Bytes.{bytes}
use Rattle.screen.specs.Round.{ItemAt, SomeTrue}
use Rattle.screen.proofs.Theorems as screen
use Rattle.screen_rows.proofs.Theorems.{accepted_rows}
use Rattle.form_set_rules.specs.Rules.{source_rules}
use Rattle.form_set_rules.proofs.Theorems.{rule_set, circles_same}
use Rattle.table_screen.specs.TableScreen.{table_screen}
use Rattle.table_screen.specs.Questions.{map_read, gotos_read, checkboxes_read, questions_read}
use Rattle.table_screen.specs.SourceScreen.{borne, question_answer, source_rows, statements, questions, rules, screen_bytes}
use Rattle.table_screen.proofs.Questions.{goto_asks, checkbox_asks, kind_used, kind_of}
use Rattle.table_screen.proofs.Theorems.{table_shown}

-- ---- the bytes of a source with its derivation

module _ (s : List ℕ) (tree : Trees) (answers : List ℕ) where
  abbrev pub byte_at : ℕ → ℕ
  byte_at row = get_or (screen_bytes s tree answers) row 0

  module _ {row : ℕ} (item : ItemAt row (statements s tree)) where
    -- "An item is hidden when some `suppressif` or `disableif` round it is TRUE": its byte has 1
    pub hidden_exactly : (byte_at row % 2 ≡ 1) ↔ SomeTrue (questions s tree answers) (rules s tree answers) hides row (statements s tree)
    unfolding screen_bytes
    hidden_exactly = screen.hidden_exactly (questions s tree answers) (rules s tree answers) (statements s tree) item

    -- "grey when some `grayoutif` is": its byte has 2
    pub grey_exactly : (byte_at row / 2 ≡ 1) ↔ SomeTrue (questions s tree answers) (rules s tree answers) greys row (statements s tree)
    unfolding screen_bytes
    grey_exactly = screen.grey_exactly (questions s tree answers) (rules s tree answers) (statements s tree) item

    -- and nothing else
    pub byte_small : byte_at row < 4
    unfolding screen_bytes
    byte_small = screen.byte_small (questions s tree answers) (rules s tree answers) (statements s tree) item

  -- "0 for other rows"
  pub other_rows_zero : (row : ℕ) → (ItemAt row (statements s tree) → ⊥) → byte_at row ≡ 0
  unfolding screen_bytes
  other_rows_zero = screen.other_rows_zero (questions s tree answers) (rules s tree answers) (statements s tree)

  -- where no stage finds a fault, the rules' values solve their equations, and nothing else does
  pub rules_only :
      Sound s tree
      → Solves (source_rules s tree) (questions s tree answers) (rules s tree answers)
      × ((others : ℕ → Scalar) → Solves (source_rules s tree) (questions s tree answers) others → (k : ℕ) → others k ≡ rules s tree answers k)
  rules_only sound =
      worth_only (source_rules s tree)
      (rule_set s tree sound.derives sound.limit sound.references)
      ((circles_same s tree sound.derives sound.limit sound.references).0 sound.circles)
      (questions s tree answers)

-- ---- an accepted source, with its derivation, and the table of n numbers that reading leaves

module _ (s : List ℕ) (n : ℕ) (accepted : (read_answer s n).number ≡ 0) (tree : Trees) (sound : Sound s tree) where
  -- "a number no question bears" is one that the map of its questions does not hold
  pub borne_used : (k : ℕ) → used (map_read s n is_question) k ≡ borne (source_rows s tree) k
  unfolding borne
  borne_used = kind_used s n accepted tree sound is_question (λ c e. e)

  module _ (answers : List ℕ) where
    -- what its questions answer by the maps of its gotos and checkboxes
    pub questions_read_lem : questions_read s n answers ≡ questions s tree answers
    unfolding answered question_answer
    questions_read_lem = λ i k. each k i
      where
        each : (k : ℕ) → questions_read s n answers k ≡ questions s tree answers k
        each k = rw (kind_used s n accepted tree sound is_goto goto_asks k, kind_used s n accepted tree sound is_checkbox checkbox_asks k)

    -- "a checkbox answers FALSE for 0 and TRUE otherwise, a goto or a missing answer is undefined": the question of row i, by its own row
    module _ (i : ℕ) (inside : i < length (source_rows s tree)) where
      abbrev code : ℕ
      code = get_or (get_or (source_rows s tree) i []) column.CODE 0

      abbrev number : ℕ
      number = get_or (get_or (source_rows s tree) i []) column.OWN 0

      pub question_answered :
          is_question code ≡ true → questions s tree answers number ≡ by_kind (is_goto code) (is_checkbox code) (saved_for number answers)
      unfolding question_answer
      question_answered q =
          rw (kind_of s n accepted tree sound is_goto goto_asks i inside q, kind_of s n accepted tree sound is_checkbox checkbox_asks i inside q)

    -- "one byte a row"
    pub bytes_count : length (screen_bytes s tree answers) ≡ (read_answer s n).rows
    unfolding screen_bytes
    bytes_count =
        screen.length_bytes (questions s tree answers) (rules s tree answers) (statements s tree) false false ∙ accepted_rows s n accepted tree sound

    -- the bytes that the code finds in the table are those of the source
    pub source_screen_lem :
        Ascending answers
        → table_screen answers (gotos_read s n) (checkboxes_read s n) (read_table s n) (read_answer s n).rows ≡ screen_bytes s tree answers
    unfolding screen_bytes
    source_screen_lem ascending =
        table_shown s n accepted tree sound answers (gotos_read s n) (checkboxes_read s n) ascending (rules s tree answers)
        (rw questions_read_lem (rules_only s tree answers sound).0)
        ∙ ap (λ (q : ℕ → Scalar). bytes q (rules s tree answers) false false (statements s tree)) questions_read_lem
