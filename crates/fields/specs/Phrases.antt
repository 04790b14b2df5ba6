-- The draft row of a phrase from the entries that it keeps (document 01, Rows; document 02, W-208). An entry is a mark, but for flags
-- and truths.
-- Assumes nothing.
use Rattle.std.specs.Prelude.{ℕ, zero, suc, ◌+◌, ◌*◌, ◌/◌, ◌%◌, ◌^◌, true, false, cond, List, [], ◌∷◌, eqb, get_or}
use Rattle.lexemes.specs.Classes as class
use Rattle.rows.specs.Codes as code
use Rattle.rows.specs.Columns as column
use Rattle.rows.specs.Cells.{Entry, ◌≔◌}
use Rattle.rows.specs.Flags as flag
use Rattle.answers.specs.Rows.{Draft, without_marks, row_with, operand, ABSENT_STEP}
use Rattle.fields.specs.Sizes.{size_entry}

-- the entries by their number, from 0 on; one that there is not is 0
abbrev pub kept : List ℕ → ℕ → ℕ
kept l n = get_or l n 0

-- a flag, where an entry is there
unfoldable pub set_if : ℕ → ℕ → ℕ
set_if entry bit = cond (eqb entry 0) 0 bit

-- rule NAME , expression endrule ; with its own number and the mark of its name
abbrev pub rule_draft : ℕ → ℕ → ℕ → ℕ → Draft
rule_draft parent place own name = without_marks (row_with code.RULE parent place (column.OWN ≔ own ∷ column.NAME ≔ name ∷ []))

-- ruleref ( NAME )
abbrev pub rule_ref_draft : ℕ → ℕ → (ℕ → ℕ) → Draft
rule_ref_draft parent place k = record { row = row_with code.RULE_REF parent place []; own_at = k 0; limit_at = 0; default_at = 0 }

-- the draft of a phrase from its parent, its place and its entries
abbrev pub Drafting : Type 0
Drafting = ℕ → ℕ → (ℕ → ℕ) → Draft

-- a class, and the draft of the phrases that start with it
pub data Start : Type 0 where
  ◌starts◌ : ℕ → Drafting → Start

infix 68 ◌starts◌
-- the draft of a phrase that starts with a token of class c, or `other`
abbrev pub draft_among : List Start → Drafting → ℕ → Drafting
draft_among [] other c parent place k = other parent place k
draft_among (j starts draft ∷ l) other c parent place k = elim (eqb c j) [ true ↦ draft parent place k | false ↦ draft_among l other c parent place k ]

-- the value of the number at a place
module _ (number_at : ℕ → ℕ) where
  -- the value of the number at a mark, 0 for none
  unfoldable pub marked_value : ℕ → ℕ
  marked_value zero = 0
  marked_value (suc p) = number_at p

  -- a numeric's step by its mark: "An absent step is now 1; a written 0 stays 0"
  unfoldable pub marked_step : ℕ → ℕ
  marked_step mark = cond (eqb mark 0) ABSENT_STEP (marked_value mark)

  -- form formid = N , title = STR ;
  abbrev pub form_draft : ℕ → ℕ → (ℕ → ℕ) → Draft
  form_draft parent place k =
      record {
        row = row_with code.FORM parent place (column.OWN ≔ marked_value (k 0) ∷ column.FIRST ≔ marked_value (k 1) ∷ []);
        own_at = k 0;
        limit_at = 0;
        default_at = 0;
      }

  -- subtitle text = STR ;
  abbrev pub subtitle_draft : ℕ → ℕ → (ℕ → ℕ) → Draft
  subtitle_draft parent place k = without_marks (row_with code.SUBTITLE parent place (column.FIRST ≔ marked_value (k 0) ∷ []))

  -- text help = STR , text = STR ;
  abbrev pub text_draft : ℕ → ℕ → (ℕ → ℕ) → Draft
  text_draft parent place k = without_marks (row_with code.TEXT parent place (column.FIRST ≔ marked_value (k 1) ∷ column.SECOND ≔ marked_value (k 0) ∷ []))

  -- label N ;
  abbrev pub label_draft : ℕ → ℕ → (ℕ → ℕ) → Draft
  label_draft parent place k = without_marks (row_with code.LABEL parent place (column.OWN ≔ marked_value (k 0) ∷ []))

  -- the row of a question from the four entries of its HEAD, with what else it holds
  abbrev pub question_row : ℕ → ℕ → ℕ → ℕ → ℕ → ℕ → ℕ → List Entry → List ℕ
  question_row code parent place name id prompt help entries =
      row_with code parent place (
      column.OWN ≔ marked_value id
      ∷ column.FIRST ≔ marked_value prompt
      ∷ column.SECOND ≔ marked_value help
      ∷ column.NAME ≔ name
      ∷ entries)

  abbrev pub question_draft : List ℕ → ℕ → ℕ → ℕ → Draft
  question_draft row id limit default = record { row = row; own_at = id; limit_at = limit; default_at = default }

  -- goto N , HEAD [, flags = FL] ;
  abbrev pub goto_draft : ℕ → ℕ → (ℕ → ℕ) → Draft
  goto_draft parent place k =
      question_draft
      (question_row code.GOTO parent place (k 1) (k 2) (k 3) (k 4) (column.FLAGS ≔ k 5 ∷ column.A ≔ marked_value (k 0) ∷ []))
      (k 2) (k 0) 0

  -- checkbox HEAD , [flags = FL ,] [default = TRUE or FALSE ,] endcheckbox ; the default keeps 2 for TRUE and 1 for FALSE
  abbrev pub checkbox_draft : ℕ → ℕ → (ℕ → ℕ) → Draft
  checkbox_draft parent place k =
      question_draft
      (question_row code.CHECKBOX parent place (k 0) (k 1) (k 2) (k 3) (
      column.FLAGS ≔ (k 4 % 256 + set_if (k 5) flag.HAS_DEFAULT)
      ∷ column.D ≔ (k 5 / 2)
      ∷ []))
      (k 1) 0 0

  -- numeric HEAD , [flags = FL ,] minimum = N , maximum = N , [step = N ,] [default = N ,] endnumeric ;
  abbrev pub numeric_draft : ℕ → ℕ → (ℕ → ℕ) → Draft
  numeric_draft parent place k =
      question_draft
      (question_row code.NUMERIC parent place (k 0) (k 1) (k 2) (k 3) (
      column.FLAGS ≔ (k 4 % 256 + set_if (k 8) flag.HAS_DEFAULT)
      ∷ column.A ≔ marked_value (k 5)
      ∷ column.B ≔ marked_value (k 6)
      ∷ column.C ≔ marked_step (k 7)
      ∷ column.D ≔ marked_value (k 8)
      ∷ column.SIZE ≔ size_entry (k 4)
      ∷ []))
      (k 1) (k 6) (k 8)

  -- oneof HEAD , [flags = FL ,]
  abbrev pub one_of_draft : ℕ → ℕ → (ℕ → ℕ) → Draft
  one_of_draft parent place k = question_draft (question_row code.ONE_OF parent place (k 0) (k 1) (k 2) (k 3) (column.FLAGS ≔ k 4 ∷ [])) (k 1) 0 0

  -- option text = STR , value = N , flags = (N or DEFAULT) ;
  abbrev pub option_draft : ℕ → ℕ → (ℕ → ℕ) → Draft
  option_draft parent place k =
      record {
        row =
            row_with code.OPTION parent place (
            column.FIRST ≔ marked_value (k 0)
            ∷ column.FLAGS ≔ set_if (k 2) flag.OPTION_DEFAULT
            ∷ column.A ≔ marked_value (k 1)
            ∷ []);
        own_at = 0;
        limit_at = k 1;
        default_at = k 2;
      }

  -- N
  abbrev pub number_draft : ℕ → ℕ → (ℕ → ℕ) → Draft
  number_draft parent place k = operand number_at parent code.NUMBER (marked_value (k 0)) place 0

  -- questionref ( NAME or N ): the name or 0, the number or 0
  abbrev pub question_ref_draft : ℕ → ℕ → (ℕ → ℕ) → Draft
  question_ref_draft parent place k = operand number_at parent code.QUESTION_REF (marked_value (k 1)) place (cond (eqb (k 0) 0) (k 1) (k 0))

  -- the statements and operands by the word that each starts with
  abbrev pub phrase_rows : List Start
  phrase_rows =
      class.«form» starts form_draft
      ∷ class.«subtitle» starts subtitle_draft
      ∷ class.«text» starts text_draft
      ∷ class.«label» starts label_draft
      ∷ class.«goto» starts goto_draft
      ∷ class.«checkbox» starts checkbox_draft
      ∷ class.«numeric» starts numeric_draft
      ∷ class.«oneof» starts one_of_draft
      ∷ class.«option» starts option_draft
      ∷ class.«questionref» starts question_ref_draft
      ∷ class.«ruleref» starts rule_ref_draft
      ∷ []

  -- the phrase that starts with a token of the class; one that starts with none of these words is a number
  unfoldable pub phrase_draft : ℕ → ℕ → ℕ → (ℕ → ℕ) → Draft
  phrase_draft c parent place k = draft_among phrase_rows number_draft c parent place k

  -- ---- the form set: its opening keeps the GUID's first three parts, and then its eight bytes, title and help

  abbrev pub bits_of : ℕ → ℕ → ℕ
  bits_of width mark = marked_value mark % 2 ^ width

  abbrev pub high_of : (ℕ → ℕ) → ℕ
  high_of k = bits_of 32 (k 0) * 2 ^ 32 + bits_of 16 (k 1) * 2 ^ 16 + bits_of 16 (k 2)

  abbrev pub low_of : (ℕ → ℕ) → ℕ
  low_of k =
      bits_of 8 (k 0) * 2 ^ 56 + bits_of 8 (k 1) * 2 ^ 48 + bits_of 8 (k 2) * 2 ^ 40 + bits_of 8 (k 3) * 2 ^ 32
      + bits_of 8 (k 4) * 2 ^ 24 + bits_of 8 (k 5) * 2 ^ 16 + bits_of 8 (k 6) * 2 ^ 8 + bits_of 8 (k 7)

  abbrev pub form_set_draft : ℕ → (ℕ → ℕ) → (ℕ → ℕ) → Draft
  form_set_draft place high low =
      without_marks (row_with code.FORM_SET 0 place (
      column.FIRST ≔ marked_value (low 8)
      ∷ column.SECOND ≔ marked_value (low 9)
      ∷ column.A ≔ high_of high
      ∷ column.B ≔ low_of low
      ∷ []))
