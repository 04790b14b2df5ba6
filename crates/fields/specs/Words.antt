-- The draft row of a word alone: a condition's, an operator's or a constant's (document 01, Rows).
-- Assumes nothing.
use Rattle.std.specs.Prelude.{ℕ, true, false, List, [], ◌∷◌, ◌++◌, map, eqb}
use Rattle.lexemes.specs.Classes as class
use Rattle.rows.specs.Codes as code
use Rattle.answers.specs.Expression.{operators, operator_class, operator_code, Constant, true', false', zero', one', ones', undefined', constant_class, constant_code}
use Rattle.answers.specs.Rows.{Draft, without_marks, row_with}

-- a class, and what it has
pub data Pair : Type 0 where
  pair : ℕ → ℕ → Pair

-- what a class has in a list, or `other`
abbrev pub look_up : List Pair → ℕ → ℕ → ℕ
look_up [] other k = other
look_up (pair j v ∷ l) other k = elim (eqb j k) [ true ↦ v | false ↦ look_up l other k ]

abbrev pub constants : List Constant
constants = true' ∷ false' ∷ zero' ∷ one' ∷ ones' ∷ undefined' ∷ []

-- the codes of conditions, operators and constants
unfoldable pub word_codes : List Pair
word_codes =
    pair class.«suppressif» code.SUPPRESS_IF ∷ pair class.«grayoutif» code.GRAY_OUT_IF ∷ pair class.«disableif» code.DISABLE_IF ∷ pair class.«NOT» code.NOT
    ∷ map (λ o. pair (operator_class o) (operator_code o)) operators ++ map (λ c. pair (constant_class c) (constant_code c)) constants

unfoldable pub code_of : ℕ → ℕ
code_of k = look_up word_codes 0 k

abbrev pub word_draft : ℕ → ℕ → ℕ → Draft
word_draft k parent place = without_marks (row_with (code_of k) parent place [])
