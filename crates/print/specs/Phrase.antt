-- Printing a phrase from a row: the elements that are read, one after another (document 01, Resolved text).
-- Assumes nothing.
use Rattle.std.specs.Prelude.{ℕ, ◌+◌, ◌-◌, ◌/◌, ◌%◌, ◌^◌, Bool, true, false, cond, ◌||◌, List, [], ◌∷◌, ◌++◌, eqb, ltb, get_or}
use Rattle.lexemes.specs.Classes.{«|», «name», «questionid», «step», «default», «DEFAULT», NAME}
use Rattle.rows.specs.Columns as column
use Rattle.rows.specs.Flags as flag
use Rattle.rows.specs.Codes.{NUMERIC}
use Rattle.rows.specs.Sizes.{size_of, display_of}
use Rattle.grammar.specs.Flags.{FlagWord, flag_word, flag_words, set_in, size_word, display_word}
use Rattle.elements.specs.Kinds.{OPTION_FLAGS, TRUTH, FLAG_LIST, NUMERIC_FLAGS, H8, H4, H2, MAYBE, GROUP}
use Rattle.answers.specs.Text.{Word, decimal, hex, rule_name, lexeme, flag_list, truth}

-- ---- one element

-- FL: the words of a row's flags, in document 01's order
unfoldable pub set_words : ℕ → List Word
set_words set = flag_list (set_in set flag_words)

-- the flag word at a place of the table
abbrev pub word_at : ℕ → FlagWord
word_at i = get_or flag_words i (flag_word 0 0)

-- a word where it is there, after a bar where any stands before it
abbrev pub after_bar : Bool → Bool → ℕ → List Word
after_bar any there k = cond there (cond any (lexeme «|») [] ++ lexeme k) []

-- a numeric's FL: the words of its flags, then its size and its display (document 02, W-204)
unfoldable pub numeric_flags : ℕ → ℕ → List Word
numeric_flags set size_and_display =
    flag_list (set_in set flag_words ++ (size_word (size_of size_and_display) ∷ display_word (display_of size_and_display) ∷ []))

-- an option's flags: `0` or `DEFAULT`
unfoldable pub option_flags : ℕ → List Word
option_flags set = cond (flag.is_set flag.OPTION_DEFAULT set) (lexeme «DEFAULT») (decimal 0)

-- an element that is no sign and no reserved word, of the value
unfoldable pub element_words : ℕ → ℕ → List Word
element_words e v =
    cond (eqb e NAME) (rule_name v)
    (cond (eqb e OPTION_FLAGS) (option_flags v)
    (cond (eqb e TRUTH) (truth v)
    (cond (eqb e FLAG_LIST) (set_words v)
    (cond (eqb e H8) (hex 8 v)
    (cond (eqb e H4) (hex 4 v)
    (cond (eqb e H2) (hex 2 v)
    (decimal v)))))))

-- ---- the parts that may be absent

-- one that starts with the word is printed: no name of a question, its number always, a step always, a default where it is written, flags where
-- it has them
abbrev pub shown_by : Bool → Bool → ℕ → Bool
shown_by flags_shown default_shown w =
    cond (eqb w «name») false
    (cond (eqb w «questionid») true
    (cond (eqb w «step») true
    (cond (eqb w «default») default_shown flags_shown)))

-- some word stands in a list
abbrev pub filled : List FlagWord → Bool
filled [] = false
filled (w ∷ ws) = true

-- by a row's flags
abbrev pub any_flag : ℕ → Bool
any_flag set = filled (set_in set flag_words)

-- a numeric always has flags: its size and its display
abbrev pub has_flags : ℕ → ℕ → Bool
has_flags code set = eqb code NUMERIC || any_flag set

abbrev pub has_default : ℕ → Bool
has_default set = flag.is_set flag.HAS_DEFAULT set

-- ---- values

-- where a value comes from: a source below this is a column of the row, those from here on are the parts of a GUID
abbrev pub GUID : ℕ
GUID = 64

-- a column of the row r, or a part of the GUID in its columns a and b
unfoldable pub value_from : List ℕ → ℕ → ℕ
value_from r source =
    let a = get_or r column.A 0 in
    let b = get_or r column.B 0 in
    cond (ltb source GUID) (get_or r source 0)
    (get_or (a / 2 ^ 32 ∷ a / 2 ^ 16 % 2 ^ 16 ∷ a % 2 ^ 16
    ∷ b / 256 ^ 7 % 256 ∷ b / 256 ^ 6 % 256 ∷ b / 256 ^ 5 % 256 ∷ b / 256 ^ 4 % 256 ∷ b / 256 ^ 3 % 256 ∷ b / 256 ^ 2 % 256 ∷ b / 256 % 256
    ∷ [])
    (source - GUID) (b / 256 ^ 0 % 256))

-- how many values are passed with one more; no phrase has as many
abbrev pub LAST : ℕ
LAST = 256

abbrev pub one_more : ℕ → ℕ
one_more n = cond (ltb n LAST) (n + 1) n

-- ---- a phrase

-- which parts are shown, and the words of an element by the values passed before it
module _ (shown : ℕ → Bool) (element : ℕ → ℕ → List Word) where
  -- the element e with the one after it, where so many are left out still and so many values are passed: its words, and the numbers then
  unfoldable pub added : ℕ → ℕ → ℕ → List Word
  added skip passed e = cond (eqb skip 0) (cond (eqb e MAYBE) [] (cond (ltb e NAME) (lexeme e) (element e passed))) []

  unfoldable pub skip_after : ℕ → ℕ → ℕ → ℕ
  skip_after skip e next = cond (eqb skip 0) (cond (eqb e MAYBE) (cond (shown next) 0 GROUP) 0) (skip - 1)

  unfoldable pub passed_after : ℕ → ℕ → ℕ → ℕ → ℕ
  passed_after skip passed e next =
      cond (eqb skip 0) (cond (eqb e MAYBE) (cond (shown next) passed (one_more passed)) (cond (ltb e NAME) passed (one_more passed))) passed

  unfoldable pub phrase_from : List ℕ → ℕ → ℕ → List Word
  phrase_from [] skip passed = []
  phrase_from (e ∷ p) skip passed = added skip passed e ++ phrase_from p (skip_after skip e (get_or p 0 0)) (passed_after skip passed e (get_or p 0 0))

-- of the row r, whose values come from the sources
abbrev pub shown_in : List ℕ → ℕ → Bool
shown_in r w = shown_by (has_flags (get_or r column.CODE 0) (get_or r column.FLAGS 0)) (has_default (get_or r column.FLAGS 0)) w

-- an element of the row r, whose value comes from a source; a numeric's FL is of two columns
unfoldable pub element_of : List ℕ → ℕ → ℕ → List Word
element_of r e source =
    cond (eqb e NUMERIC_FLAGS) (numeric_flags (get_or r column.FLAGS 0) (get_or r column.SIZE 0)) (element_words e (value_from r source))

abbrev pub element_in : List ℕ → List ℕ → ℕ → ℕ → List Word
element_in sources r e passed = element_of r e (get_or sources passed 0)

unfoldable pub phrase_words : List ℕ → List ℕ → List ℕ → List Word
phrase_words pattern sources r = phrase_from (shown_in r) (element_in sources r) pattern 0 0
