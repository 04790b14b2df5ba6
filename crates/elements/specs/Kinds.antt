-- The elements of a phrase. Below the kinds here, which start above all classes, an element is a token of that class.
-- Assumes nothing.
use Rattle.std.specs.Prelude.{ℕ, Bool, cond, ◌||◌, List, [], ◌∷◌, eqb, ltb, leb}
use Rattle.lexemes.specs.Classes.{«DEFAULT», «FALSE», «TRUE», NAME, HEX, DECIMAL}
use Rattle.grammar.specs.Rules.{<H8>, <H4>, <H2>, <id>, <small>, <large>, <zero>}
use Rattle.grammar.specs.Ranges.{Range, free, range_of}
use Rattle.grammar.specs.Parts.{mark, when}
use Rattle.grammar.specs.Flags.{flag_words, numeric_words, classes_of}

-- a number of 1 to 65,535: of a form, a goto, a written question or a questionref
abbrev pub ID : ℕ
ID = 128

-- a number of 0 to 65,535: of a string or a label
abbrev pub SMALL : ℕ
SMALL = 129

-- any other number, below 2^64
abbrev pub LARGE : ℕ
LARGE = 130

-- a numeric's minimum, maximum, step or default: whether it fits the numeric's size is told when all of these are read
abbrev pub NUMERIC_VALUE : ℕ
NUMERIC_VALUE = 131

-- an option's flags: the number 0, or DEFAULT
abbrev pub OPTION_FLAGS : ℕ
OPTION_FLAGS = 132

-- what a questionref names: a name, or a number of 1 to 65,535
abbrev pub REFERENCE : ℕ
REFERENCE = 133

-- TRUE or FALSE
abbrev pub TRUTH : ℕ
TRUTH = 134

-- FL
abbrev pub FLAG_LIST : ℕ
FLAG_LIST = 135

-- FL of a numeric
abbrev pub NUMERIC_FLAGS : ℕ
NUMERIC_FLAGS = 136

-- a hex number of at most 8, 4 or 2 digits
abbrev pub H8 : ℕ
H8 = 137

abbrev pub H4 : ℕ
H4 = 138

abbrev pub H2 : ℕ
H2 = 139

-- the next four elements may be absent; they are there where the next token is the first of them
abbrev pub MAYBE : ℕ
MAYBE = 140

-- how many elements MAYBE speaks of
abbrev pub GROUP : ℕ
GROUP = 4

abbrev pub numbers : List ℕ
numbers = DECIMAL ∷ HEX ∷ []

abbrev pub flag_classes : List ℕ
flag_classes = classes_of flag_words

abbrev pub numeric_classes : List ℕ
numeric_classes = classes_of numeric_words

-- a list of words with `|` between
abbrev pub is_flag_list : ℕ → Bool
is_flag_list e = eqb e FLAG_LIST || eqb e NUMERIC_FLAGS

-- the classes of the tokens that an element can be, or start with
unfoldable pub starts_of : ℕ → List ℕ
starts_of e =
    cond (ltb e ID) (e ∷ [])
    -- ID, SMALL, LARGE, NUMERIC_VALUE
    (cond (ltb e OPTION_FLAGS) numbers
    (cond (eqb e OPTION_FLAGS) (DECIMAL ∷ HEX ∷ «DEFAULT» ∷ [])
    (cond (eqb e REFERENCE) (NAME ∷ numbers)
    (cond (eqb e TRUTH) («TRUE» ∷ «FALSE» ∷ [])
    (cond (eqb e FLAG_LIST) flag_classes
    (cond (eqb e NUMERIC_FLAGS) numeric_classes
    -- H8, H4, H2
    (HEX ∷ [])))))))

-- something of the element is kept; of a sign or a reserved word nothing is
abbrev pub is_kept : ℕ → Bool
is_kept e = eqb e NAME || leb ID e

-- the range that a token of class k must keep as the element
unfoldable pub element_range : ℕ → ℕ → Range
element_range e k =
    cond (eqb e ID) (range_of <id>)
    (cond (eqb e SMALL) (range_of <small>)
    (cond (eqb e LARGE) (range_of <large>)
    (cond (eqb e OPTION_FLAGS) (cond (eqb k «DEFAULT») free (range_of <zero>))
    (cond (eqb e REFERENCE) (cond (eqb k NAME) free (range_of <id>))
    (cond (eqb e H8) (range_of <H8>)
    (cond (eqb e H4) (range_of <H4>)
    (cond (eqb e H2) (range_of <H2>)
    free)))))))

-- what a token of class k, whose mark is m, keeps as the element: of an option's flags the mark of DEFAULT, of a truth 2 for TRUE and 1 for FALSE
unfoldable pub element_entry : ℕ → ℕ → ℕ → ℕ
element_entry e k m =
    cond (eqb e OPTION_FLAGS) (when (eqb k «DEFAULT») m)
    (cond (eqb e TRUTH) (cond (eqb k «TRUE») 2 1) m)

-- the mark of a name or 0, and that of a number or 0
unfoldable pub reference_entries : ℕ → ℕ → List ℕ
reference_entries k m = cond (eqb k NAME) (m ∷ 0 ∷ []) (0 ∷ m ∷ [])

-- the same of a token at the place p
unfoldable pub element_entries : ℕ → ℕ → ℕ → List ℕ
element_entries e k p = cond (eqb e REFERENCE) (reference_entries k (mark p)) (element_entry e k (mark p) ∷ [])
