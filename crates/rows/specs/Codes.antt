-- The codes of rows, in the order of document 01's table, and which of them are questions and parts of expressions.
use Rattle.std.specs.Prelude.{ℕ, Bool, false, ◌||◌, List, [], ◌∷◌, eqb}

-- ---- the form set

abbrev pub FORM_SET : ℕ
FORM_SET = 0x0E

-- ---- a form, and what shows a text

abbrev pub FORM : ℕ
FORM = 0x01

abbrev pub SUBTITLE : ℕ
SUBTITLE = 0x02

abbrev pub TEXT : ℕ
TEXT = 0x03

-- ---- the questions

abbrev pub GOTO : ℕ
GOTO = 0x0F

abbrev pub CHECKBOX : ℕ
CHECKBOX = 0x06

abbrev pub NUMERIC : ℕ
NUMERIC = 0x07

abbrev pub ONE_OF : ℕ
ONE_OF = 0x05

-- ---- an option of a oneof, a label and a rule

abbrev pub OPTION : ℕ
OPTION = 0x09

abbrev pub LABEL : ℕ
LABEL = 0x5F

abbrev pub RULE : ℕ
RULE = 0x18

-- ---- the conditions

abbrev pub SUPPRESS_IF : ℕ
SUPPRESS_IF = 0x0A

abbrev pub GRAY_OUT_IF : ℕ
GRAY_OUT_IF = 0x19

abbrev pub DISABLE_IF : ℕ
DISABLE_IF = 0x1E

-- ---- the operators

abbrev pub OR : ℕ
OR = 0x16

abbrev pub AND : ℕ
AND = 0x15

abbrev pub NOT : ℕ
NOT = 0x17

abbrev pub BITWISE_OR : ℕ
BITWISE_OR = 0x36

abbrev pub BITWISE_AND : ℕ
BITWISE_AND = 0x35

abbrev pub EQUAL : ℕ
EQUAL = 0x2F

abbrev pub NOT_EQUAL : ℕ
NOT_EQUAL = 0x30

abbrev pub GREATER_THAN : ℕ
GREATER_THAN = 0x31

abbrev pub GREATER_EQUAL : ℕ
GREATER_EQUAL = 0x32

abbrev pub LESS_THAN : ℕ
LESS_THAN = 0x33

abbrev pub LESS_EQUAL : ℕ
LESS_EQUAL = 0x34

abbrev pub SHIFT_LEFT : ℕ
SHIFT_LEFT = 0x38

abbrev pub SHIFT_RIGHT : ℕ
SHIFT_RIGHT = 0x39

abbrev pub ADD : ℕ
ADD = 0x3A

abbrev pub SUBTRACT : ℕ
SUBTRACT = 0x3B

abbrev pub MULTIPLY : ℕ
MULTIPLY = 0x3C

abbrev pub DIVIDE : ℕ
DIVIDE = 0x3D

abbrev pub MODULO : ℕ
MODULO = 0x3E

-- ---- the constants

abbrev pub NUMBER : ℕ
NUMBER = 0x45

abbrev pub TRUE : ℕ
TRUE = 0x46

abbrev pub FALSE : ℕ
FALSE = 0x47

abbrev pub ZERO : ℕ
ZERO = 0x52

abbrev pub ONE : ℕ
ONE = 0x53

abbrev pub ONES : ℕ
ONES = 0x54

abbrev pub UNDEFINED : ℕ
UNDEFINED = 0x55

-- ---- the references

abbrev pub QUESTION_REF : ℕ
QUESTION_REF = 0x40

abbrev pub RULE_REF : ℕ
RULE_REF = 0x3F

-- ---- kinds of codes

-- whether a number stands in a list
unfoldable pub member : ℕ → List ℕ → Bool
member n [] = false
member n (x ∷ xs) = eqb n x || member n xs

-- "Questions are gotos, checkboxes, numerics and oneofs" (document 01, "Rows")
unfoldable pub questions : List ℕ
questions = GOTO ∷ CHECKBOX ∷ NUMERIC ∷ ONE_OF ∷ []

-- the last three lines of document 01's table: operators, constants and references
unfoldable pub expressions : List ℕ
expressions =
    OR ∷ AND ∷ NOT ∷ BITWISE_OR ∷ BITWISE_AND ∷ EQUAL ∷ NOT_EQUAL ∷ GREATER_THAN ∷ GREATER_EQUAL ∷ LESS_THAN ∷ LESS_EQUAL
    ∷ SHIFT_LEFT ∷ SHIFT_RIGHT ∷ ADD ∷ SUBTRACT ∷ MULTIPLY ∷ DIVIDE ∷ MODULO ∷ NUMBER ∷ TRUE ∷ FALSE ∷ ZERO ∷ ONE ∷ ONES
    ∷ UNDEFINED ∷ QUESTION_REF ∷ RULE_REF ∷ []

-- whether a row of this code is a question
unfoldable pub is_question : ℕ → Bool
is_question c = member c questions

-- whether a row of this code is part of an expression
unfoldable pub is_expression : ℕ → Bool
is_expression c = member c expressions
