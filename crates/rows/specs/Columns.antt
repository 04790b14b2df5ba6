-- The columns of a row (document 01, "Rows", and document 02, W-204).
use Rattle.std.specs.Prelude.{ℕ}

-- how many numbers a row has
abbrev pub ROW : ℕ
ROW = 13

abbrev pub CODE : ℕ
CODE = 0

-- the parent's row
abbrev pub PARENT : ℕ
PARENT = 1

-- the own number of a form, a question, a label or a rule
abbrev pub OWN : ℕ
OWN = 2

-- the first string
abbrev pub FIRST : ℕ
FIRST = 3

-- the second string
abbrev pub SECOND : ℕ
SECOND = 4

abbrev pub FLAGS : ℕ
FLAGS = 5

-- a, b, c, d: what they hold depends on the code
abbrev pub A : ℕ
A = 6

abbrev pub B : ℕ
B = 7

abbrev pub C : ℕ
C = 8

abbrev pub D : ℕ
D = 9

-- the place plus one of the name that a question or rule declares; 0 for none
abbrev pub NAME : ℕ
NAME = 10

-- the place of the first token; of an operator, the operator itself
abbrev pub PLACE : ℕ
PLACE = 11

-- "size times 4 plus 0, 1 or 2 for the display" of a numeric; 0 for other rows
abbrev pub SIZE : ℕ
SIZE = 12
