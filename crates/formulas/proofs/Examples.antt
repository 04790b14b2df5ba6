-- Small expressions, computed: their words with the fewest parentheses, how deep they nest, how many values wait.
-- Assumes nothing.
use mathlib.Core.Path.{◌≡◌, refl}
use mathlib.Core.List.{List, map}
use Prim.Native.Nat.{ℕ, zero, suc}
use Rattle.lexemes.specs.Lexemes.{signs, reserved, lexemes}
use Rattle.answers.specs.Expression.{or, and, bit_or, bit_and, equal, less, shift_left, add, subtract, multiply}
use Rattle.answers.specs.Text.{Word, words, decimal_digits}
use Rattle.formulas.specs.Shapes.{word}
use Rattle.formulas.specs.Formula.{Formula, f_number, f_not, f_binary, nest}
use Rattle.formulas.specs.Words.{print}
use Rattle.formulas.specs.Need.{need, MOST_WAITING}

abbrev one : Formula
one = f_number 1

abbrev two : Formula
two = f_number 2

abbrev three : Formula
three = f_number 3

-- the text of a whole expression
abbrev text : Formula → List Word
text e = map word (print 9 e)

-- each level groups to the left
left_bare : text (f_binary subtract (f_binary subtract one two) three) ≡ words "1 - 2 - 3"
unfolding signs reserved lexemes decimal_digits
left_bare = refl

right_grouped : text (f_binary subtract one (f_binary subtract two three)) ≡ words "1 - ( 2 - 3 )"
unfolding signs reserved lexemes decimal_digits
right_grouped = refl

-- a tighter level needs no parentheses, a looser one does
tighter_bare : text (f_binary add one (f_binary multiply two three)) ≡ words "1 + 2 * 3"
unfolding signs reserved lexemes decimal_digits
tighter_bare = refl

not_grouped : text (f_not (f_binary or one two)) ≡ words "NOT ( 1 OR 2 )"
unfolding signs reserved lexemes decimal_digits
not_grouped = refl

-- NOT and its parentheses are two groups, one in the other; beside one another groups nest no deeper
not_nests : nest 9 (f_not (f_binary or one two)) ≡ 2
not_nests = refl

beside : nest 9 (f_binary add (f_not one) (f_not two)) ≡ 1
beside = refl

-- 1 and 2 wait while 3 is evaluated
three_wait : need (f_binary subtract one (f_binary subtract two three)) ≡ 3
unfolding need
three_wait = refl

two_wait : need (f_binary subtract (f_binary subtract one two) three) ≡ 2
unfolding need
two_wait = refl

-- ---- the bounds are reached: nine levels, each with a group as its last operand, 33 times

abbrev rung : Formula → Formula
rung e =
    f_binary or one (f_binary and one (f_binary bit_or one (f_binary bit_and one (f_binary equal one (f_binary less one (f_binary shift_left one
    (f_binary add one (f_binary multiply one e))))))))

abbrev rungs : ℕ → Formula
rungs zero = one
rungs (suc n) = rung (rungs n)

deepest_nests : nest 9 (rungs 33) ≡ 32
deepest_nests = refl

deepest_needs : need (rungs 33) ≡ MOST_WAITING
unfolding need
deepest_needs = refl
