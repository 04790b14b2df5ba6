-- What questions answer, by a list of saved answers (document 02, W-202).
use Rattle.std.specs.Prelude.{ℕ, ◌+◌, ◌*◌, ◌/◌, ◌<◌, Bool, true, false, not, cond, List, [], ◌∷◌, eqb, length, get_or}
use Rattle.std.proofs.Math.Option.{Option, none, some}
use Rattle.numbers.specs.Numbers.{used}
use Rattle.operators.specs.declared.Scalar.{Scalar}
use Rattle.operators.specs.declared.Scalar.TheVariants.{Boolean, Number, Undefined}

-- "two 64-bit words each, question number then value": the value of the first answer for question n, none where no answer is for it; an odd last word
-- is no answer
unfoldable pub saved_for : ℕ → List ℕ → Option ℕ
saved_for n (question ∷ value ∷ more) = cond (eqb question n) (some value) (saved_for n more)
saved_for n (question ∷ []) = none
saved_for n [] = none

-- "a checkbox answers FALSE for 0 and TRUE otherwise, a goto or a missing answer is undefined"
unfoldable pub by_kind : (goto checkbox : Bool) → Option ℕ → Scalar
by_kind true checkbox saved = Undefined
by_kind false checkbox none = Undefined
by_kind false true (some value) = Boolean (not (eqb value 0))
by_kind false false (some value) = Number value

-- what question n answers: the maps hold the numbers of gotos and of checkboxes
unfoldable pub answered : (answers gotos checkboxes : List ℕ) → ℕ → Scalar
answered answers gotos checkboxes n = by_kind (used gotos n) (used checkboxes n) (saved_for n answers)

-- ---- "ascending by number"

-- how many answers there are
abbrev pub count : List ℕ → ℕ
count answers = length answers / 2

-- the question of answer k, and its value
abbrev pub question_of : List ℕ → ℕ → ℕ
question_of answers k = get_or answers (2 * k) 0

abbrev pub value_of : List ℕ → ℕ → ℕ
value_of answers k = get_or answers (2 * k + 1) 0

-- each answer is for a higher number than the one before it
abbrev pub Ascending : List ℕ → Type 0
Ascending answers = (k : ℕ) → k + 1 < count answers → question_of answers k < question_of answers (k + 1)
