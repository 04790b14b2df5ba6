-- Small lists of answers, computed.
use mathlib.Core.Path.{◌≡◌, refl}
use mathlib.Core.Bool.{true, false}
use mathlib.Core.List.{[], ◌∷◌}
use mathlib.Core.Option.{none, some}
use Rattle.operators.specs.declared.Scalar.TheVariants.{Boolean, Number, Undefined}
use Rattle.saved_answers.specs.Answers.{saved_for, by_kind}
use Rattle.saved_answers.specs.Search.{halved, lowest, searched}

-- question 5 is answered 2 and question 9 is answered 0; the odd last word is no answer
saved_five : saved_for 5 (5 ∷ 2 ∷ 9 ∷ 0 ∷ 7 ∷ []) ≡ some 2
unfolding saved_for
saved_five = refl

saved_seven : saved_for 7 (5 ∷ 2 ∷ 9 ∷ 0 ∷ 7 ∷ []) ≡ none
unfolding saved_for
saved_seven = refl

searched_nine : searched (5 ∷ 2 ∷ 9 ∷ 0 ∷ 7 ∷ []) 9 ≡ some 0
unfolding halved lowest searched
searched_nine = refl

searched_seven : searched (5 ∷ 2 ∷ 9 ∷ 0 ∷ 7 ∷ []) 7 ≡ none
unfolding halved lowest searched
searched_seven = refl

-- the search is for ascending answers: among others it need not find one that is there
searched_falling : searched (9 ∷ 0 ∷ 5 ∷ 2 ∷ []) 9 ≡ none
unfolding halved lowest searched
searched_falling = refl

-- 2 answered to a checkbox, to a numeric or oneof, to a goto
checkbox_two : by_kind false true (some 2) ≡ Boolean true
unfolding by_kind
checkbox_two = refl

numeric_two : by_kind false false (some 2) ≡ Number 2
unfolding by_kind
numeric_two = refl

goto_two : by_kind true false (some 2) ≡ Undefined
unfolding by_kind
goto_two = refl
