-- Worked examples: the text of numerics' rows (document 02, W-204 and W-208), which has flags always, size and display after the others, and the step always.
-- Assumes nothing.
use Prim.Native.String.{String}
use mathlib.Core.Path.{◌≡◌, refl}
use mathlib.Core.List.{List, [], ◌∷◌, ◌++◌}
use Rattle.lexemes.specs.Lexemes.{lexemes, signs, reserved}
use Rattle.answers.specs.Text.{Word, words, decimal_digits, opening}

-- question 1 with prompt and help 0
abbrev text_with : String → String → List Word
text_with fl limits = words "numeric questionid = 1 , prompt = STRING_TOKEN ( 0 ) , help = STRING_TOKEN ( 0 ) , flags =" ++ words fl ++ words limits

-- of `numeric .., flags = DISPLAY_INT_DEC | RESET_REQUIRED | NUMERIC_SIZE_1 | READ_ONLY, minimum = 251, maximum = 5, endnumeric;`
with_others :
    opening (7 ∷ 1 ∷ 1 ∷ 0 ∷ 0 ∷ 17 ∷ 251 ∷ 5 ∷ 1 ∷ 0 ∷ 0 ∷ 140 ∷ 4 ∷ [])
    ≡ text_with "READ_ONLY | RESET_REQUIRED | NUMERIC_SIZE_1 | DISPLAY_INT_DEC" ", minimum = 251 , maximum = 5 , step = 1 , endnumeric ;"
unfolding lexemes signs reserved decimal_digits
with_others = refl

-- of one that names no flags, no size, no display and no step
by_itself :
    opening (7 ∷ 1 ∷ 1 ∷ 0 ∷ 0 ∷ 0 ∷ 0 ∷ 1 ∷ 1 ∷ 0 ∷ 0 ∷ 140 ∷ 33 ∷ [])
    ≡ text_with "NUMERIC_SIZE_8 | DISPLAY_UINT_DEC" ", minimum = 0 , maximum = 1 , step = 1 , endnumeric ;"
unfolding lexemes signs reserved decimal_digits
by_itself = refl
