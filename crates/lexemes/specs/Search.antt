-- How the code searches the list of reserved words: a word's two numbers are compared with those of the words from the first one with its
-- letter on. No public contract cites this.
-- Assumes nothing.
use Rattle.std.specs.Prelude.{ℕ, suc, ◌+◌, ◌-◌, ◌%◌, cond, ◌&&◌, List, [], ◌∷◌, eqb, ltb, get_or}
use Rattle.wordlist.specs.Filled.{first_of, rest_of}
use Rattle.lexemes.specs.Classes.{SIGNS, NAME}
use Rattle.lexemes.specs.Lexemes.{reserved}

-- how many reserved words there are
abbrev pub COUNT : ℕ
COUNT = NAME - SIGNS

-- the place of the first text with a letter, or the list's length where there is none
unfoldable pub letter_place : ℕ → List (List ℕ) → ℕ
letter_place b [] = 0
letter_place b (v ∷ vs) = let later = suc (letter_place b vs) in cond (eqb b (get_or v 0 0)) 0 later

-- where the search for a word with a letter starts: at the first reserved word with it, or at 0 where there is none
unfoldable pub letter_start : ℕ → ℕ
letter_start b = let k = letter_place b reserved in cond (ltb k COUNT) k 0

-- the place of the text with two numbers in a list whose first text has the place i, as long as the letters are the same, or `none`
unfoldable pub scan : ℕ → ℕ → ℕ → ℕ → List (List ℕ) → ℕ
scan none i x y [] = none
scan none i x y (v ∷ vs) =
    let later = scan none (i + 1) x y vs in
    cond (eqb (first_of v) x && eqb (rest_of v) y) i (cond (eqb (first_of v % 256) (x % 256)) later none)
