-- Which words are hex numbers, the value of a number, and a GUID part's digits (document 01, Tokens and Grammar).
-- Assumes nothing.
use Rattle.std.specs.Prelude.{ℕ, ◌+◌, ◌-◌, ◌*◌, ◌^◌, Bool, cond, ◌&&◌, List, [], ◌∷◌, eqb, ltb, length, get_or, drop, Option, Some, None}
use Rattle.lexemes.specs.Bytes.{is_hex_digit}
use Rattle.lexemes.specs.Words.{all, word}

-- `0x` and one or more hex digits
unfoldable pub is_hex : List ℕ → Bool
is_hex w = ltb 2 (length w) && eqb (get_or w 0 0) 48 && eqb (get_or w 1 0) 120 && all is_hex_digit (drop 2 w)

-- the value of a digit of base 10 or 16
abbrev pub digit_value : ℕ → ℕ
digit_value b = cond (ltb b 58) (b - 48) (cond (ltb b 71) (b - 55) (b - 87))

-- digits in a base, after digits of the value v
unfoldable pub value_from : ℕ → ℕ → List ℕ → ℕ
value_from base v [] = v
value_from base v (b ∷ s) = value_from base (v * base + digit_value b) s

-- the second byte of a hex number is `x`
abbrev pub marks_hex : List ℕ → Bool
marks_hex w = eqb (get_or w 1 0) 120

-- the value of a number, however large: hex digits after `0x`, or decimal digits
unfoldable pub numeral : List ℕ → ℕ
numeral w =
    let hex = value_from 16 0 (drop 2 w) in
    let decimal = value_from 10 0 w in
    cond (marks_hex w) hex decimal

-- the value as 64 bits hold it
abbrev pub fitted : ℕ → Option ℕ
fitted v = cond (ltb v (2 ^ 64)) (Some v) None

-- the value of the number that starts at a place of a source
unfoldable pub value_at : List ℕ → ℕ → Option ℕ
value_at s at = fitted (numeral (word (drop at s)))

-- how many digits follow the `0x` of the number that starts at a place
unfoldable pub digits_at : List ℕ → ℕ → ℕ
digits_at s at = length (word (drop at s)) - 2
