-- The token at a place of a source, and all of a source's tokens (document 01, Tokens).
-- Assumes nothing.
use Rattle.std.specs.Prelude.{ℕ, zero, suc, ◌+◌, ◌-◌, Bool, false, not, cond, ◌&&◌, ◌||◌, List, [], ◌∷◌, eqb, ltb, length, get_or, take, drop, Option, Some, None}
use Rattle.lex.specs.declared.Token.{Token}
use Rattle.lexemes.specs.Bytes.{is_blank, is_digit, is_word_byte}
use Rattle.lexemes.specs.Lexemes.{signs, reserved}
use Rattle.lexemes.specs.Words.{all, place_among, word}
use Rattle.values.specs.Numbers.{is_hex}
use Rattle.lexemes.specs.Classes.{SIGNS, HEX, DECIMAL, BAD, END}

-- ---- blanks and comments

-- `//`
abbrev pub opens_comment : ℕ → ℕ → Bool
opens_comment b next = eqb b 47 && eqb next 47

-- of a byte b with the byte `next` after it, in a comment or not: it belongs to what stands between tokens
unfoldable pub is_gap : Bool → ℕ → ℕ → Bool
is_gap comment b next = comment || is_blank b || opens_comment b next

-- a comment is open after it: one ends at the next LF
unfoldable pub in_comment : Bool → ℕ → ℕ → Bool
in_comment comment b next = comment && not (eqb b 10) || not comment && opens_comment b next

-- how many bytes of blanks and comments stand at the start of s
unfoldable pub gap : Bool → List ℕ → ℕ
gap comment [] = 0
gap comment (b ∷ s) =
    let more = suc (gap (in_comment comment b (get_or s 0 0)) s) in
    cond (is_gap comment b (get_or s 0 0)) more 0

-- ---- words and numbers

-- a word that starts with a digit is a number: decimal digits only, or hex; else it is bad. Any other is reserved, or NAME
unfoldable pub word_class : List ℕ → ℕ
word_class w =
    let number = cond (all is_digit w) DECIMAL (cond (is_hex w) HEX BAD) in
    let class = SIGNS + place_among w reserved in
    cond (is_digit (get_or w 0 0)) number class

-- a bad token, and the end of the source, start and end at one place
abbrev pub empty : ℕ → ℕ → Token
empty class at = record { class = class; start = at; end = at }

unfoldable pub word_token : List ℕ → ℕ → Token
word_token w at =
    let class = word_class w in
    cond (eqb class BAD) (empty BAD at) (record { class = class; start = at; end = at + length w })

-- ---- signs

-- the class of the sign that s starts with, SIGNS where there is none; the longest one is taken
unfoldable pub sign_class : List ℕ → ℕ
sign_class s =
    let two = place_among (take 2 s) signs in
    let one = place_among (take 1 s) signs in
    cond (ltb two SIGNS) two one

unfoldable pub sign_token : List ℕ → ℕ → Token
sign_token s at =
    let class = sign_class s in
    cond (ltb class SIGNS) (record { class = class; start = at; end = at + length (get_or signs class []) }) (empty BAD at)

-- ---- tokens

-- the token that s starts with; s is what the source has from `at` on
unfoldable pub token_from : List ℕ → ℕ → Token
token_from [] at = empty END at
token_from (b ∷ s) at =
    let w = word_token (word (b ∷ s)) at in
    let sign = sign_token (b ∷ s) at in
    cond (is_word_byte b) w sign

-- the first token after the blanks and comments that s starts with
unfoldable pub token_after_gap : List ℕ → ℕ → Token
token_after_gap s at = let n = gap false s in token_from (drop n s) (at + n)

-- the first token at or after a place; past the source it is the end
unfoldable pub token_at : List ℕ → ℕ → Token
token_at s at = cond (ltb at (length s)) (token_after_gap (drop at s) at) (empty END (length s))

-- the tokens of s, up to the end or the first bad one, at most as many as the first number
unfoldable pub tokens_within : ℕ → List ℕ → ℕ → List Token
tokens_within zero s at = []
tokens_within (suc n) s at =
    let t = token_after_gap s at in
    let more = tokens_within n (drop (t.end - at) s) t.end in
    cond (ltb t.class BAD) (t ∷ more) (t ∷ [])

-- all of a source's tokens from a place on, the last of them bad or the end
unfoldable pub tokens_from : List ℕ → ℕ → List Token
tokens_from s at = tokens_within (suc (length s)) (drop at s) at

unfoldable pub tokens : List ℕ → List Token
tokens s = tokens_from s 0

-- the place of the first bad token
unfoldable pub bad_among : List Token → Option ℕ
bad_among [] = None
bad_among (t ∷ ts) = let later = bad_among ts in cond (eqb t.class BAD) (Some t.start) later

unfoldable pub first_bad : List ℕ → Option ℕ
first_bad s = bad_among (tokens s)
