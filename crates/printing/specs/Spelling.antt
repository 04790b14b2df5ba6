-- The words of a resolved text, the tokens that they spell, and where they stand (document 01, Tokens and Resolved text).
-- Assumes nothing.
use Rattle.std.specs.Prelude.{◌≡◌, List, [], ◌∷◌, ◌++◌, ℕ, suc, ◌+◌, ◌%◌, ◌^◌, ◌<◌, length, get_or, drop}
use Rattle.lexemes.specs.Classes.{NAME, HEX, DECIMAL}
use Rattle.lexemes.specs.Lexemes.{bytes, lexemes}
use Rattle.ll1.specs.Trees.{Token, token}
use Rattle.answers.specs.Text.{Word, decimal_digits, hex_digits, gap_after}

-- ---- words

-- "other numbers decimal"
abbrev pub decimal_word : ℕ → Word
decimal_word v = decimal_digits (suc v) v []

-- "GUID parts `0x` with full digits in lower case": so many digits
abbrev pub hex_word : ℕ → ℕ → Word
hex_word width v = bytes "0x" ++ hex_digits width v

-- "rules are `R1`, `R2`, .."
abbrev pub name_word : ℕ → Word
name_word n = 82 ∷ decimal_word n

-- a word spells a token of a class and a value: a number's value, the number of the rule that a name stands for, and 0 for signs and reserved words
pub data SpellsToken : Word → (class value : ℕ) → Type 0 where
  -- a sign or a reserved word
  a_lexeme : (k : ℕ) → k < NAME → SpellsToken (get_or lexemes k []) k 0
  a_decimal : (v : ℕ) → SpellsToken (decimal_word v) DECIMAL v
  a_hex : (width v : ℕ) → 0 < width → SpellsToken (hex_word width v) HEX (v % 16 ^ width)
  a_name : (n : ℕ) → SpellsToken (name_word n) NAME n

-- words, one for each token; these tokens have a value in the place's stead
pub data Spelled : List Word → List Token → Type 0 where
  spelled_none : Spelled [] []
  spelled_next : {w : Word} {k v : ℕ} {ws : List Word} {ts : List Token} → SpellsToken w k v → Spelled ws ts → Spelled (w ∷ ws) (token k v ∷ ts)

-- ---- places

-- the tokens with their words' places, the first of which is `at`: a word's place is the number of bytes before it
unfoldable pub placed : ℕ → List Word → List Token → List Token
placed at [] ts = []
placed at (w ∷ ws) [] = []
placed at (w ∷ ws) (token k v ∷ ts) = token k at ∷ placed (at + length w + 1) ws ts

-- the word w stands at the place p of a text, and its gap after it
pub record Stands (s : List ℕ) (p : ℕ) (w : Word) : Type 0 where
  pub later : List ℕ
  pub here : drop p s ≡ w ++ gap_after w ∷ later

-- words, tokens with places and tokens with values, one for one: each word stands at its token's place and spells the token's value
pub data Standing (s : List ℕ) : List Word → (places values : List Token) → Type 0 where
  standing_none : Standing s [] [] []
  standing_next :
      {w : Word} {k p v : ℕ} {ws : List Word} {ts us : List Token}
      → Stands s p w → SpellsToken w k v → Standing s ws ts us → Standing s (w ∷ ws) (token k p ∷ ts) (token k v ∷ us)
