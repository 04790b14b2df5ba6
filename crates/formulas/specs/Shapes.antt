-- The words of a resolved text, trees over them ("shapes"), and what it means that a text reads as they say.
-- Assumes nothing.
use Rattle.std.specs.Prelude.{◌≡◌, List, [], ◌∷◌, ◌++◌, map, ℕ, zero, suc, ◌^◌, ◌<◌, ◌≤◌, get_or, drop, Some}
use Rattle.lexemes.specs.Classes.{NAME, HEX, DECIMAL}
use Rattle.lexemes.specs.Lexemes.{bytes, lexemes}
use Rattle.values.specs.Numbers.{value_at, digits_at}
use Rattle.lexemes.specs.Words as words
use Rattle.ll1.specs.Trees.{Token, token, Trees, nil, leaf, node}
use Rattle.answers.specs.Text.{Word, decimal_digits, hex_digits}

-- ---- words of a resolved text

-- a sign or reserved word of a class; a decimal number; so many hex digits; the name of a rule
pub data Lexed : Type 0 where
  sign decimal rule_name : ℕ → Lexed
  hex : (width value : ℕ) → Lexed

-- R and the rule's number
abbrev pub rule_word : ℕ → Word
rule_word n = 82 ∷ decimal_digits (suc n) n []

abbrev pub word : Lexed → Word
word (sign k) = get_or lexemes k []
word (decimal v) = decimal_digits (suc v) v []
word (rule_name n) = rule_word n
word (hex w v) = bytes "0x" ++ hex_digits w v

-- the token of a word, with its value for a place
abbrev pub token_of : Lexed → Token
token_of (sign k) = token k 0
token_of (decimal v) = token DECIMAL v
token_of (rule_name n) = token NAME n
token_of (hex w v) = token HEX v

-- what can be read back
abbrev pub Valid : Lexed → Type 0
Valid (sign k) = k < NAME
Valid (decimal v) = v < 2 ^ 64
Valid (rule_name n) = n < 2 ^ 64
Valid (hex w v) = (0 < w) × (w ≤ 8) × (v < 16 ^ w)

pub data AllValid : List Lexed → Type 0 where
  none_valid : AllValid []
  more_valid : {l : Lexed} {ls : List Lexed} → Valid l → AllValid ls → AllValid (l ∷ ls)

-- ---- trees over them

pub data Shape : Type 0 where
  s_nil : Shape
  s_leaf : Lexed → (beside : Shape) → Shape
  s_node : (rule alternative : ℕ) (under beside : Shape) → Shape

-- the tree with each word's class and value
abbrev pub flat : Shape → Trees
flat s_nil = nil
flat (s_leaf l x) = leaf (token_of l) (flat x)
flat (s_node A i c x) = node A i (flat c) (flat x)

-- the words, from left to right
abbrev pub lexed : Shape → List Lexed
lexed s_nil = []
lexed (s_leaf l x) = l ∷ lexed x
lexed (s_node A i c x) = lexed c ++ lexed x

abbrev pub spelling : Shape → List Word
spelling x = map word (lexed x)

-- ---- what a text reads

-- at the place p of the text t stands the word, of class k
pub data Read (t : List ℕ) : (k p : ℕ) → Lexed → Type 0 where
  read_sign : {k p : ℕ} → Read t k p (sign k)
  read_decimal : {p v : ℕ} → value_at t p ≡ Some v → Read t DECIMAL p (decimal v)
  read_rule : {p n : ℕ} → value_at t p ≡ Some n → words.word (drop p t) ≡ rule_word n → Read t NAME p (rule_name n)
  read_hex : {p w v : ℕ} → value_at t p ≡ Some v → digits_at t p ≡ w → Read t HEX p (hex w v)

-- the tokens are these words
pub data Reads (t : List ℕ) : List Token → List Lexed → Type 0 where
  reads_none : Reads t [] []
  reads_more : {k p : ℕ} {l : Lexed} {ts : List Token} {ls : List Lexed} → Read t k p l → Reads t ts ls → Reads t (token k p ∷ ts) (l ∷ ls)

-- ---- the tree of a shape over a text's tokens

pub data Over (t : List ℕ) : Trees → Shape → Type 0 where
  over_nil : Over t nil s_nil
  over_leaf : {k p : ℕ} {l : Lexed} {f : Trees} {x : Shape} → Read t k p l → Over t f x → Over t (leaf (token k p) f) (s_leaf l x)
  over_node : {A i : ℕ} {c f : Trees} {d x : Shape} → Over t c d → Over t f x → Over t (node A i c f) (s_node A i d x)

-- ---- parts of a shape

-- the shape under the n-th tree, and the alternative that it takes
abbrev pub part : ℕ → Shape → Shape
part n s_nil = s_nil
part zero (s_leaf l x) = s_nil
part (suc n) (s_leaf l x) = part n x
part zero (s_node A i c x) = c
part (suc n) (s_node A i c x) = part n x

abbrev pub taken : ℕ → Shape → ℕ
taken n s_nil = 0
taken zero (s_leaf l x) = 0
taken (suc n) (s_leaf l x) = taken n x
taken zero (s_node A i c x) = i
taken (suc n) (s_node A i c x) = taken n x
