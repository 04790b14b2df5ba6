-- FL: "one or more of `READ_ONLY` (1), `INTERACTIVE` (4), `RESET_REQUIRED` (16) with `|` between" (document 01, Grammar), and the words that
-- join a numeric's FL (document 02, W-204).
-- Assumes nothing.
use Rattle.std.specs.Prelude.{ℕ, ◌+◌, List, [], ◌∷◌, ◌++◌, map, Bool, false, cond, ◌&&◌, ◌||◌, eqb}
use Rattle.lexemes.specs.Classes.{«INTERACTIVE», READ_ONLY, RESET_REQUIRED}
use Rattle.lexemes.specs.Classes.{NUMERIC_SIZE_1, NUMERIC_SIZE_2, NUMERIC_SIZE_4, NUMERIC_SIZE_8}
use Rattle.lexemes.specs.Classes.{DISPLAY_INT_DEC, DISPLAY_UINT_DEC, DISPLAY_UINT_HEX}
use Rattle.rows.specs.Flags as flag
use Rattle.rows.specs.Sizes as size
use Rattle.ll1.specs.Trees.{Token, token, Trees, leaves}
use Rattle.ll1.specs.ParseTable.{member}
use Rattle.grammar.specs.Parts.{when}

-- a flag word: its class and its value
pub record FlagWord : Type 0 where
  pub class : ℕ
  pub value : ℕ

abbrev pub flag_word : ℕ → ℕ → FlagWord
flag_word k v = record { class = k; value = v }

-- the words of FL, in its order
abbrev pub flag_words : List FlagWord
flag_words =
    flag_word READ_ONLY flag.READ_ONLY
    ∷ flag_word «INTERACTIVE» flag.INTERACTIVE
    ∷ flag_word RESET_REQUIRED flag.RESET_REQUIRED
    ∷ []

-- the classes of the tokens of trees, from left to right
abbrev pub class_of : Token → ℕ
class_of (token k p) = k

abbrev pub classes : Trees → List ℕ
classes f = map class_of (leaves f)

-- the sum of the words' values, of those that stand among the classes; a repeated word adds nothing
abbrev pub total : List FlagWord → List ℕ → ℕ
total [] ks = 0
total (w ∷ ws) ks = when (member w.class ks) w.value + total ws ks

-- the flags that stand in trees
abbrev pub flags : Trees → ℕ
flags f = total flag_words (classes f)

-- the words that are set among flags, in their order
abbrev pub set_in : ℕ → List FlagWord → List FlagWord
set_in n [] = []
set_in n (w ∷ ws) = let more = set_in n ws in cond (flag.is_set w.value n) (w ∷ more) more

-- ---- a numeric's size and display (document 02, W-204)

-- "Numerics may name one of `NUMERIC_SIZE_1`, `_2`, `_4`, `_8`", each with its bytes,
abbrev pub size_words : List FlagWord
size_words =
    flag_word NUMERIC_SIZE_1 1
    ∷ flag_word NUMERIC_SIZE_2 2
    ∷ flag_word NUMERIC_SIZE_4 4
    ∷ flag_word NUMERIC_SIZE_8 8
    ∷ []

-- "and one of `DISPLAY_INT_DEC`, `DISPLAY_UINT_DEC`, `DISPLAY_UINT_HEX` among their flags", each with its number "in the order above"
abbrev pub display_words : List FlagWord
display_words =
    flag_word DISPLAY_INT_DEC size.INT_DEC
    ∷ flag_word DISPLAY_UINT_DEC size.UINT_DEC
    ∷ flag_word DISPLAY_UINT_HEX size.UINT_HEX
    ∷ []

-- the words of a numeric's FL: "The new words join" the others
abbrev pub numeric_words : List FlagWord
numeric_words = flag_words ++ (size_words ++ display_words)

-- the classes of words
abbrev pub classes_of : List FlagWord → List ℕ
classes_of ws = map (λ w. w.class) ws

-- the value of the word of class k, or another where k is none of the words
abbrev pub value_or : ℕ → List FlagWord → ℕ → ℕ
value_or other [] k = other
value_or other (w ∷ ws) k = cond (eqb w.class k) w.value (value_or other ws k)

-- the value of the first of the words that stands among the classes, or another where none does
abbrev pub first_of : List FlagWord → ℕ → List ℕ → ℕ
first_of ws other [] = other
first_of ws other (k ∷ ks) = value_or (first_of ws other ks) ws k

-- "absent means eight bytes and `DISPLAY_UINT_DEC`"
abbrev pub size_in : Trees → ℕ
size_in f = first_of size_words size.NO_SIZE (classes f)

abbrev pub display_in : Trees → ℕ
display_in f = first_of display_words size.UINT_DEC (classes f)

-- the word of the value v, or another where no word has it
abbrev pub word_or : FlagWord → List FlagWord → ℕ → FlagWord
word_or other [] v = other
word_or other (w ∷ ws) v = cond (eqb w.value v) w (word_or other ws v)

-- the words of a size and of a display: those of an absent one where there is no such word
abbrev pub size_word : ℕ → FlagWord
size_word v = word_or (flag_word NUMERIC_SIZE_8 size.NO_SIZE) size_words v

abbrev pub display_word : ℕ → FlagWord
display_word v = word_or (flag_word DISPLAY_UINT_DEC size.UINT_DEC) display_words v

-- "a second size or display word in one numeric, even the same" (refusal 16): the places of such words among tokens, in source order;
-- `sized` and `shown` tell whether a size or a display word stands before them
abbrev pub seconds_after : Bool → Bool → List Token → List ℕ
seconds_after sized shown [] = []
seconds_after sized shown (token k p ∷ ts) =
    let is_size = member k (classes_of size_words) in
    let is_display = member k (classes_of display_words) in
    cond (sized && is_size || shown && is_display) (p ∷ []) [] ++ seconds_after (sized || is_size) (shown || is_display) ts

-- in the FL of a numeric
abbrev pub seconds_in : Trees → List ℕ
seconds_in f = seconds_after false false (leaves f)
