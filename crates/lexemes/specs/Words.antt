-- Runs of bytes, texts and lists of texts, and words: the word that starts at a place, and when two are the same (document 01, Tokens).
-- Assumes nothing.
use Rattle.std.specs.Prelude.{ℕ, suc, Bool, true, false, cond, ◌&&◌, List, [], ◌∷◌, eqb, take, drop}
use Rattle.lexemes.specs.Bytes.{is_word_byte}

-- ---- runs of bytes

-- how many bytes at the start of s pass the test p
unfoldable pub run : (ℕ → Bool) → List ℕ → ℕ
run p [] = 0
run p (b ∷ s) = let more = suc (run p s) in cond (p b) more 0

-- every byte passes the test p
unfoldable pub all : (ℕ → Bool) → List ℕ → Bool
all p [] = true
all p (b ∷ s) = p b && all p s

-- ---- texts

-- two texts are the same
unfoldable pub same : List ℕ → List ℕ → Bool
same [] [] = true
same [] (b ∷ v) = false
same (a ∷ w) [] = false
same (a ∷ w) (b ∷ v) = eqb a b && same w v

-- the place of a text in a list of texts, or the list's length where it is not there
unfoldable pub place_among : List ℕ → List (List ℕ) → ℕ
place_among w [] = 0
place_among w (v ∷ vs) = let later = suc (place_among w vs) in cond (same w v) 0 later

-- ---- words

-- all the letters, digits and `_` from the start of s on
abbrev pub word : List ℕ → List ℕ
word s = take (run is_word_byte s) s

-- the words that start at two places of a source are the same
unfoldable pub same_word : List ℕ → ℕ → ℕ → Bool
same_word s p q = same (word (drop p s)) (word (drop q s))
