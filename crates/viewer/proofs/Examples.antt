-- The tokens of sources as the reader gives them, with line and column: the examples of W-201's reading, computed.
-- Assumes nothing.
use Prim.Native.Nat.{ℕ}
use Prim.Native.String.{String}
use mathlib.Core.Path.{◌≡◌, refl}
use mathlib.Core.List.{List, [], ◌∷◌, map}
use Rattle.lexemes.specs.Classes as class
use Rattle.lexemes.specs.Lexemes.{bytes, signs, reserved}
use Rattle.lexemes.specs.Words.{run, all, same, place_among}
use Rattle.lex.specs.Tokens.{is_gap, in_comment, gap, word_class, word_token, sign_class, sign_token, token_from, token_after_gap, token_at}
use Rattle.values.specs.Numbers.{is_hex}
use Rattle.lex.proofs.Specimens.{tok}
use Rattle.positions.specs.Positions.{line_feeds, since_feed, column_after, line_at, column_at, line_from, column_from, position_from}
use Rattle.viewer.specs.declared.Positioned.{Positioned}
use Rattle.viewer.specs.declared.Seen.{Seen}
use Rattle.viewer.specs.Viewed.{place_past, place_after, place_of_nth, nth_token, positioned, seen_from}

-- the tokens of a source whose numbers are given
abbrev viewed : String → List ℕ → List Positioned
viewed s ns = map (λ n. positioned (bytes s) (nth_token (bytes s) n)) ns

-- of the class k from a to b, at a line and column
abbrev at : ℕ → ℕ → ℕ → ℕ → ℕ → Positioned
at k a b line column = record { token = tok k a b; line = line; column = column }

-- LF alone makes a line: CR LF counts once, a lone CR is a byte of its line, and LFs in comments and blanks count alike
pub lines : (viewed "1\r\n;" (0 ∷ 1 ∷ 2 ∷ []) ≡ at class.DECIMAL 0 1 1 1 ∷ at class.semicolon 3 4 2 1 ∷ at class.END 4 4 2 2 ∷ [])
    × (viewed "\ra" (0 ∷ 1 ∷ []) ≡ at class.NAME 1 2 1 2 ∷ at class.END 2 2 1 3 ∷ [])
    × (viewed "a//x\r\n\n b" (0 ∷ 1 ∷ 2 ∷ []) ≡ at class.NAME 0 1 1 1 ∷ at class.NAME 8 9 3 2 ∷ at class.END 9 9 3 3 ∷ [])
unfolding signs reserved run all same place_among is_gap in_comment gap is_hex word_class word_token sign_class sign_token token_from token_after_gap token_at place_past place_after place_of_nth nth_token line_feeds since_feed column_after line_at column_at positioned
lines = (refl, refl, refl)

-- a column is a byte: a tab is one, a character of two bytes is two
pub columns : (viewed "\t\tx" (0 ∷ 1 ∷ []) ≡ at class.NAME 2 3 1 3 ∷ at class.END 3 3 1 4 ∷ [])
    × (viewed "//Ã© \n Ã" (0 ∷ []) ≡ at class.BAD 7 7 2 2 ∷ [])
unfolding signs reserved run all same place_among is_gap in_comment gap is_hex word_class word_token sign_class sign_token token_from token_after_gap token_at place_past place_after place_of_nth nth_token line_feeds since_feed column_after line_at column_at positioned
columns = (refl, refl)

-- a bad token and the end carry line and column too, and repeat
pub last_ones : (viewed "//c\n@" (0 ∷ []) ≡ at class.BAD 4 4 2 1 ∷ [])
    × (viewed "" (0 ∷ []) ≡ at class.END 0 0 1 1 ∷ [])
    × (viewed "x\n" (0 ∷ 1 ∷ 2 ∷ []) ≡ at class.NAME 0 1 1 1 ∷ at class.END 2 2 2 1 ∷ at class.END 2 2 2 1 ∷ [])
    × (viewed "a\n @" (0 ∷ 1 ∷ 7 ∷ []) ≡ at class.NAME 0 1 1 1 ∷ at class.BAD 3 3 2 2 ∷ at class.BAD 3 3 2 2 ∷ [])
unfolding signs reserved run all same place_among is_gap in_comment gap is_hex word_class word_token sign_class sign_token token_from token_after_gap token_at place_past place_after place_of_nth nth_token line_feeds since_feed column_after line_at column_at positioned
last_ones = (refl, refl, refl, refl)

-- ---- from a place on that is said to have some line and column

abbrev seen : Positioned → ℕ → ℕ → ℕ → Seen
seen t next line column = record { token = t; at = next; line = line; column = column }

-- wrong ones are counted on from, and wrap; at a bad token and at the end all three numbers stay; past the source stands the end
pub from_any : (seen_from (bytes "a\n  b;") 1 7 30 ≡ seen (at class.NAME 4 5 8 3) 5 8 4)
    × (seen_from (bytes "a\n  b;") 1 18446744073709551615 30 ≡ seen (at class.NAME 4 5 0 3) 5 0 4)
    × (seen_from (bytes "   b;") 1 7 18446744073709551614 ≡ seen (at class.NAME 3 4 7 0) 4 7 1)
    × (seen_from (bytes "a\n @") 1 1 2 ≡ seen (at class.BAD 3 3 2 2) 1 1 2)
    × (seen_from (bytes "a\n") 1 1 2 ≡ seen (at class.END 2 2 2 1) 1 1 2)
    × (seen_from (bytes "a\n") 9 7 30 ≡ seen (at class.END 2 2 7 30) 9 7 30)
unfolding signs reserved run all same place_among is_gap in_comment gap is_hex word_class word_token sign_class sign_token token_from token_after_gap token_at place_past place_after line_feeds since_feed column_after line_from column_from position_from seen_from
from_any = (refl, refl, refl, refl, refl, refl)
