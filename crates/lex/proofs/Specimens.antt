-- Specimens: sources and their tokens, as document 01 and the readings of its open points have them.
-- Assumes nothing.
use mathlib.Core.Path.{◌≡◌, refl}
use mathlib.Core.List.{List, [], ◌∷◌, map}
use Prim.Native.Nat.{ℕ}
use Prim.Native.String.{String}
use Rattle.lex.specs.declared.Token.{Token}
use Rattle.lexemes.specs.Classes as class
use Rattle.lexemes.specs.Lexemes.{bytes, signs, reserved}
use Rattle.lexemes.specs.Words.{run, all, same, place_among}
use Rattle.lex.specs.Tokens.{is_gap, in_comment, gap, word_class, word_token, sign_class, sign_token}
use Rattle.values.specs.Numbers.{is_hex}
use Rattle.lex.specs.Tokens.{token_from, token_after_gap, tokens_within, tokens_from, tokens}

abbrev pub tok : ℕ → ℕ → ℕ → Token
tok class start end = record { class = class; start = start; end = end }

-- a source and its tokens
abbrev pub Specimen : Type 0
Specimen = String × List Token

pub listed : List Specimen
listed =
    -- document 01: the empty source, `010`, `0X10`, and the largest number that 64 bits hold with the next
    ("", tok class.END 0 0 ∷ []) ∷
    ("010", tok class.DECIMAL 0 3 ∷ tok class.END 3 3 ∷ []) ∷
    ("0X10", tok class.BAD 0 0 ∷ []) ∷
    ("0x1A0 416", tok class.HEX 0 5 ∷ tok class.DECIMAL 6 9 ∷ tok class.END 9 9 ∷ []) ∷
    ("18446744073709551615", tok class.DECIMAL 0 20 ∷ tok class.END 20 20 ∷ []) ∷
    ("18446744073709551616", tok class.DECIMAL 0 20 ∷ tok class.END 20 20 ∷ []) ∷
    ("0xffffffffffffffff", tok class.HEX 0 18 ∷ tok class.END 18 18 ∷ []) ∷
    ("0x10000000000000000", tok class.HEX 0 19 ∷ tok class.END 19 19 ∷ []) ∷
    -- classes; a bad token has no bytes
    ("0x1 if", tok class.HEX 0 3 ∷ tok class.NAME 4 6 ∷ tok class.END 6 6 ∷ []) ∷
    ("a  @", tok class.NAME 0 1 ∷ tok class.BAD 3 3 ∷ []) ∷
    -- a number that goes on with a letter or `_` is bad from its first byte
    (" 12ab", tok class.BAD 1 1 ∷ []) ∷
    ("00x1", tok class.BAD 0 0 ∷ []) ∷
    ("0x", tok class.BAD 0 0 ∷ []) ∷
    ("0x1G", tok class.BAD 0 0 ∷ []) ∷
    ("1_", tok class.BAD 0 0 ∷ []) ∷
    ("0xg", tok class.BAD 0 0 ∷ []) ∷
    -- after a sign no gap is needed
    ("label 0x1;", tok class.«label» 0 5 ∷ tok class.HEX 6 9 ∷ tok class.semicolon 9 10 ∷ tok class.END 10 10 ∷ []) ∷ (
      "1+2 endrule",
      tok class.DECIMAL 0 1 ∷ tok class.«+» 1 2 ∷ tok class.DECIMAL 2 3 ∷ tok class.«endrule» 4 11 ∷ tok class.END 11 11 ∷ [],
    ) ∷
    ("0x1+0x2", tok class.HEX 0 3 ∷ tok class.«+» 3 4 ∷ tok class.HEX 4 7 ∷ tok class.END 7 7 ∷ []) ∷
    -- two slashes together start a comment
    (
      "8/ /2",
      tok class.DECIMAL 0 1 ∷ tok class.«/» 1 2 ∷ tok class.«/» 3 4 ∷ tok class.DECIMAL 4 5 ∷ tok class.END 5 5 ∷ [],
    ) ∷
    ("8//2 endrule;", tok class.DECIMAL 0 1 ∷ tok class.END 13 13 ∷ []) ∷
    ("1///2", tok class.DECIMAL 0 1 ∷ tok class.END 5 5 ∷ []) ∷
    -- only LF ends a comment
    ("//x\rformset", tok class.END 11 11 ∷ []) ∷
    ("//x\nendif", tok class.«endif» 4 9 ∷ tok class.END 9 9 ∷ []) ∷
    -- every other byte is bad, but not in a comment
    ("! =", tok class.BAD 0 0 ∷ []) ∷
    ("\u{c}", tok class.BAD 0 0 ∷ []) ∷
    ("\u{b}", tok class.BAD 0 0 ∷ []) ∷
    ("\0", tok class.BAD 0 0 ∷ []) ∷
    ("ï»¿formset", tok class.BAD 0 0 ∷ []) ∷
    ("//!\u{c}\u{b}\0ï»¿\n;", tok class.semicolon 10 11 ∷ tok class.END 11 11 ∷ []) ∷
    -- the longest sign is taken
    ("<<=", tok class.«<<» 0 2 ∷ tok class.«=» 2 3 ∷ tok class.END 3 3 ∷ []) ∷
    ("===", tok class.«==» 0 2 ∷ tok class.«=» 2 3 ∷ tok class.END 3 3 ∷ []) ∷
    ("!==", tok class.«!=» 0 2 ∷ tok class.«=» 2 3 ∷ tok class.END 3 3 ∷ []) ∷
    ("<>", tok class.«<» 0 1 ∷ tok class.«>» 1 2 ∷ tok class.END 2 2 ∷ []) ∷
    -- upper and lower case differ; only the words of the grammar are reserved, and each is written out
    (
      "NAME N STR HEAD FL GUID H8 varid key R1 true or NUMERIC_SIZE_3 _2",
      tok class.NAME 0 4 ∷ tok class.NAME 5 6 ∷ tok class.NAME 7 10 ∷ tok class.NAME 11 15 ∷ tok class.NAME 16 18 ∷
          tok class.NAME 19 23 ∷ tok class.NAME 24 26 ∷ tok class.NAME 27 32 ∷ tok class.NAME 33 36 ∷ tok class.NAME 37 39 ∷
          tok class.NAME 40 44 ∷ tok class.NAME 45 47 ∷ tok class.NAME 48 62 ∷ tok class.NAME 63 65 ∷
          tok class.END 65 65 ∷ [],
    ) ∷ (
      "TRUE endif DEFAULT text value name NUMERIC_SIZE_1 DISPLAY_UINT_DEC",
      tok class.«TRUE» 0 4 ∷ tok class.«endif» 5 10 ∷ tok class.«DEFAULT» 11 18 ∷ tok class.«text» 19 23 ∷
          tok class.«value» 24 29 ∷ tok class.«name» 30 34 ∷ tok class.NUMERIC_SIZE_1 35 49 ∷
          tok class.DISPLAY_UINT_DEC 50 66 ∷ tok class.END 66 66 ∷ [],
    ) ∷
    []

-- what the definitions make of a source
unfoldable pub outcome : Specimen → Specimen
unfolding signs reserved run all same place_among is_gap in_comment gap is_hex word_class word_token sign_class sign_token token_from
    token_after_gap tokens_within tokens_from tokens
outcome p = (p.0, tokens (bytes p.0))

pub specimens : map outcome listed ≡ listed
unfolding listed outcome
specimens = refl
