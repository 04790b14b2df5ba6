-- The resolved text of a source, from its derivation and its finished rows (document 01, Resolved text; document 02, W-204).
-- Assumes nothing.
use Rattle.std.specs.Prelude.{ℕ, zero, suc, ◌+◌, ◌/◌, ◌%◌, ◌^◌, Bool, true, false, cond, List, [], ◌∷◌, ◌++◌, eqb, ltb, get_or}
use Prim.Native.String.{String}
use Rattle.lexemes.specs.Lexemes.{bytes, lexemes}
use Rattle.lexemes.specs.Words.{same}
use Rattle.rows.specs.Codes as code
use Rattle.rows.specs.Columns as column
use Rattle.rows.specs.Flags as flag
use Rattle.ll1.specs.Trees.{Trees, nil, leaf, node}
use Rattle.grammar.specs.Rules.{<rule>, <item>, <option>, <form>, <source>}
use Rattle.grammar.specs.Parts.{child, place_at}
use Rattle.rows.specs.Sizes.{size_of, display_of}
use Rattle.grammar.specs.Flags.{FlagWord, flag_words, set_in, size_word, display_word}
use Rattle.grammar.specs.Positions.{condition_expression, rule_expression}
use Rattle.answers.specs.Expression.{Expression, number, constant, question_named, question_numbered, rule_named, negation, binary, level, operator_class, constant_class, expression}

-- ---- words

abbrev pub Word : Type 0
Word = List ℕ

-- a word so far and the bytes after it, parted by spaces
abbrev pub parted : Word → List ℕ → List Word
parted w [] = w ∷ []
parted w (b ∷ s) = elim (eqb b 32) [ true ↦ w ∷ parted [] s | false ↦ parted (w ++ b ∷ []) s ]

-- the words of a text, parted by single spaces
abbrev pub words : String → List Word
words t = parted [] (bytes t)

-- decimal digits, as many as are needed and at most as many as the first number
unfoldable pub decimal_digits : ℕ → ℕ → List ℕ → List ℕ
decimal_digits zero n later = later
decimal_digits (suc m) n later = let more = decimal_digits m (n / 10) ((48 + n % 10) ∷ later) in cond (ltb n 10) ((48 + n) ∷ later) more

abbrev pub decimal : ℕ → List Word
decimal n = decimal_digits (suc n) n [] ∷ []

-- so many hex digits, in lower case
unfoldable pub hex_digits : ℕ → ℕ → List ℕ
hex_digits zero n = []
hex_digits (suc m) n = let d = n / 16 ^ m % 16 in cond (ltb d 10) (48 + d) (87 + d) ∷ hex_digits m n

-- a GUID part: `0x` with full digits
abbrev pub hex : ℕ → ℕ → List Word
hex width n = (bytes "0x" ++ hex_digits width n) ∷ []

-- rules are R1, R2, ..
abbrev pub rule_name : ℕ → List Word
rule_name n = (82 ∷ decimal_digits (suc n) n []) ∷ []

-- a sign or a reserved word
abbrev pub lexeme : ℕ → List Word
lexeme class = get_or lexemes class [] ∷ []

-- ---- the phrases of statements, from a row

abbrev cell : ℕ → List ℕ → ℕ
cell c r = get_or r c 0

abbrev semicolon : List Word
semicolon = words ";"

abbrev comma : List Word
comma = words ","

-- STR: STRING_TOKEN ( N )
abbrev pub string : ℕ → List Word
string n = words "STRING_TOKEN (" ++ decimal n ++ words ")"

-- HEAD: "No names for questions; `questionid` always"
abbrev pub head : List ℕ → List Word
head r =
    words "questionid =" ++ decimal (cell column.OWN r)
    ++ words ", prompt =" ++ string (cell column.FIRST r)
    ++ words ", help =" ++ string (cell column.SECOND r)

-- FL: its words with `|` between
abbrev pub barred : List FlagWord → List Word
barred [] = []
barred (w ∷ ws) = words "|" ++ (lexeme w.class ++ barred ws)

abbrev pub flag_list : List FlagWord → List Word
flag_list [] = []
flag_list (w ∷ ws) = lexeme w.class ++ barred ws

-- a flag, by its value, is set in a row
abbrev pub has_flag : ℕ → List ℕ → Bool
has_flag k r = flag.is_set k (cell column.FLAGS r)

-- words with others round them, or nothing where there are none
abbrev pub framed : List Word → List Word → List Word → List Word
framed before [] after = []
framed before (w ∷ ws) after = before ++ (w ∷ ws) ++ after

-- "flags in the order above or absent"
abbrev pub flags : List Word → List Word → List ℕ → List Word
flags before after r = framed before (flag_list (set_in (cell column.FLAGS r) flag_words)) after

-- a numeric's FL: "writes size and display always, after the other flags" (W-204)
abbrev pub numeric_list : List ℕ → List FlagWord
numeric_list r =
    set_in (cell column.FLAGS r) flag_words
    ++ (size_word (size_of (cell column.SIZE r)) ∷ display_word (display_of (cell column.SIZE r)) ∷ [])

-- "`default` where written"
abbrev pub default : List Word → List ℕ → List Word
default value r = elim (has_flag flag.HAS_DEFAULT r) [ true ↦ words "default =" ++ value ++ comma | false ↦ [] ]

abbrev pub truth : ℕ → List Word
truth d = elim (eqb d 1) [ true ↦ words "TRUE" | false ↦ words "FALSE" ]

-- "GUID parts `0x` with full digits in lower case and inner braces"
abbrev pub guid_byte : ℕ → List ℕ → List Word
guid_byte i r = hex 2 (cell column.B r / 256 ^ i % 256)

abbrev pub guid : List ℕ → List Word
guid r =
    words "{" ++ hex 8 (cell column.A r / 2 ^ 32) ++ comma ++ hex 4 (cell column.A r / 2 ^ 16 % 2 ^ 16) ++ comma ++ hex 4 (cell column.A r % 2 ^ 16)
    ++ words ", {" ++ guid_byte 7 r ++ comma ++ guid_byte 6 r ++ comma ++ guid_byte 5 r ++ comma ++ guid_byte 4 r ++ comma
    ++ guid_byte 3 r ++ comma ++ guid_byte 2 r ++ comma ++ guid_byte 1 r ++ comma ++ guid_byte 0 r ++ words "} }"

-- formset guid = GUID , title = STR , help = STR ,
abbrev pub form_set : List ℕ → List Word
form_set r = words "formset guid =" ++ guid r ++ words ", title =" ++ string (cell column.FIRST r) ++ words ", help =" ++ string (cell column.SECOND r) ++ comma

-- form formid = N , title = STR ;
abbrev pub form : List ℕ → List Word
form r = words "form formid =" ++ decimal (cell column.OWN r) ++ words ", title =" ++ string (cell column.FIRST r) ++ semicolon

-- rule NAME , where "rules are `R1`, `R2`, .."
abbrev pub rule : List ℕ → List Word
rule r = words "rule" ++ rule_name (cell column.OWN r) ++ comma

-- subtitle text = STR ;
abbrev pub subtitle : List ℕ → List Word
subtitle r = words "subtitle text =" ++ string (cell column.FIRST r) ++ semicolon

-- text help = STR , text = STR ;
abbrev pub text : List ℕ → List Word
text r = words "text help =" ++ string (cell column.SECOND r) ++ words ", text =" ++ string (cell column.FIRST r) ++ semicolon

-- label N ;
abbrev pub label : List ℕ → List Word
label r = words "label" ++ decimal (cell column.OWN r) ++ semicolon

-- goto N , HEAD [, flags = FL] ;
abbrev pub goto : List ℕ → List Word
goto r = words "goto" ++ decimal (cell column.A r) ++ comma ++ head r ++ flags (words ", flags =") [] r ++ semicolon

-- checkbox HEAD , [flags = FL ,] [default = TRUE or FALSE ,] endcheckbox ;
abbrev pub checkbox : List ℕ → List Word
checkbox r = words "checkbox" ++ head r ++ comma ++ flags (words "flags =") comma r ++ default (truth (cell column.D r)) r ++ words "endcheckbox ;"

-- numeric HEAD , flags = FL , minimum = N , maximum = N , step = N , [default = N ,] endnumeric ; "`step` always"
abbrev pub numeric : List ℕ → List Word
numeric r =
    words "numeric" ++ head r ++ words ", flags =" ++ flag_list (numeric_list r)
    ++ words ", minimum =" ++ decimal (cell column.A r) ++ words ", maximum =" ++ decimal (cell column.B r)
    ++ words ", step =" ++ decimal (cell column.C r) ++ comma ++ default (decimal (cell column.D r)) r ++ words "endnumeric ;"

-- oneof HEAD , [flags = FL ,]
abbrev pub one_of : List ℕ → List Word
one_of r = words "oneof" ++ head r ++ comma ++ flags (words "flags =") comma r

-- option text = STR , value = N , flags = (N or DEFAULT) ; "an option's: `0` or `DEFAULT`"
abbrev pub option : List ℕ → List Word
option r =
    words "option text =" ++ string (cell column.FIRST r) ++ words ", value =" ++ decimal (cell column.A r)
    ++ words ", flags =" ++ elim (has_flag flag.OPTION_DEFAULT r) [ true ↦ words "DEFAULT" | false ↦ words "0" ] ++ semicolon

-- ---- the statement that a row stands for, up to what stands in it

-- a code and the phrase of its rows
pub data Phrase : Type 0 where
  ◌prints◌ : ℕ → (List ℕ → List Word) → Phrase

infix 68 ◌prints◌
abbrev pub statements : List Phrase
statements =
    code.FORM_SET prints form_set
    ∷ code.FORM prints form
    ∷ code.RULE prints rule
    ∷ code.SUBTITLE prints subtitle
    ∷ code.TEXT prints text
    ∷ code.LABEL prints label
    ∷ code.GOTO prints goto
    ∷ code.CHECKBOX prints checkbox
    ∷ code.NUMERIC prints numeric
    ∷ code.ONE_OF prints one_of
    ∷ code.OPTION prints option
    ∷ code.SUPPRESS_IF prints (λ r. words "suppressif")
    ∷ code.GRAY_OUT_IF prints (λ r. words "grayoutif")
    ∷ code.DISABLE_IF prints (λ r. words "disableif")
    ∷ []

abbrev pub phrase_among : List Phrase → List ℕ → List Word
phrase_among [] r = []
phrase_among (k prints f ∷ l) r = elim (eqb (cell column.CODE r) k) [ true ↦ f r | false ↦ phrase_among l r ]

abbrev pub opening : List ℕ → List Word
opening r = phrase_among statements r

-- ---- expressions with the fewest parentheses

abbrev pub grouped : Bool → List Word → List Word
grouped true ws = words "(" ++ ws ++ words ")"
grouped false ws = ws

-- the rows of the text are found by their places
module _ (row_at : ℕ → List ℕ) where
  -- the number in an operand's row
  abbrev pub operand_number : ℕ → ℕ
  operand_number p = get_or (row_at p) column.A 0

  -- parentheses stand round an operator of a level looser than the n-th. "Parentheses only round a binary operand of NOT, a left operand of a
  -- looser level, or a right operand of a looser or equal level": the levels are nine
  abbrev pub printed : ℕ → Expression → List Word
  printed n (number p) = decimal (operand_number p)
  printed n (constant c p) = lexeme (constant_class c)
  printed n (question_named p q) = words "questionref (" ++ decimal (operand_number p) ++ words ")"
  printed n (question_numbered p q) = words "questionref (" ++ decimal (operand_number p) ++ words ")"
  printed n (rule_named p q) = words "ruleref (" ++ rule_name (operand_number p) ++ words ")"
  printed n (negation p e) = words "NOT" ++ printed 9 e
  printed n (binary o p l r) = grouped (ltb (level o) n) (printed (level o) l ++ lexeme (operator_class o) ++ printed (suc (level o)) r)

  -- ---- trees

  abbrev pub inner : ℕ → Trees → List Word
  inner n c = printed 0 (expression (child n c))

  -- the phrase of the row that starts where the trees c do
  abbrev pub start : Trees → List Word
  start c = opening (row_at (place_at 0 c))

  -- of an item of alternative i: nothing after a row of its own; option+ endoneof ; or expression ; item* endif ;
  abbrev pub rest : ℕ → Trees → List Word → List Word
  rest i c within =
      elim (ltb i 6) [
        | true ↦ []
        | false ↦ elim (eqb i 6) [ true ↦ within ++ words "endoneof ;" | false ↦ inner condition_expression c ++ words ";" ++ within ++ words "endif ;" ]
      ]

  -- the words of a tree of the rule A and the alternative i, of which `within` are those of the trees c under it
  abbrev pub Words : Type 0
  Words = ℕ → Trees → List Word → List Word

  abbrev pub otherwise : ℕ → ℕ → Words → Words → Words
  otherwise A B f g i c within = elim (eqb A B) [ true ↦ f i c within | false ↦ g i c within ]

  abbrev pub around : ℕ → Words
  around A =
      otherwise A <source> (λ i c within. start c ++ within ++ words "endformset ;")
      (otherwise A <form> (λ i c within. start c ++ within ++ words "endform ;")
      (otherwise A <rule> (λ i c within. start c ++ inner rule_expression c ++ words "endrule ;")
      (otherwise A <item> (λ i c within. start c ++ rest i c within)
      (otherwise A <option> (λ i c within. start c)
      (λ i c within. within)))))

  abbrev pub words_of : Trees → List Word
  words_of nil = []
  words_of (leaf t f) = words_of f
  words_of (node A i c f) = around A i c (words_of c) ++ words_of f

-- ---- bytes

-- "Tokens are parted by one space, but LF stands after each `;`"
abbrev pub gap_after : Word → ℕ
gap_after w = cond (same w (59 ∷ [])) 10 32

unfoldable pub text_of : List Word → List ℕ
text_of [] = []
text_of (w ∷ ws) = w ++ gap_after w ∷ text_of ws

-- the row whose first token stands at a place
unfoldable pub row_first_at : List (List ℕ) → ℕ → List ℕ
row_first_at [] p = []
row_first_at (r ∷ rs) p = let later = row_first_at rs p in cond (eqb (get_or r column.PLACE 0) p) r later

-- the resolved text of a derivation with its finished rows
unfoldable pub resolved_text : Trees → List (List ℕ) → List ℕ
resolved_text f rows = text_of (words_of (row_first_at rows) f)
