-- The phrases by number: the symbols of the grammar that each reads, and its elements (document 01, Grammar).
-- Assumes nothing.
use Rattle.std.specs.Prelude.{ℕ, List, [], ◌∷◌, ◌++◌, get_or}
use Rattle.lexemes.specs.Classes.{open_brace, close_brace, open_paren, close_paren, comma, semicolon, «=»}
use Rattle.lexemes.specs.Classes.{STRING_TOKEN, «checkbox», «default», «endcheckbox», «endform», «endformset», «endif», «endnumeric», «endoneof», «endrule»}
use Rattle.lexemes.specs.Classes.{«flags», «form», «formid», «formset», «goto», «guid», «help», «label», «maximum», «minimum», «name», «numeric», «oneof»}
use Rattle.lexemes.specs.Classes.{«option», «prompt», «questionid», «questionref», «rule», «ruleref», «step», «subtitle», «text», «title», «value», NAME}
use Rattle.ll1.specs.Trees.{Symbol}
use Rattle.grammar.specs.Rules.{<eight>, <H8>, <H4>, <str>, <id>, <small>, <large>, <goto_flags>?, <flags>?, <truth_default>?, <step>?, <number_default>?}
use Rattle.grammar.specs.Rules.{<option_flags>, <head>, <name_or_number>, <numeric_flags>?, <numeric_value>}
use Rattle.grammar.specs.Notation.{t, r}
use Rattle.elements.specs.Kinds.{ID, SMALL, LARGE, NUMERIC_VALUE, OPTION_FLAGS, REFERENCE, TRUTH, FLAG_LIST, NUMERIC_FLAGS, H8, H4, H2, MAYBE}

abbrev pub FORM_SET_OPEN : ℕ
FORM_SET_OPEN = 0

abbrev pub FORM_SET_BRACED : ℕ
FORM_SET_BRACED = 1

abbrev pub FORM_SET_PLAIN : ℕ
FORM_SET_PLAIN = 2

abbrev pub FORM_SET_CLOSE : ℕ
FORM_SET_CLOSE = 3

abbrev pub FORM_OPEN : ℕ
FORM_OPEN = 4

abbrev pub FORM_CLOSE : ℕ
FORM_CLOSE = 5

abbrev pub RULE_OPEN : ℕ
RULE_OPEN = 6

abbrev pub RULE_CLOSE : ℕ
RULE_CLOSE = 7

abbrev pub SUBTITLE : ℕ
SUBTITLE = 8

abbrev pub TEXT : ℕ
TEXT = 9

abbrev pub LABEL : ℕ
LABEL = 10

abbrev pub GOTO : ℕ
GOTO = 11

abbrev pub CHECKBOX : ℕ
CHECKBOX = 12

abbrev pub NUMERIC : ℕ
NUMERIC = 13

abbrev pub ONE_OF_OPEN : ℕ
ONE_OF_OPEN = 14

abbrev pub ONE_OF_CLOSE : ℕ
ONE_OF_CLOSE = 15

abbrev pub OPTION : ℕ
OPTION = 16

abbrev pub CONDITION_CLOSE : ℕ
CONDITION_CLOSE = 17

abbrev pub EXPRESSION_CLOSE : ℕ
EXPRESSION_CLOSE = 18

abbrev pub NUMBER : ℕ
NUMBER = 19

abbrev pub QUESTION_REF : ℕ
QUESTION_REF = 20

abbrev pub RULE_REF : ℕ
RULE_REF = 21

abbrev pub GROUP_CLOSE : ℕ
GROUP_CLOSE = 22

-- ---- the symbols of each

-- how a form set's opening ends: , title = STR , help = STR ,
abbrev pub title_and_help : List Symbol
title_and_help = t comma ∷ t «title» ∷ t «=» ∷ r <str> ∷ t comma ∷ t «help» ∷ t «=» ∷ r <str> ∷ t comma ∷ []

-- in the order of their numbers
unfoldable pub phrase_symbols : List (List Symbol)
phrase_symbols =
    -- formset guid = { H8 , H4 , H4 ,
    (t «formset» ∷ t «guid» ∷ t «=» ∷ t open_brace ∷ r <H8> ∷ t comma ∷ r <H4> ∷ t comma ∷ r <H4> ∷ t comma ∷ [])
    -- the rest of a form set's opening, with the inner braces and without
    ∷ (t open_brace ∷ r <eight> ∷ t close_brace ∷ t close_brace ∷ title_and_help)
    ∷ (r <eight> ∷ t close_brace ∷ title_and_help)
    ∷ (t «endformset» ∷ t semicolon ∷ [])
    -- form formid = N , title = STR ;
    ∷ (t «form» ∷ t «formid» ∷ t «=» ∷ r <id> ∷ t comma ∷ t «title» ∷ t «=» ∷ r <str> ∷ t semicolon ∷ [])
    ∷ (t «endform» ∷ t semicolon ∷ [])
    -- rule NAME ,
    ∷ (t «rule» ∷ t NAME ∷ t comma ∷ [])
    ∷ (t «endrule» ∷ t semicolon ∷ [])
    -- subtitle text = STR ;
    ∷ (t «subtitle» ∷ t «text» ∷ t «=» ∷ r <str> ∷ t semicolon ∷ [])
    -- text help = STR , text = STR ;
    ∷ (t «text» ∷ t «help» ∷ t «=» ∷ r <str> ∷ t comma ∷ t «text» ∷ t «=» ∷ r <str> ∷ t semicolon ∷ [])
    -- label N ;
    ∷ (t «label» ∷ r <small> ∷ t semicolon ∷ [])
    -- goto N , HEAD [, flags = FL] ;
    ∷ (t «goto» ∷ r <id> ∷ t comma ∷ r <head> ∷ r <goto_flags>? ∷ t semicolon ∷ [])
    -- checkbox HEAD , [flags = FL ,] [default = TRUE or FALSE ,] endcheckbox ;
    ∷ (t «checkbox» ∷ r <head> ∷ t comma ∷ r <flags>? ∷ r <truth_default>? ∷ t «endcheckbox» ∷ t semicolon ∷ [])
    -- numeric HEAD , [flags = FL ,] minimum = N , maximum = N , [step = N ,] [default = N ,] endnumeric ;
    ∷ (t «numeric» ∷ r <head> ∷ t comma ∷ r <numeric_flags>? ∷ t «minimum» ∷ t «=» ∷ r <numeric_value> ∷ t comma
    ∷ t «maximum» ∷ t «=» ∷ r <numeric_value> ∷ t comma ∷ r <step>? ∷ r <number_default>? ∷ t «endnumeric» ∷ t semicolon ∷ [])
    -- oneof HEAD , [flags = FL ,]
    ∷ (t «oneof» ∷ r <head> ∷ t comma ∷ r <flags>? ∷ [])
    ∷ (t «endoneof» ∷ t semicolon ∷ [])
    -- option text = STR , value = N , flags = (N or DEFAULT) ;
    ∷ (t «option» ∷ t «text» ∷ t «=» ∷ r <str> ∷ t comma ∷ t «value» ∷ t «=» ∷ r <large> ∷ t comma ∷ t «flags» ∷ t «=» ∷ r <option_flags> ∷ t semicolon ∷ [])
    ∷ (t «endif» ∷ t semicolon ∷ [])
    ∷ (t semicolon ∷ [])
    -- N
    ∷ (r <large> ∷ [])
    -- questionref ( NAME or N )
    ∷ (t «questionref» ∷ t open_paren ∷ r <name_or_number> ∷ t close_paren ∷ [])
    -- ruleref ( NAME )
    ∷ (t «ruleref» ∷ t open_paren ∷ t NAME ∷ t close_paren ∷ [])
    ∷ (t close_paren ∷ [])
    ∷ []

-- the symbols that a phrase reads; a number that no phrase has reads none
unfoldable pub symbols_of : ℕ → List Symbol
symbols_of phrase = get_or phrase_symbols phrase []

-- ---- the elements of each: strings, heads and the eight bytes of a GUID written out, MAYBE before what may be absent

-- STR: STRING_TOKEN ( N )
abbrev string : List ℕ
string = STRING_TOKEN ∷ open_paren ∷ SMALL ∷ close_paren ∷ []

-- HEAD: [name = NAME ,] [questionid = N ,] prompt = STR , help = STR
abbrev head : List ℕ
head = MAYBE ∷ «name» ∷ «=» ∷ NAME ∷ comma ∷ MAYBE ∷ «questionid» ∷ «=» ∷ ID ∷ comma ∷ «prompt» ∷ «=» ∷ string ++ comma ∷ «help» ∷ «=» ∷ string

-- [flags = FL ,]
abbrev flags_maybe : List ℕ
flags_maybe = MAYBE ∷ «flags» ∷ «=» ∷ FLAG_LIST ∷ comma ∷ []

abbrev eight : List ℕ
eight = H2 ∷ comma ∷ H2 ∷ comma ∷ H2 ∷ comma ∷ H2 ∷ comma ∷ H2 ∷ comma ∷ H2 ∷ comma ∷ H2 ∷ comma ∷ H2 ∷ []

-- , title = STR , help = STR ,
abbrev title_help : List ℕ
title_help = comma ∷ «title» ∷ «=» ∷ string ++ comma ∷ «help» ∷ «=» ∷ string ++ comma ∷ []

-- formset guid = { H8 , H4 , H4 ,
abbrev pub form_set_open_elements : List ℕ
form_set_open_elements = «formset» ∷ «guid» ∷ «=» ∷ open_brace ∷ H8 ∷ comma ∷ H4 ∷ comma ∷ H4 ∷ comma ∷ []

-- the rest of a form set's opening, with the inner braces and without
abbrev pub form_set_braced_elements : List ℕ
form_set_braced_elements = open_brace ∷ eight ++ close_brace ∷ close_brace ∷ title_help

abbrev pub form_set_plain_elements : List ℕ
form_set_plain_elements = eight ++ close_brace ∷ title_help

abbrev pub form_set_close_elements : List ℕ
form_set_close_elements = «endformset» ∷ semicolon ∷ []

-- form formid = N , title = STR ;
abbrev pub form_open_elements : List ℕ
form_open_elements = «form» ∷ «formid» ∷ «=» ∷ ID ∷ comma ∷ «title» ∷ «=» ∷ string ++ semicolon ∷ []

abbrev pub form_close_elements : List ℕ
form_close_elements = «endform» ∷ semicolon ∷ []

-- rule NAME ,
abbrev pub rule_open_elements : List ℕ
rule_open_elements = «rule» ∷ NAME ∷ comma ∷ []

abbrev pub rule_close_elements : List ℕ
rule_close_elements = «endrule» ∷ semicolon ∷ []

-- subtitle text = STR ;
abbrev pub subtitle_elements : List ℕ
subtitle_elements = «subtitle» ∷ «text» ∷ «=» ∷ string ++ semicolon ∷ []

-- text help = STR , text = STR ;
abbrev pub text_elements : List ℕ
text_elements = «text» ∷ «help» ∷ «=» ∷ string ++ comma ∷ «text» ∷ «=» ∷ string ++ semicolon ∷ []

-- label N ;
abbrev pub label_elements : List ℕ
label_elements = «label» ∷ SMALL ∷ semicolon ∷ []

-- goto N , HEAD [, flags = FL] ;
abbrev pub goto_elements : List ℕ
goto_elements = «goto» ∷ ID ∷ comma ∷ head ++ MAYBE ∷ comma ∷ «flags» ∷ «=» ∷ FLAG_LIST ∷ semicolon ∷ []

-- checkbox HEAD , [flags = FL ,] [default = TRUE or FALSE ,] endcheckbox ;
abbrev pub checkbox_elements : List ℕ
checkbox_elements = «checkbox» ∷ head ++ comma ∷ flags_maybe ++ MAYBE ∷ «default» ∷ «=» ∷ TRUTH ∷ comma ∷ «endcheckbox» ∷ semicolon ∷ []

-- numeric HEAD , [flags = FL ,] minimum = N , maximum = N , [step = N ,] [default = N ,] endnumeric ;
abbrev pub numeric_elements : List ℕ
numeric_elements =
    «numeric» ∷ head ++ comma ∷ MAYBE ∷ «flags» ∷ «=» ∷ NUMERIC_FLAGS ∷ comma
    ∷ «minimum» ∷ «=» ∷ NUMERIC_VALUE ∷ comma ∷ «maximum» ∷ «=» ∷ NUMERIC_VALUE ∷ comma
    ∷ MAYBE ∷ «step» ∷ «=» ∷ NUMERIC_VALUE ∷ comma ∷ MAYBE ∷ «default» ∷ «=» ∷ NUMERIC_VALUE ∷ comma ∷ «endnumeric» ∷ semicolon ∷ []

-- oneof HEAD , [flags = FL ,]
abbrev pub one_of_open_elements : List ℕ
one_of_open_elements = «oneof» ∷ head ++ comma ∷ flags_maybe

abbrev pub one_of_close_elements : List ℕ
one_of_close_elements = «endoneof» ∷ semicolon ∷ []

-- option text = STR , value = N , flags = (N or DEFAULT) ;
abbrev pub option_elements : List ℕ
option_elements = «option» ∷ «text» ∷ «=» ∷ string ++ comma ∷ «value» ∷ «=» ∷ LARGE ∷ comma ∷ «flags» ∷ «=» ∷ OPTION_FLAGS ∷ semicolon ∷ []

abbrev pub condition_close_elements : List ℕ
condition_close_elements = «endif» ∷ semicolon ∷ []

abbrev pub expression_close_elements : List ℕ
expression_close_elements = semicolon ∷ []

-- N
abbrev pub number_elements : List ℕ
number_elements = LARGE ∷ []

-- questionref ( NAME or N )
abbrev pub question_ref_elements : List ℕ
question_ref_elements = «questionref» ∷ open_paren ∷ REFERENCE ∷ close_paren ∷ []

-- ruleref ( NAME )
abbrev pub rule_ref_elements : List ℕ
rule_ref_elements = «ruleref» ∷ open_paren ∷ NAME ∷ close_paren ∷ []

abbrev pub group_close_elements : List ℕ
group_close_elements = close_paren ∷ []

-- in the order of their numbers
unfoldable pub phrase_elements : List (List ℕ)
phrase_elements =
    form_set_open_elements ∷ form_set_braced_elements ∷ form_set_plain_elements ∷ form_set_close_elements ∷ form_open_elements
    ∷ form_close_elements ∷ rule_open_elements ∷ rule_close_elements ∷ subtitle_elements ∷ text_elements
    ∷ label_elements ∷ goto_elements ∷ checkbox_elements ∷ numeric_elements ∷ one_of_open_elements
    ∷ one_of_close_elements ∷ option_elements ∷ condition_close_elements ∷ expression_close_elements ∷ number_elements
    ∷ question_ref_elements ∷ rule_ref_elements ∷ group_close_elements
    ∷ []

-- the elements of a phrase; a number that no phrase has has none
unfoldable pub elements_of : ℕ → List ℕ
elements_of phrase = get_or phrase_elements phrase []
