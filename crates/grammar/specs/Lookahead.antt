-- The parse table of the grammar: FIRST and FOLLOW of each rule, its rank, and an alternative that leads to a finished text.
-- It is no part of the grammar. The test of ll1 checks it against the grammar (theorem `grammar_passes`), and nothing rests on it otherwise.
-- Assumes nothing.
use Rattle.std.specs.Prelude.{List, [], ◌∷◌, map, ℕ}
use Rattle.lexemes.specs.Classes.{open_brace, close_brace, open_paren, close_paren, comma, semicolon}
use Rattle.lexemes.specs.Classes.{«|», «&», «==», «!=», «<», «<=», «>», «>=», «<<», «>>», «+», «-», «*», «/», «%»}
use Rattle.lexemes.specs.Classes.{«AND», «DEFAULT», «FALSE», «INTERACTIVE», «NOT», «ONE», «ONES», «OR»}
use Rattle.lexemes.specs.Classes.{READ_ONLY, RESET_REQUIRED, STRING_TOKEN, «TRUE», «UNDEFINED», «ZERO»}
use Rattle.lexemes.specs.Classes.{NUMERIC_SIZE_1, NUMERIC_SIZE_2, NUMERIC_SIZE_4, NUMERIC_SIZE_8}
use Rattle.lexemes.specs.Classes.{DISPLAY_INT_DEC, DISPLAY_UINT_DEC, DISPLAY_UINT_HEX}
use Rattle.lexemes.specs.Classes.{«checkbox», «default», «disableif», «endcheckbox», «endform», «endformset», «endif», «endnumeric», «endoneof»}
use Rattle.lexemes.specs.Classes.{«endrule», «flags», «form», «formset», «goto», «grayoutif», «label», «minimum», «name», «numeric», «oneof»}
use Rattle.lexemes.specs.Classes.{«option», «prompt», «questionid», «questionref», «rule», «ruleref», «step», «subtitle», «suppressif», «text»}
use Rattle.lexemes.specs.Classes.{NAME, HEX, DECIMAL}
use Rattle.ll1.specs.ParseTable.{ParseTable, entry}

-- ---- sets of classes

-- what an item starts with
abbrev items : List ℕ
items = «subtitle» ∷ «text» ∷ «label» ∷ «goto» ∷ «checkbox» ∷ «numeric» ∷ «oneof» ∷ «suppressif» ∷ «grayoutif» ∷ «disableif» ∷ []

abbrev numbers : List ℕ
numbers = DECIMAL ∷ HEX ∷ []

abbrev flag_words : List ℕ
flag_words = READ_ONLY ∷ «INTERACTIVE» ∷ RESET_REQUIRED ∷ []

abbrev numeric_words : List ℕ
numeric_words =
    READ_ONLY ∷ «INTERACTIVE» ∷ RESET_REQUIRED ∷ NUMERIC_SIZE_1 ∷ NUMERIC_SIZE_2 ∷ NUMERIC_SIZE_4 ∷ NUMERIC_SIZE_8
    ∷ DISPLAY_INT_DEC ∷ DISPLAY_UINT_DEC ∷ DISPLAY_UINT_HEX ∷ []

-- what an atom, and so an expression, starts with
abbrev pub atoms : List ℕ
atoms = «NOT» ∷ open_paren ∷ «TRUE» ∷ «FALSE» ∷ «ZERO» ∷ «ONE» ∷ «ONES» ∷ «UNDEFINED» ∷ DECIMAL ∷ HEX ∷ «questionref» ∷ «ruleref» ∷ []

-- what comes after an expression, and after each of its levels: that, and the operators of the looser levels
abbrev after_or : List ℕ
after_or = «endrule» ∷ semicolon ∷ close_paren ∷ []

abbrev after_and : List ℕ
after_and = «OR» ∷ after_or

abbrev after_bit_or : List ℕ
after_bit_or = «AND» ∷ after_and

abbrev after_bit_and : List ℕ
after_bit_and = «|» ∷ after_bit_or

abbrev after_equality : List ℕ
after_equality = «&» ∷ after_bit_and

abbrev after_order : List ℕ
after_order = «==» ∷ «!=» ∷ after_equality

abbrev after_shift : List ℕ
after_shift = «<» ∷ «<=» ∷ «>» ∷ «>=» ∷ after_order

abbrev after_sum : List ℕ
after_sum = «<<» ∷ «>>» ∷ after_shift

abbrev after_product : List ℕ
after_product = «+» ∷ «-» ∷ after_sum

abbrev after_atom : List ℕ
after_atom = «*» ∷ «/» ∷ «%» ∷ after_product

-- each class by itself: FIRST of a rule whose alternatives are one token each
abbrev singles : List ℕ → List (List ℕ)
singles ks = map (λ k. k ∷ []) ks

-- ---- the parse table: for each rule FIRST of each alternative, FOLLOW, rank, shortest
unfoldable pub lookahead : ParseTable
lookahead =
    -- <source>
    entry ((«formset» ∷ []) ∷ []) [] 0 0
    -- <form>*
    ∷ entry ([] ∷ («form» ∷ []) ∷ []) («endformset» ∷ []) 1 0
    -- <guid>
    ∷ entry ((open_brace ∷ []) ∷ []) (comma ∷ []) 0 0
    -- <guid-end>
    ∷ entry ((open_brace ∷ []) ∷ (HEX ∷ []) ∷ []) (comma ∷ []) 2 0
    -- <eight>
    ∷ entry ((HEX ∷ []) ∷ []) (close_brace ∷ []) 1 0
    -- <H8>, <H4>, <H2>
    ∷ entry ((HEX ∷ []) ∷ []) (comma ∷ []) 0 0
    ∷ entry ((HEX ∷ []) ∷ []) (comma ∷ []) 0 0
    ∷ entry ((HEX ∷ []) ∷ []) (comma ∷ close_brace ∷ []) 0 0
    -- <str>
    ∷ entry ((STRING_TOKEN ∷ []) ∷ []) (comma ∷ semicolon ∷ []) 0 0
    -- <id>, <small>, <large>, <zero>
    ∷ entry ((DECIMAL ∷ []) ∷ (HEX ∷ []) ∷ []) (comma ∷ close_paren ∷ []) 0 0
    ∷ entry ((DECIMAL ∷ []) ∷ (HEX ∷ []) ∷ []) (close_paren ∷ semicolon ∷ []) 0 0
    ∷ entry ((DECIMAL ∷ []) ∷ (HEX ∷ []) ∷ []) (comma ∷ after_atom) 0 0
    ∷ entry ((DECIMAL ∷ []) ∷ (HEX ∷ []) ∷ []) (semicolon ∷ []) 0 0
    -- <form>
    ∷ entry ((«form» ∷ []) ∷ []) («form» ∷ «endformset» ∷ []) 0 0
    -- <item-or-rule>*
    ∷ entry ([] ∷ items ∷ («rule» ∷ []) ∷ []) («endform» ∷ []) 1 0
    -- <rule>
    ∷ entry ((«rule» ∷ []) ∷ []) («endform» ∷ «rule» ∷ items) 0 0
    -- <item>
    ∷ entry ((«subtitle» ∷ []) ∷ («text» ∷ []) ∷ («label» ∷ []) ∷ («goto» ∷ []) ∷ («checkbox» ∷ []) ∷ («numeric» ∷ []) ∷ («oneof» ∷ []) ∷
    («suppressif» ∷ []) ∷ («grayoutif» ∷ []) ∷ («disableif» ∷ []) ∷ []) («endif» ∷ «endform» ∷ «rule» ∷ items) 0 2
    -- <goto-flags>?
    ∷ entry ([] ∷ (comma ∷ []) ∷ []) (semicolon ∷ []) 0 0
    -- <flags>?
    ∷ entry ([] ∷ («flags» ∷ []) ∷ []) («default» ∷ «endcheckbox» ∷ «option» ∷ []) 0 0
    -- <truth-default>?
    ∷ entry ([] ∷ («default» ∷ []) ∷ []) («endcheckbox» ∷ []) 0 0
    -- <truth>
    ∷ entry ((«TRUE» ∷ []) ∷ («FALSE» ∷ []) ∷ []) (comma ∷ []) 0 0
    -- <step>?
    ∷ entry ([] ∷ («step» ∷ []) ∷ []) («default» ∷ «endnumeric» ∷ []) 0 0
    -- <number-default>?
    ∷ entry ([] ∷ («default» ∷ []) ∷ []) («endnumeric» ∷ []) 0 0
    -- <option>*
    ∷ entry ([] ∷ («option» ∷ []) ∷ []) («endoneof» ∷ []) 1 0
    -- <item>*
    ∷ entry ([] ∷ items ∷ []) («endif» ∷ []) 1 0
    -- <option>
    ∷ entry ((«option» ∷ []) ∷ []) («option» ∷ «endoneof» ∷ []) 0 0
    -- <option_flags>
    ∷ entry (numbers ∷ («DEFAULT» ∷ []) ∷ []) (semicolon ∷ []) 1 1
    -- <head>
    ∷ entry ((«name» ∷ «questionid» ∷ «prompt» ∷ []) ∷ []) (comma ∷ semicolon ∷ []) 1 0
    -- <name>?
    ∷ entry ([] ∷ («name» ∷ []) ∷ []) («questionid» ∷ «prompt» ∷ []) 0 0
    -- <questionid>?
    ∷ entry ([] ∷ («questionid» ∷ []) ∷ []) («prompt» ∷ []) 0 0
    -- <fl>
    ∷ entry (flag_words ∷ []) (comma ∷ semicolon ∷ []) 1 0
    -- <flag>*
    ∷ entry ([] ∷ («|» ∷ []) ∷ []) (comma ∷ semicolon ∷ []) 0 0
    -- <flag>
    ∷ entry (singles flag_words) («|» ∷ comma ∷ semicolon ∷ []) 0 0
    -- <or>, <or>*
    ∷ entry (atoms ∷ []) after_or 10 0
    ∷ entry ([] ∷ («OR» ∷ []) ∷ []) after_or 0 0
    -- <and>, <and>*
    ∷ entry (atoms ∷ []) after_and 9 0
    ∷ entry ([] ∷ («AND» ∷ []) ∷ []) after_and 0 0
    -- <bit-or>, <bit-or>*
    ∷ entry (atoms ∷ []) after_bit_or 8 0
    ∷ entry ([] ∷ («|» ∷ []) ∷ []) after_bit_or 0 0
    -- <bit-and>, <bit-and>*
    ∷ entry (atoms ∷ []) after_bit_and 7 0
    ∷ entry ([] ∷ («&» ∷ []) ∷ []) after_bit_and 0 0
    -- <equality>, <equality>*
    ∷ entry (atoms ∷ []) after_equality 6 0
    ∷ entry ([] ∷ («==» ∷ []) ∷ («!=» ∷ []) ∷ []) after_equality 0 0
    -- <order>, <order>*
    ∷ entry (atoms ∷ []) after_order 5 0
    ∷ entry ([] ∷ («<» ∷ []) ∷ («<=» ∷ []) ∷ («>» ∷ []) ∷ («>=» ∷ []) ∷ []) after_order 0 0
    -- <shift>, <shift>*
    ∷ entry (atoms ∷ []) after_shift 4 0
    ∷ entry ([] ∷ («<<» ∷ []) ∷ («>>» ∷ []) ∷ []) after_shift 0 0
    -- <sum>, <sum>*
    ∷ entry (atoms ∷ []) after_sum 3 0
    ∷ entry ([] ∷ («+» ∷ []) ∷ («-» ∷ []) ∷ []) after_sum 0 0
    -- <product>, <product>*
    ∷ entry (atoms ∷ []) after_product 2 0
    ∷ entry ([] ∷ («*» ∷ []) ∷ («/» ∷ []) ∷ («%» ∷ []) ∷ []) after_product 0 0
    -- <atom>
    ∷ entry ((«NOT» ∷ []) ∷ (open_paren ∷ []) ∷ («TRUE» ∷ []) ∷ («FALSE» ∷ []) ∷ («ZERO» ∷ []) ∷ («ONE» ∷ []) ∷ («ONES» ∷ []) ∷
    («UNDEFINED» ∷ []) ∷ numbers ∷ («questionref» ∷ []) ∷ («ruleref» ∷ []) ∷ []) after_atom 1 2
    -- <name-or-number>
    ∷ entry ((NAME ∷ []) ∷ numbers ∷ []) (close_paren ∷ []) 1 0
    -- <numeric_flags>?
    ∷ entry ([] ∷ («flags» ∷ []) ∷ []) («minimum» ∷ []) 0 0
    -- <numeric_fl>
    ∷ entry (numeric_words ∷ []) (comma ∷ []) 1 0
    -- <numeric_flag>*
    ∷ entry ([] ∷ («|» ∷ []) ∷ []) (comma ∷ []) 0 0
    -- <numeric_flag>
    ∷ entry (singles numeric_words) («|» ∷ comma ∷ []) 0 0
    -- <numeric_value>
    ∷ entry (singles numbers) (comma ∷ []) 0 0
    ∷ []
