-- The grammar of document 01 (section Grammar), as a table: its rules in its order, with its own line above each.
-- `t` stands before the class of a token, `r` before a rule; a rule that may be absent has the empty alternative first.
-- Assumes nothing.
use Rattle.std.specs.Prelude.{List, [], ◌∷◌, map}
use Rattle.lexemes.specs.Classes.{open_brace, close_brace, open_paren, close_paren, comma, semicolon, «=»}
use Rattle.lexemes.specs.Classes.{«|», «&», «==», «!=», «<», «<=», «>», «>=», «<<», «>>», «+», «-», «*», «/», «%»}
use Rattle.lexemes.specs.Classes.{«AND», «DEFAULT», «FALSE», «INTERACTIVE», «NOT», «ONE», «ONES», «OR»}
use Rattle.lexemes.specs.Classes.{READ_ONLY, RESET_REQUIRED, STRING_TOKEN, «TRUE», «UNDEFINED», «ZERO»}
use Rattle.lexemes.specs.Classes.{NUMERIC_SIZE_1, NUMERIC_SIZE_2, NUMERIC_SIZE_4, NUMERIC_SIZE_8}
use Rattle.lexemes.specs.Classes.{DISPLAY_INT_DEC, DISPLAY_UINT_DEC, DISPLAY_UINT_HEX}
use Rattle.lexemes.specs.Classes.{«checkbox», «default», «disableif», «endcheckbox», «endform», «endformset», «endif», «endnumeric», «endoneof»}
use Rattle.lexemes.specs.Classes.{«endrule», «flags», «form», «formid», «formset», «goto», «grayoutif», «guid», «help», «label», «maximum», «minimum»}
use Rattle.lexemes.specs.Classes.{«name», «numeric», «oneof», «option», «prompt», «questionid», «questionref», «rule», «ruleref», «step», «subtitle»}
use Rattle.lexemes.specs.Classes.{«suppressif», «text», «title», «value»}
use Rattle.lexemes.specs.Classes.{NAME, HEX}
use Rattle.ll1.specs.Trees.{Grammar}
use Rattle.grammar.specs.Rules.{<source>, <form>*, <guid>, <guid_end>, <eight>, <H8>, <H4>, <H2>, <str>, <id>, <small>, <large>, <zero>, <form>}
use Rattle.grammar.specs.Rules.{<item_or_rule>*, <rule>, <item>, <goto_flags>?, <flags>?, <truth_default>?, <truth>, <step>?, <number_default>?}
use Rattle.grammar.specs.Rules.{<option>*, <item>*, <option>, <option_flags>, <head>, <name>?, <questionid>?, <fl>, <flag>*, <flag>}
use Rattle.grammar.specs.Rules.{<expression>, <or>, <or>*, <and>, <and>*, <bit_or>, <bit_or>*, <bit_and>, <bit_and>*, <equality>, <equality>*}
use Rattle.grammar.specs.Rules.{<order>, <order>*, <shift>, <shift>*, <sum>, <sum>*, <product>, <product>*, <atom>, <name_or_number>}
use Rattle.grammar.specs.Rules.{<numeric_flags>?, <numeric_fl>, <numeric_flag>*, <numeric_flag>, <numeric_value>}
use Rattle.grammar.specs.Notation.{t, r, plain, condition, group, one, optional, star, operators, numeral, choice, Production, ◌::=◌}

-- the rules, in the order of their numbers
unfoldable pub productions : List Production
productions =
    -- source: `formset guid =` GUID `, title =` STR `, help =` STR `,` form+ `endformset ;`
    <source> ::= one (t «formset» ∷ t «guid» ∷ t «=» ∷ r <guid> ∷ t comma ∷ t «title» ∷ t «=» ∷ r <str> ∷ t comma ∷
    t «help» ∷ t «=» ∷ r <str> ∷ t comma ∷ r <form> ∷ r <form>* ∷ t «endformset» ∷ t semicolon ∷ [])
    ∷ <form>* ::= star <form>* (r <form> ∷ [])
    -- GUID: `{` H8 `,` H4 `,` H4 `, {` eight H2 with commas between `} }`, or the same without the inner braces.
    ∷ <guid> ::= one (t open_brace ∷ r <H8> ∷ t comma ∷ r <H4> ∷ t comma ∷ r <H4> ∷ t comma ∷ r <guid_end> ∷ [])
    ∷ <guid_end> ::= (
    plain (t open_brace ∷ r <eight> ∷ t close_brace ∷ t close_brace ∷ []) ∷
    plain (r <eight> ∷ t close_brace ∷ []) ∷ [])
    ∷ <eight> ::= one (r <H2> ∷ t comma ∷ r <H2> ∷ t comma ∷ r <H2> ∷ t comma ∷ r <H2> ∷ t comma ∷
    r <H2> ∷ t comma ∷ r <H2> ∷ t comma ∷ r <H2> ∷ t comma ∷ r <H2> ∷ [])
    -- "All are hex numbers of any length here (a decimal one is refusal 3)"
    ∷ <H8> ::= one (t HEX ∷ [])
    ∷ <H4> ::= one (t HEX ∷ [])
    ∷ <H2> ::= one (t HEX ∷ [])
    -- STR: `STRING_TOKEN (` N `)`
    ∷ <str> ::= one (t STRING_TOKEN ∷ t open_paren ∷ r <small> ∷ t close_paren ∷ [])
    -- N: "A number is `0x` and one or more hex digits, or decimal digits only" (section Tokens); a rule for each range that refusal 5 gives it
    ∷ <id> ::= numeral
    ∷ <small> ::= numeral
    ∷ <large> ::= numeral
    ∷ <zero> ::= numeral
    -- form: `form formid =` N `, title =` STR `;` then (item or rule)* `endform ;`
    ∷ <form> ::= one (t «form» ∷ t «formid» ∷ t «=» ∷ r <id> ∷ t comma ∷ t «title» ∷ t «=» ∷ r <str> ∷ t semicolon ∷
    r <item_or_rule>* ∷ t «endform» ∷ t semicolon ∷ [])
    ∷ <item_or_rule>* ::= (
    plain [] ∷
    plain (r <item> ∷ r <item_or_rule>* ∷ []) ∷
    plain (r <rule> ∷ r <item_or_rule>* ∷ []) ∷ [])
    -- rule: `rule` NAME `,` expression `endrule ;`
    ∷ <rule> ::= one (t «rule» ∷ t NAME ∷ t comma ∷ r <expression> ∷ t «endrule» ∷ t semicolon ∷ [])
    -- item, one of:
    ∷ <item> ::= (
    -- `subtitle text =` STR `;`
    plain (t «subtitle» ∷ t «text» ∷ t «=» ∷ r <str> ∷ t semicolon ∷ []) ∷
    -- `text help =` STR `, text =` STR `;`
    plain (t «text» ∷ t «help» ∷ t «=» ∷ r <str> ∷ t comma ∷ t «text» ∷ t «=» ∷ r <str> ∷ t semicolon ∷ []) ∷
    -- `label` N `;`
    plain (t «label» ∷ r <small> ∷ t semicolon ∷ []) ∷
    -- `goto` N `,` HEAD [`, flags =` FL] `;`
    plain (t «goto» ∷ r <id> ∷ t comma ∷ r <head> ∷ r <goto_flags>? ∷ t semicolon ∷ []) ∷
    -- `checkbox` HEAD `,` [`flags =` FL `,`] [`default =` `TRUE` or `FALSE`, `,`] `endcheckbox ;`
    plain (t «checkbox» ∷ r <head> ∷ t comma ∷ r <flags>? ∷ r <truth_default>? ∷ t «endcheckbox» ∷ t semicolon ∷ []) ∷
    -- `numeric` HEAD `,` [`flags =` FL `,`] `minimum =` N `, maximum =` N `,` [`step =` N `,`] [`default =` N `,`] `endnumeric ;`
    plain (t «numeric» ∷ r <head> ∷ t comma ∷ r <numeric_flags>? ∷ t «minimum» ∷ t «=» ∷ r <numeric_value> ∷ t comma ∷
    t «maximum» ∷ t «=» ∷ r <numeric_value> ∷ t comma ∷ r <step>? ∷ r <number_default>? ∷ t «endnumeric» ∷ t semicolon ∷ []) ∷
    -- `oneof` HEAD `,` [`flags =` FL `,`] option+ `endoneof ;`
    plain (t «oneof» ∷ r <head> ∷ t comma ∷ r <flags>? ∷ r <option> ∷ r <option>* ∷ t «endoneof» ∷ t semicolon ∷ []) ∷
    -- `suppressif`, `grayoutif` or `disableif`, expression `;` item* `endif ;`
    condition (t «suppressif» ∷ r <expression> ∷ t semicolon ∷ r <item>* ∷ t «endif» ∷ t semicolon ∷ []) ∷
    condition (t «grayoutif» ∷ r <expression> ∷ t semicolon ∷ r <item>* ∷ t «endif» ∷ t semicolon ∷ []) ∷
    condition (t «disableif» ∷ r <expression> ∷ t semicolon ∷ r <item>* ∷ t «endif» ∷ t semicolon ∷ []) ∷ [])
    -- its parts in square brackets, and its lists
    ∷ <goto_flags>? ::= optional (t comma ∷ t «flags» ∷ t «=» ∷ r <fl> ∷ [])
    ∷ <flags>? ::= optional (t «flags» ∷ t «=» ∷ r <fl> ∷ t comma ∷ [])
    ∷ <truth_default>? ::= optional (t «default» ∷ t «=» ∷ r <truth> ∷ t comma ∷ [])
    ∷ <truth> ::= (
    plain (t «TRUE» ∷ []) ∷
    plain (t «FALSE» ∷ []) ∷ [])
    ∷ <step>? ::= optional (t «step» ∷ t «=» ∷ r <numeric_value> ∷ t comma ∷ [])
    ∷ <number_default>? ::= optional (t «default» ∷ t «=» ∷ r <numeric_value> ∷ t comma ∷ [])
    ∷ <option>* ::= star <option>* (r <option> ∷ [])
    ∷ <item>* ::= star <item>* (r <item> ∷ [])
    -- option: `option text =` STR `, value =` N `, flags =` (N or `DEFAULT`) `;`
    ∷ <option> ::= one (t «option» ∷ t «text» ∷ t «=» ∷ r <str> ∷ t comma ∷ t «value» ∷ t «=» ∷ r <large> ∷ t comma ∷
    t «flags» ∷ t «=» ∷ r <option_flags> ∷ t semicolon ∷ [])
    ∷ <option_flags> ::= (
    plain (r <zero> ∷ []) ∷
    plain (t «DEFAULT» ∷ []) ∷ [])
    -- HEAD: [`name =` NAME `,`] [`questionid =` N `,`] `prompt =` STR `, help =` STR
    ∷ <head> ::= one (r <name>? ∷ r <questionid>? ∷ t «prompt» ∷ t «=» ∷ r <str> ∷ t comma ∷ t «help» ∷ t «=» ∷ r <str> ∷ [])
    ∷ <name>? ::= optional (t «name» ∷ t «=» ∷ t NAME ∷ t comma ∷ [])
    ∷ <questionid>? ::= optional (t «questionid» ∷ t «=» ∷ r <id> ∷ t comma ∷ [])
    -- FL: one or more of `READ_ONLY` (1), `INTERACTIVE` (4), `RESET_REQUIRED` (16) with `|` between
    ∷ <fl> ::= one (r <flag> ∷ r <flag>* ∷ [])
    ∷ <flag>* ::= star <flag>* (t «|» ∷ r <flag> ∷ [])
    ∷ <flag> ::= choice (READ_ONLY ∷ «INTERACTIVE» ∷ RESET_REQUIRED ∷ [])
    -- "Expressions, loosest level first, each grouping to the left: `OR`;
    ∷ <or> ::= one (r <and> ∷ r <or>* ∷ [])
    ∷ <or>* ::= operators <or>* <and> («OR» ∷ [])
    -- `AND`;
    ∷ <and> ::= one (r <bit_or> ∷ r <and>* ∷ [])
    ∷ <and>* ::= operators <and>* <bit_or> («AND» ∷ [])
    -- `|`;
    ∷ <bit_or> ::= one (r <bit_and> ∷ r <bit_or>* ∷ [])
    ∷ <bit_or>* ::= operators <bit_or>* <bit_and> («|» ∷ [])
    -- `&`;
    ∷ <bit_and> ::= one (r <equality> ∷ r <bit_and>* ∷ [])
    ∷ <bit_and>* ::= operators <bit_and>* <equality> («&» ∷ [])
    -- `==` `!=`;
    ∷ <equality> ::= one (r <order> ∷ r <equality>* ∷ [])
    ∷ <equality>* ::= operators <equality>* <order> («==» ∷ «!=» ∷ [])
    -- `<` `<=` `>` `>=`;
    ∷ <order> ::= one (r <shift> ∷ r <order>* ∷ [])
    ∷ <order>* ::= operators <order>* <shift> («<» ∷ «<=» ∷ «>» ∷ «>=» ∷ [])
    -- `<<` `>>`;
    ∷ <shift> ::= one (r <sum> ∷ r <shift>* ∷ [])
    ∷ <shift>* ::= operators <shift>* <sum> («<<» ∷ «>>» ∷ [])
    -- `+` `-`;
    ∷ <sum> ::= one (r <product> ∷ r <sum>* ∷ [])
    ∷ <sum>* ::= operators <sum>* <product> («+» ∷ «-» ∷ [])
    -- `*` `/` `%`."
    ∷ <product> ::= one (r <atom> ∷ r <product>* ∷ [])
    ∷ <product>* ::= operators <product>* <atom> («*» ∷ «/» ∷ «%» ∷ [])
    -- "Then an atom:
    ∷ <atom> ::= (
    -- `NOT` atom;
    group (t «NOT» ∷ r <atom> ∷ []) ∷
    -- `(` expression `)`;
    group (t open_paren ∷ r <expression> ∷ t close_paren ∷ []) ∷
    -- `TRUE FALSE ZERO ONE ONES UNDEFINED`;
    plain (t «TRUE» ∷ []) ∷
    plain (t «FALSE» ∷ []) ∷
    plain (t «ZERO» ∷ []) ∷
    plain (t «ONE» ∷ []) ∷
    plain (t «ONES» ∷ []) ∷
    plain (t «UNDEFINED» ∷ []) ∷
    -- N;
    plain (r <large> ∷ []) ∷
    -- `questionref (` NAME or N `)`;
    plain (t «questionref» ∷ t open_paren ∷ r <name_or_number> ∷ t close_paren ∷ []) ∷
    -- `ruleref (` NAME `)`."
    plain (t «ruleref» ∷ t open_paren ∷ t NAME ∷ t close_paren ∷ []) ∷ [])
    ∷ <name_or_number> ::= (
    plain (t NAME ∷ []) ∷
    plain (r <id> ∷ []) ∷ [])
    -- a numeric's FL: "The new words join a numeric's FL" (document 02, W-204); and its N
    ∷ <numeric_flags>? ::= optional (t «flags» ∷ t «=» ∷ r <numeric_fl> ∷ t comma ∷ [])
    ∷ <numeric_fl> ::= one (r <numeric_flag> ∷ r <numeric_flag>* ∷ [])
    ∷ <numeric_flag>* ::= star <numeric_flag>* (t «|» ∷ r <numeric_flag> ∷ [])
    ∷ <numeric_flag> ::= choice (READ_ONLY ∷ «INTERACTIVE» ∷ RESET_REQUIRED
    ∷ NUMERIC_SIZE_1 ∷ NUMERIC_SIZE_2 ∷ NUMERIC_SIZE_4 ∷ NUMERIC_SIZE_8
    ∷ DISPLAY_INT_DEC ∷ DISPLAY_UINT_DEC ∷ DISPLAY_UINT_HEX ∷ [])
    ∷ <numeric_value> ::= numeral
    ∷ []

-- the same without the names
unfoldable pub rules : Grammar
unfolding productions
rules = map (λ p. p.alternatives) productions
