-- Verdicts by computation: document 01's worked example, a text that takes every alternative, and small texts on both sides of each
-- line that the grammar draws.
-- Assumes nothing.
use mathlib.Core.Path.{◌≡◌, refl}
use mathlib.Core.List.{List, [], ◌∷◌, ◌++◌, map}
use mathlib.Core.Option.{Option, none, some}
use mathlib.Core.Bool.{Bool, true, false, ◌&&◌, ◌||◌}
use Prim.Native.Nat.{ℕ, zero, suc, ◌+◌, ◌*◌}
use lib.Dec.{eqb}
use Rattle.lexemes.specs.Classes.{open_brace, close_brace, open_paren, close_paren, comma, semicolon, «=», «|», «&», «==», «!=», «<», «<=», «>», «>=», «<<», «>>», «+» as plus, «-» as minus, «*» as asterisk, «/» as slash, «%» as percent}
use Rattle.lexemes.specs.Classes.{«AND», «DEFAULT», «FALSE», «INTERACTIVE», «NOT», «ONE», «ONES», «OR», READ_ONLY, RESET_REQUIRED, STRING_TOKEN, «TRUE», «UNDEFINED», «ZERO»}
use Rattle.lexemes.specs.Classes.{NUMERIC_SIZE_1, NUMERIC_SIZE_2, NUMERIC_SIZE_4, NUMERIC_SIZE_8, DISPLAY_INT_DEC, DISPLAY_UINT_DEC, DISPLAY_UINT_HEX}
use Rattle.lexemes.specs.Classes.{«checkbox», «default», «disableif», «endcheckbox», «endform», «endformset», «endif», «endnumeric», «endoneof», «endrule», «flags», «form», «formid», «formset», «goto», «grayoutif», «guid», «help», «label», «maximum», «minimum», «name», «numeric», «oneof», «option», «prompt», «questionid», «questionref», «rule», «ruleref», «step», «subtitle», «suppressif», «text», «title», «value»}
use Rattle.lexemes.specs.Classes.{NAME, HEX, DECIMAL, BAD}
use Rattle.ll1.specs.Trees.{Token, token, Trees, nil, leaf, node}
use Rattle.ll1.specs.Verdict.{Verdict, accepted, ends_early, refused}
use Rattle.ll1.specs.Machine.{run}
use Rattle.ll1.specs.Parser as Parser
use Rattle.ll1.specs.Test.{all_at}
use Rattle.grammar.specs.Grammar.{rules}
use Rattle.grammar.specs.Lookahead.{lookahead}
use Rattle.grammar.specs.Reading.{verdict_from, verdict, derivation}

-- ---- texts by the classes of their tokens

-- each token's place is its number, from n on
abbrev pub placed : ℕ → List ℕ → List Token
placed n [] = []
placed n (k ∷ l) = token k n ∷ placed (suc n) l

abbrev times : ℕ → List ℕ → List ℕ
times zero l = []
times (suc n) l = l ++ times n l

-- STR
abbrev string : List ℕ
string = STRING_TOKEN ∷ open_paren ∷ DECIMAL ∷ close_paren ∷ []

-- HEAD without name and number: 13 tokens
abbrev head : List ℕ
head = «prompt» ∷ «=» ∷ string ++ comma ∷ «help» ∷ «=» ∷ string

abbrev eight : List ℕ
eight = HEX ∷ times 7 (comma ∷ HEX ∷ [])

abbrev in_braces : List ℕ
in_braces = open_brace ∷ eight ++ close_brace ∷ close_brace ∷ []

-- a source up to its first form, with a GUID that ends so
abbrev opening : List ℕ → List ℕ
opening guid_end_lem =
    «formset» ∷ «guid» ∷ «=» ∷ open_brace ∷ HEX ∷ comma ∷ HEX ∷ comma ∷ HEX ∷ comma ∷ guid_end_lem
    ++ comma ∷ «title» ∷ «=» ∷ string ++ comma ∷ «help» ∷ «=» ∷ string ++ comma ∷ []

-- a form up to its items and rules
abbrev form_opening : List ℕ
form_opening = «form» ∷ «formid» ∷ «=» ∷ DECIMAL ∷ comma ∷ «title» ∷ «=» ∷ string ++ semicolon ∷ []

abbrev closing : List ℕ
closing = «endform» ∷ semicolon ∷ «endformset» ∷ semicolon ∷ []

-- a source of one form, up to the end of these items and rules; and the whole of it
abbrev begun : List ℕ → List ℕ
begun parts = opening in_braces ++ form_opening ++ parts

abbrev source : List ℕ → List ℕ
source parts = begun parts ++ closing

-- the number of the first of these tokens in it
abbrev part : ℕ
part = 55

abbrev rule_of_lem : List ℕ → List ℕ
rule_of_lem expression = «rule» ∷ NAME ∷ comma ∷ expression ++ «endrule» ∷ semicolon ∷ []

abbrev suppress : List ℕ
suppress = «suppressif» ∷ DECIMAL ∷ semicolon ∷ []

abbrev end : List ℕ
end = «endif» ∷ semicolon ∷ []

abbrev parens : ℕ → List ℕ → List ℕ
parens n expression = times n (open_paren ∷ []) ++ expression ++ times n (close_paren ∷ [])

-- ---- two longer texts

-- document 01's worked example
abbrev worked : List ℕ
worked =
    source (
    «checkbox» ∷ «name» ∷ «=» ∷ NAME ∷ comma ∷ head ++ comma ∷ «default» ∷ «=» ∷ «TRUE» ∷ comma ∷ «endcheckbox» ∷ semicolon ∷ []
    ++ «suppressif» ∷ «NOT» ∷ «questionref» ∷ open_paren ∷ NAME ∷ close_paren ∷ «OR» ∷ DECIMAL ∷ plus ∷ DECIMAL ∷ asterisk ∷ DECIMAL ∷ «==» ∷ DECIMAL ∷ semicolon ∷ []
    ++ «numeric» ∷ «questionid» ∷ «=» ∷ DECIMAL ∷ comma ∷ head ++ comma ∷ «flags» ∷ «=» ∷ READ_ONLY ∷ comma
    ∷ «minimum» ∷ «=» ∷ DECIMAL ∷ comma ∷ «maximum» ∷ «=» ∷ DECIMAL ∷ comma ∷ «endnumeric» ∷ semicolon ∷ []
    ++ end)

-- a text that takes every alternative of the grammar, but one of the two ends of a GUID
abbrev everything : List ℕ → List ℕ
everything guid_end_lem =
    opening guid_end_lem ++ form_opening
    -- items of one row
    ++ «subtitle» ∷ «text» ∷ «=» ∷ string ++ semicolon ∷ «text» ∷ «help» ∷ «=» ∷ string ++ comma ∷ «text» ∷ «=» ∷ string ++ semicolon ∷ «label» ∷ HEX ∷ semicolon ∷ []
    -- questions, with and without the parts in square brackets
    ++ «goto» ∷ DECIMAL ∷ comma ∷ «name» ∷ «=» ∷ NAME ∷ comma ∷ «questionid» ∷ «=» ∷ DECIMAL ∷ comma ∷ head
    ++ comma ∷ «flags» ∷ «=» ∷ READ_ONLY ∷ «|» ∷ «INTERACTIVE» ∷ «|» ∷ RESET_REQUIRED ∷ semicolon ∷ «goto» ∷ HEX ∷ comma ∷ head ++ semicolon ∷ []
    ++ «checkbox» ∷ head ++ comma ∷ «flags» ∷ «=» ∷ «INTERACTIVE» ∷ comma ∷ «default» ∷ «=» ∷ «TRUE» ∷ comma ∷ «endcheckbox» ∷ semicolon ∷ []
    ++ «checkbox» ∷ head ++ comma ∷ «default» ∷ «=» ∷ «FALSE» ∷ comma ∷ «endcheckbox» ∷ semicolon ∷ «checkbox» ∷ head ++ comma ∷ «endcheckbox» ∷ semicolon ∷ []
    ++ «numeric» ∷ head ++ comma ∷ «minimum» ∷ «=» ∷ DECIMAL ∷ comma ∷ «maximum» ∷ «=» ∷ DECIMAL ∷ comma ∷ «endnumeric» ∷ semicolon ∷ []
    ++ «numeric» ∷ head ++ comma ∷ «flags» ∷ «=» ∷ READ_ONLY ∷ «|» ∷ «INTERACTIVE» ∷ «|» ∷ RESET_REQUIRED ∷ «|» ∷ NUMERIC_SIZE_1
    ∷ «|» ∷ NUMERIC_SIZE_2 ∷ «|» ∷ NUMERIC_SIZE_4 ∷ «|» ∷ NUMERIC_SIZE_8 ∷ «|» ∷ DISPLAY_INT_DEC ∷ «|» ∷ DISPLAY_UINT_DEC
    ∷ «|» ∷ DISPLAY_UINT_HEX ∷ comma
    ∷ «minimum» ∷ «=» ∷ HEX ∷ comma ∷ «maximum» ∷ «=» ∷ DECIMAL ∷ comma
    ∷ «step» ∷ «=» ∷ DECIMAL ∷ comma ∷ «default» ∷ «=» ∷ DECIMAL ∷ comma ∷ «endnumeric» ∷ semicolon ∷ []
    ++ «oneof» ∷ head ++ comma ∷ «flags» ∷ «=» ∷ READ_ONLY ∷ comma ∷ «option» ∷ «text» ∷ «=» ∷ string ++ comma ∷ «value» ∷ «=» ∷ DECIMAL ∷ comma ∷ «flags» ∷ «=» ∷ DECIMAL ∷ semicolon
    ∷ «option» ∷ «text» ∷ «=» ∷ string ++ comma ∷ «value» ∷ «=» ∷ DECIMAL ∷ comma ∷ «flags» ∷ «=» ∷ HEX ∷ semicolon
    ∷ «option» ∷ «text» ∷ «=» ∷ string ++ comma ∷ «value» ∷ «=» ∷ DECIMAL ∷ comma ∷ «flags» ∷ «=» ∷ «DEFAULT» ∷ semicolon ∷ «endoneof» ∷ semicolon ∷ []
    -- conditions
    ++ suppress ++ «grayoutif» ∷ «NOT» ∷ DECIMAL ∷ semicolon ∷ «disableif» ∷ open_paren ∷ DECIMAL ∷ close_paren ∷ semicolon ∷ end ++ end ++ end
    -- atoms, and an operator of each kind
    ++ rule_of_lem («questionref» ∷ open_paren ∷ NAME ∷ close_paren ∷ «OR» ∷ «questionref» ∷ open_paren ∷ DECIMAL ∷ close_paren ∷ «AND» ∷ «ruleref» ∷ open_paren ∷ NAME ∷ close_paren ∷ [])
    ++ rule_of_lem («TRUE» ∷ «|» ∷ «FALSE» ∷ «&» ∷ «ZERO» ∷ «==» ∷ «ONE» ∷ «!=» ∷ «ONES» ∷ «<» ∷ «UNDEFINED» ∷ «<=» ∷ HEX ∷ «>» ∷ DECIMAL ∷ «>=» ∷ DECIMAL ∷ [])
    ++ rule_of_lem (DECIMAL ∷ «<<» ∷ DECIMAL ∷ «>>» ∷ DECIMAL ∷ plus ∷ DECIMAL ∷ minus ∷ DECIMAL ∷ asterisk ∷ DECIMAL ∷ slash ∷ DECIMAL ∷ percent ∷ DECIMAL ∷ [])
    -- a second form
    ++ «endform» ∷ semicolon ∷ form_opening ++ closing

-- ---- the cases

pub record Case : Type 0 where
  pub classes : List ℕ
  pub expected : Verdict

infix 68 ◌gives◌
abbrev ◌gives◌ : List ℕ → Verdict → Case
l gives v = record { classes = l; expected = v }

unfoldable pub cases : List Case
cases =
    worked gives accepted
    ∷ everything in_braces gives accepted
    ∷ everything (eight ++ close_brace ∷ []) gives accepted
    -- the empty source; one that ends early; a first token that starts no text; a bad token
    ∷ [] gives ends_early
    ∷ («formset» ∷ «guid» ∷ []) gives ends_early
    ∷ («endif» ∷ []) gives refused 3 0
    ∷ («formset» ∷ BAD ∷ []) gives refused 3 1
    -- tokens after the last `;`
    ∷ (source [] ++ semicolon ∷ []) gives refused 3 (part + 4)
    -- the parts of a GUID are hex
    ∷ («formset» ∷ «guid» ∷ «=» ∷ open_brace ∷ HEX ∷ comma ∷ DECIMAL ∷ comma ∷ []) gives refused 3 6
    -- its braces match: both inner ones, none, only the first, only the second
    ∷ source [] gives accepted
    ∷ (opening (eight ++ close_brace ∷ []) ++ form_opening ++ closing) gives accepted
    ∷ (opening (open_brace ∷ eight ++ close_brace ∷ []) ++ form_opening ++ closing) gives refused 3 27
    ∷ (opening (eight ++ close_brace ∷ close_brace ∷ []) ++ form_opening ++ closing) gives refused 3 26
    -- a rule stands in a form and in no condition
    ∷ source (rule_of_lem (DECIMAL ∷ [])) gives accepted
    ∷ source (suppress ++ rule_of_lem (DECIMAL ∷ []) ++ end) gives refused 3 (part + 3)
    -- a form and a condition may be empty; a form set has a form, a oneof an option
    ∷ source (suppress ++ end) gives accepted
    ∷ (opening in_braces ++ «endformset» ∷ semicolon ∷ []) gives refused 3 43
    ∷ source («oneof» ∷ head ++ comma ∷ «endoneof» ∷ semicolon ∷ []) gives refused 3 (part + 15)
    -- a goto has no comma after HEAD unless flags follow; the other questions have one
    ∷ source («goto» ∷ DECIMAL ∷ comma ∷ head ++ semicolon ∷ []) gives accepted
    ∷ source («goto» ∷ DECIMAL ∷ comma ∷ head ++ comma ∷ semicolon ∷ []) gives refused 3 (part + 17)
    ∷ source («goto» ∷ DECIMAL ∷ comma ∷ head ++ comma ∷ «flags» ∷ «=» ∷ READ_ONLY ∷ semicolon ∷ []) gives accepted
    ∷ source («checkbox» ∷ head ++ «endcheckbox» ∷ semicolon ∷ []) gives refused 3 (part + 14)
    -- the parts in square brackets have their order
    ∷ source («checkbox» ∷ «questionid» ∷ «=» ∷ DECIMAL ∷ comma ∷ «name» ∷ «=» ∷ NAME ∷ comma ∷ head ++ comma ∷ «endcheckbox» ∷ semicolon ∷ []) gives refused 3 (part + 5)
    ∷ source («numeric» ∷ head ++ comma ∷ «minimum» ∷ «=» ∷ DECIMAL ∷ comma ∷ «maximum» ∷ «=» ∷ DECIMAL ∷ comma ∷ «default» ∷ «=» ∷ DECIMAL ∷ comma ∷ «step» ∷ []) gives refused 3 (part + 27)
    -- operators
    ∷ source (rule_of_lem (DECIMAL ∷ minus ∷ DECIMAL ∷ minus ∷ DECIMAL ∷ [])) gives accepted
    ∷ source (rule_of_lem («NOT» ∷ DECIMAL ∷ plus ∷ DECIMAL ∷ [])) gives accepted
    ∷ source (rule_of_lem (DECIMAL ∷ plus ∷ plus ∷ DECIMAL ∷ [])) gives refused 3 (part + 5)
    -- 16 conditions open at once, and 17, of any kind; 17 one after another
    ∷ source (times 16 suppress ++ times 16 end) gives accepted
    ∷ source (times 17 suppress ++ times 17 end) gives refused 4 (part + 16 * 3)
    ∷ source (times 15 suppress ++ «grayoutif» ∷ DECIMAL ∷ semicolon ∷ «disableif» ∷ DECIMAL ∷ semicolon ∷ [] ++ times 17 end) gives refused 4 (part + 16 * 3)
    ∷ source (times 17 (suppress ++ end)) gives accepted
    -- 32 groups open in one expression, and 33; `NOT` is one, a reference's parentheses are none; finished ones do not count
    ∷ source (rule_of_lem (parens 32 («ruleref» ∷ open_paren ∷ NAME ∷ close_paren ∷ []))) gives accepted
    ∷ source (rule_of_lem (parens 33 (DECIMAL ∷ []))) gives refused 4 (part + 3 + 32)
    ∷ source (rule_of_lem (times 16 («NOT» ∷ open_paren ∷ []) ++ DECIMAL ∷ times 16 (close_paren ∷ []))) gives accepted
    ∷ source (rule_of_lem (times 16 («NOT» ∷ open_paren ∷ []) ++ «NOT» ∷ DECIMAL ∷ times 16 (close_paren ∷ []))) gives refused 4 (part + 3 + 32)
    ∷ source (rule_of_lem (times 40 («NOT» ∷ DECIMAL ∷ «OR» ∷ []) ++ DECIMAL ∷ [])) gives accepted
    -- each expression starts anew
    ∷ source («suppressif» ∷ parens 32 (DECIMAL ∷ []) ++ semicolon ∷ «suppressif» ∷ parens 32 (DECIMAL ∷ []) ++ semicolon ∷ end ++ end) gives accepted
    -- 3 against 4: the earlier token, and 4 only where the token may stand
    ∷ source (times 17 suppress) gives refused 4 (part + 16 * 3)
    ∷ source (times 16 suppress ++ «label» ∷ «suppressif» ∷ []) gives refused 3 (part + 16 * 3 + 1)
    -- depths aside: tokens with which only too deep texts start pass 3
    ∷ begun («rule» ∷ NAME ∷ comma ∷ times 33 (open_paren ∷ [])) gives refused 4 (part + 3 + 32)
    ∷ begun («rule» ∷ NAME ∷ comma ∷ times 32 (open_paren ∷ [])) gives ends_early
    ∷ []

-- each case has the verdict that stands beside it
pub cases_right : map (λ c. verdict (placed 0 c.classes)) cases ≡ map (λ c. c.expected) cases
unfolding cases verdict_from run rules lookahead
cases_right = refl

-- ---- the two longest cases take every alternative of the table

-- a node of the trees takes alternative i of rule A
abbrev takes : Trees → ℕ → ℕ → Bool
takes nil A i = false
takes (leaf t f) A i = takes f A i
takes (node B j c f) A i = eqb A B && eqb i j || takes c A i || takes f A i

abbrev trees_of : Option Trees → Trees
trees_of none = nil
trees_of (some f) = f

unfoldable pub all_taken : Bool
all_taken =
    let f = trees_of (derivation (placed 0 (everything in_braces))) in
    let g = trees_of (derivation (placed 0 (everything (eight ++ close_brace ∷ [])))) in
    all_at (λ A l. all_at (λ i a. takes f A i || takes g A i) l) rules

pub everything_taken : all_taken ≡ true
unfolding all_taken derivation Parser.derivation rules lookahead
everything_taken = refl
