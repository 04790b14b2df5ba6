-- What showing gives, from bytes to answer and bytes: readings of W-202 (docs/DECISIONS.md, W202.6 to W202.18), three lists with one claim each, by
-- computation.
-- Assumes nothing.
use Prim.Native.Nat.{ℕ, ◌*◌}
use mathlib.Core.Path.{◌≡◌, refl}
use mathlib.Core.List.{List, [], ◌∷◌, ◌++◌, map}
use lib.ListN.{length}
use Rattle.lexemes.specs.Lexemes.{bytes, signs, reserved}
use Rattle.lexemes.specs.Words.{run, all, same, place_among, same_word}
use Rattle.lex.specs.Tokens.{is_gap, in_comment, gap, word_class, word_token, sign_class, sign_token, token_from, token_after_gap}
use Rattle.lex.specs.Tokens.{tokens_within, tokens_from, tokens, bad_among, first_bad}
use Rattle.values.specs.Numbers.{is_hex, value_from, numeral, value_at, digits_at}
use Rattle.numbers.specs.Numbers.{picked, free_from, fill, numbered, mem}
use Rattle.circles.specs.Circles.{leads, closure, circular}
use Rattle.rule_steps.specs.Steps.{rule_round, step_in, steps_among, greatest}
use Rattle.rows.specs.Codes as code
use Rattle.rows.specs.Codes.{is_question}
use Rattle.rows.specs.Columns.{ROW}
use Rattle.sizes.specs.Sizes as sizes
use Rattle.ll1.specs.Machine as machine
use Rattle.ll1.specs.Parser as parser
use Rattle.grammar.specs.Grammar.{productions, rules}
use Rattle.grammar.specs.Lookahead.{lookahead}
use Rattle.grammar.specs.Reading.{verdict_from, derivation}
use Rattle.grammar.specs.Source.{grammar_tokens, source_tokens, number_at}
use Rattle.grammar.specs.Ranges.{ranges, range_of, keeps, gathered, out_of_range_here, out_of_range, seconds_here, second_words}
use Rattle.answers.specs.Expression.{expression}
use Rattle.answers.specs.Stages.{any, faults_after, repeated_forms, repeated_questions, repeated_names, rules_over_limit}
use Rattle.answers.specs.Stages.{form_from, form_round, unfound, below, bad_choices}
use Rattle.answers.specs.Stages.{own_numbers, with_numbers, numbered_rows, own_of_first, with_references, settled, finished, on_circle, circular_references}
use Rattle.answers.specs.Answer.{Answer, accepts, refuses, needs, answer_of, drafts}
use Rattle.answers.specs.WholeAnswer.{checked, read_answer, rows_of}
use Rattle.answers.specs.Text.{row_first_at}
use Rattle.operators.specs.Values.{applied, negated, found, operations, constants, sum, product, divided}
use Rattle.saved_answers.specs.Answers.{saved_for, by_kind}
use Rattle.saved_answers.specs.Good.{good_answers}
use Rattle.question_kinds.specs.Kinds.{own_in, owns_in}
use Rattle.laid.specs.Statements.{items_of}
use Rattle.meaning.specs.Meaning.{meaning}
use Rattle.meaning.specs.Rules.{rule_at, rounds, worth}
use Rattle.screen.specs.Kinds.{items, hiding, greying, is_item, hides, greys}
use Rattle.screen.specs.Screen.{screen_of, source_screen}
use Rattle.screen.specs.Bytes as screen
use Rattle.form_set_rules.specs.Rules.{rules_of}
use Rattle.table_screen.specs.SourceScreen.{borne, question_answer, screen_bytes}
use Rattle.show.specs.Show.{shown_bytes, good_for, show_answer, show_output}

-- ---- computed

pub record Shown : Type 0 where
  pub answer : Answer
  pub output : List ℕ

-- with n numbers and m bytes lent
unfoldable pub shown_in : (n m : ℕ) (s answers : List ℕ) → Shown
unfolding signs reserved run all same place_among is_gap in_comment gap is_hex word_class word_token sign_class sign_token token_from token_after_gap
    tokens_within tokens_from tokens bad_among first_bad same_word value_from numeral value_at digits_at picked free_from fill numbered mem code.member
    code.questions is_question machine.run parser.derivation productions rules lookahead verdict_from derivation grammar_tokens source_tokens number_at
    expression ranges range_of keeps gathered out_of_range_here out_of_range seconds_here second_words sizes.modulus
    sizes.fits any faults_after repeated_forms repeated_questions repeated_names rules_over_limit form_from form_round unfound sizes.width sizes.half sizes.low
    sizes.minus sizes.amount sizes.signed_below sizes.below below bad_choices
    own_numbers with_numbers numbered_rows own_of_first with_references settled finished leads closure circular rule_round step_in steps_among greatest
    on_circle circular_references checked answer_of drafts read_answer rows_of
    row_first_at applied negated found operations constants sum product divided saved_for by_kind good_answers own_in owns_in items_of meaning rule_at
    rounds worth items hiding greying is_item hides greys screen_of source_screen screen.bytes screen.formula_rows rules_of borne question_answer screen_bytes
    shown_bytes good_for show_answer show_output
shown_in n m s answers = record { answer = show_answer s answers n m; output = show_output s answers n m }

-- ---- the examples

-- one form, number 1; its two rows come before those of the fragment
abbrev framed : List ℕ → List ℕ
framed t =
    bytes "formset guid={0x1,0x2,0x3,{0x4,0x5,0x6,0x7,0x8,0x9,0xA,0xB}},title=STRING_TOKEN(2),help=STRING_TOKEN(3),"
    ++ (bytes "form formid=1,title=STRING_TOKEN(4);" ++ t ++ bytes "endform;endformset;")

-- three checkboxes, the last without a written number
abbrev three : List ℕ
three =
    bytes "checkbox questionid=5,prompt=STRING_TOKEN(0),help=STRING_TOKEN(0),endcheckbox;"
    ++ (bytes "checkbox questionid=9,prompt=STRING_TOKEN(0),help=STRING_TOKEN(0),endcheckbox;"
    ++ bytes "checkbox prompt=STRING_TOKEN(0),help=STRING_TOKEN(0),endcheckbox;")

-- a fragment, the whole rows lent, the answers, and what must come of it; as many bytes are lent as the output has
pub record Example : Type 0 where
  pub fragment : List ℕ
  pub rows : ℕ
  pub answers : List ℕ
  pub expected : Shown

abbrev example : ℕ → List ℕ → List ℕ → Answer → List ℕ → Example
example rows t answers a output = record { fragment = t; rows = rows; answers = answers; expected = record { answer = a; output = output } }

-- what comes of it
abbrev shown_of : Example → Shown
shown_of e = shown_in (e.rows * ROW) (length e.expected.output) (framed e.fragment) e.answers

-- what hides, what questions answer and what rules are worth (W202.6, W202.7, W202.11)
unfoldable pub values : List Example
values =
    -- only TRUE hides: a number does not
    example 12 (bytes "suppressif 1;label 1;endif;") ([])
    (accepts 5 65535) (0 ∷ 0 ∷ 0 ∷ 0 ∷ 0 ∷ [])
    ∷
    -- TRUE greys; zeros past the rows
    example 12 (bytes "grayoutif 1==1;label 1;endif;") ([])
    (accepts 7 65535) (0 ∷ 0 ∷ 0 ∷ 0 ∷ 0 ∷ 0 ∷ 2 ∷ 0 ∷ 0 ∷ [])
    ∷
    -- a checkbox answers TRUE for 2
    example 12 (
    bytes "checkbox questionid=5,prompt=STRING_TOKEN(0),help=STRING_TOKEN(0),endcheckbox;suppressif questionref(5);"
    ++ bytes "label 1;endif;"
    ) (5 ∷ 2 ∷ [])
    (accepts 6 65534) (0 ∷ 0 ∷ 0 ∷ 0 ∷ 0 ∷ 1 ∷ [])
    ∷
    -- a numeric its number, which nothing checks
    example 12 (
    bytes "numeric questionid=6,prompt=STRING_TOKEN(0),help=STRING_TOKEN(0),minimum=0,maximum=9,endnumeric;"
    ++ bytes "suppressif questionref(6)==400;label 1;endif;"
    ) (6 ∷ 400 ∷ [])
    (accepts 8 65534) (0 ∷ 0 ∷ 0 ∷ 0 ∷ 0 ∷ 0 ∷ 0 ∷ 1 ∷ [])
    ∷
    -- a goto is undefined, though it is answered
    example 12 (
    bytes "goto 1,questionid=8,prompt=STRING_TOKEN(0),help=STRING_TOKEN(0);"
    ++ bytes "suppressif questionref(8)==questionref(8);label 1;endif;"
    ) (8 ∷ 1 ∷ [])
    (accepts 8 65534) (0 ∷ 0 ∷ 0 ∷ 0 ∷ 0 ∷ 0 ∷ 0 ∷ 0 ∷ [])
    ∷
    -- a default is no answer
    example 12 (
    bytes "checkbox questionid=5,prompt=STRING_TOKEN(0),help=STRING_TOKEN(0),default=TRUE,endcheckbox;"
    ++ bytes "suppressif questionref(5);label 1;endif;"
    ) ([])
    (accepts 6 65534) (0 ∷ 0 ∷ 0 ∷ 0 ∷ 0 ∷ 0 ∷ [])
    ∷
    -- a rule's value with its sort; a later rule is as good
    example 12 (bytes "suppressif ruleref(A)+1==8;label 1;endif;rule A,7 endrule;") ([])
    (accepts 11 65535) (0 ∷ 0 ∷ 0 ∷ 0 ∷ 0 ∷ 0 ∷ 0 ∷ 0 ∷ 1 ∷ 0 ∷ 0 ∷ [])
    ∷ []

pub values_shown : map shown_of values ≡ map (λ e. e.expected) values
unfolding values shown_in
values_shown = refl

-- which rows have a byte, and which conditions are round them (W202.12, W202.13)
unfoldable pub rows : List Example
rows =
    -- which rows have a byte: all items, no condition, no option
    example 12 (
    bytes "suppressif TRUE;subtitle text=STRING_TOKEN(0);text help=STRING_TOKEN(0),text=STRING_TOKEN(0);label 1;"
    ++ bytes "goto 1,prompt=STRING_TOKEN(0),help=STRING_TOKEN(0);"
    ++ bytes "checkbox prompt=STRING_TOKEN(0),help=STRING_TOKEN(0),endcheckbox;"
    ++ bytes "numeric prompt=STRING_TOKEN(0),help=STRING_TOKEN(0),minimum=0,maximum=9,endnumeric;"
    ++ bytes "oneof prompt=STRING_TOKEN(0),help=STRING_TOKEN(0),option text=STRING_TOKEN(0),value=1,flags=0;endoneof;"
    ++ bytes "endif;"
    ) ([])
    (accepts 12 65531) (0 ∷ 0 ∷ 0 ∷ 0 ∷ 1 ∷ 1 ∷ 1 ∷ 1 ∷ 1 ∷ 1 ∷ 1 ∷ 0 ∷ [])
    ∷
    -- every condition round an item, each by its own value
    example 12 (bytes "suppressif TRUE;grayoutif TRUE;label 1;endif;label 2;endif;label 3;") ([])
    (accepts 9 65535) (0 ∷ 0 ∷ 0 ∷ 0 ∷ 0 ∷ 0 ∷ 3 ∷ 1 ∷ 0 ∷ [])
    ∷
    -- also inside one that is undefined
    example 12 (bytes "grayoutif TRUE;suppressif UNDEFINED;disableif FALSE;label 1;endif;endif;endif;") ([])
    (accepts 9 65535) (0 ∷ 0 ∷ 0 ∷ 0 ∷ 0 ∷ 0 ∷ 0 ∷ 0 ∷ 2 ∷ [])
    ∷ []

pub rows_shown : map shown_of rows ≡ map (λ e. e.expected) rows
unfolding rows shown_in
rows_shown = refl

-- 14 and 15 with their places, and the order of the checks (W202.10, W202.14 to W202.16)
unfoldable pub faults : List Example
faults =
    -- 15: a repeated number
    example 12 three (5 ∷ 1 ∷ 5 ∷ 1 ∷ [])
    (refuses 15 1) (0 ∷ 0 ∷ 0 ∷ 0 ∷ 0 ∷ [])
    ∷
    -- a number no question bears
    example 12 three (5 ∷ 1 ∷ 8 ∷ 1 ∷ [])
    (refuses 15 1) (0 ∷ 0 ∷ 0 ∷ 0 ∷ 0 ∷ [])
    ∷
    -- an odd last word
    example 12 three (5 ∷ 1 ∷ 9 ∷ [])
    (refuses 15 1) (0 ∷ 0 ∷ 0 ∷ 0 ∷ 0 ∷ [])
    ∷
    -- the number that the third question gets is borne
    example 12 three (1 ∷ 1 ∷ 5 ∷ 1 ∷ 9 ∷ 0 ∷ [])
    (accepts 5 65532) (0 ∷ 0 ∷ 0 ∷ 0 ∷ 0 ∷ [])
    ∷
    -- 6 comes before 15, and 15 before 30
    example 4 three (4 ∷ 1 ∷ [])
    (needs 5) ([])
    ∷
    example 12 three (4 ∷ 1 ∷ [])
    (refuses 15 0) ([])
    ∷
    -- 30: a byte fewer than rows
    example 12 three ([])
    (refuses 30 0) (0 ∷ 0 ∷ 0 ∷ 0 ∷ [])
    ∷
    -- 14: the name in the first ruleref, inside a rule, that is a step of a circle
    example 12 (bytes "suppressif ruleref(A);endif;rule B,ruleref(A) endrule;rule A,1+ruleref(A) endrule;") ([])
    (refuses 14 211) (0 ∷ 0 ∷ 0 ∷ 0 ∷ 0 ∷ 0 ∷ 0 ∷ 0 ∷ 0 ∷ [])
    ∷ []

pub faults_shown : map shown_of faults ≡ map (λ e. e.expected) faults
unfolding faults shown_in
faults_shown = refl
