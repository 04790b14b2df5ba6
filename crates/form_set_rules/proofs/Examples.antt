-- The rules of a source, computed.
-- Assumes nothing.
use Prim.Native.Nat.{ℕ}
use mathlib.Core.Path.{◌≡◌, refl}
use mathlib.Core.List.{List, [], ◌∷◌}
use Rattle.lexemes.specs.Lexemes.{bytes, signs, reserved}
use Rattle.lexemes.specs.Words.{run, all, same, place_among, same_word}
use Rattle.lex.specs.Tokens.{is_gap, in_comment, gap, word_class, word_token, sign_class, sign_token, token_from, token_after_gap}
use Rattle.lex.specs.Tokens.{tokens_within, tokens_from, tokens, bad_among, first_bad}
use Rattle.values.specs.Numbers.{is_hex, value_from, numeral, value_at, digits_at}
use Rattle.numbers.specs.Numbers.{picked, free_from, fill, numbered, mem}
use Rattle.rows.specs.Codes.{member, questions, is_question}
use Rattle.ll1.specs.Machine as machine
use Rattle.ll1.specs.Parser as parser
use Rattle.grammar.specs.Grammar.{productions, rules}
use Rattle.grammar.specs.Lookahead.{lookahead}
use Rattle.grammar.specs.Reading.{verdict_from, derivation}
use Rattle.grammar.specs.Source.{grammar_tokens, source_tokens, number_at}
use Rattle.grammar.specs.Ranges.{ranges, range_of, keeps, gathered, out_of_range_here, out_of_range, seconds_here, second_words}
use Rattle.answers.specs.Expression.{expression, and, add, multiply, equal}
use Rattle.answers.specs.Stages.{any, form_from, form_round, own_numbers, with_numbers, numbered_rows, own_of_first, with_references, settled, finished}
use Rattle.answers.specs.Answer.{drafts}
use Rattle.answers.specs.WholeAnswer.{refusal, derived, checked}
use Rattle.answers.specs.Text.{row_first_at}
use Rattle.formulas.specs.Formula.{f_number, f_question, f_rule, f_not, f_binary}
use Rattle.form_set_rules.specs.Rules.{rules_of, source_rules}

-- three rules, the last in a later form; the first with references to the second, which stands later in its form, and to a question of the other form. The
-- condition's expression is no rule's
abbrev source : List ℕ
source =
    bytes
    "formset guid={0x1,0x2,0x3,{0x4,0x5,0x6,0x7,0x8,0x9,0xA,0xB}},title=STRING_TOKEN(2),help=STRING_TOKEN(3),form formid=1,title=STRING_TOKEN(4);rule A,ruleref(B)AND NOT questionref(Q) endrule;suppressif ruleref(A);endif;rule B,1+2*3==7 endrule;endform;form formid=2,title=STRING_TOKEN(4);checkbox name=Q,prompt=STRING_TOKEN(5),help=STRING_TOKEN(6),endcheckbox;rule C,questionref(Q) endrule;endform;endformset;"

pub three_rules :
    elim (checked source) [ refusal n p ↦ [] | derived tree ↦ source_rules source tree ]
    ≡ f_binary and (f_rule 2) (f_not (f_question 1))
    ∷ f_binary equal (f_binary add (f_number 1) (f_binary multiply (f_number 2) (f_number 3))) (f_number 7)
    ∷ f_question 1
    ∷ []
unfolding signs reserved run all same place_among same_word is_gap in_comment gap word_class word_token sign_class sign_token token_from token_after_gap tokens_within tokens_from tokens bad_among first_bad is_hex value_from numeral value_at digits_at picked free_from fill numbered mem member questions is_question machine.run parser.derivation productions rules lookahead verdict_from derivation grammar_tokens source_tokens number_at ranges range_of keeps gathered out_of_range_here out_of_range seconds_here second_words expression any form_from form_round own_numbers with_numbers numbered_rows own_of_first with_references settled finished drafts checked row_first_at rules_of
three_rules = refl
