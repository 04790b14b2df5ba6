-- What reading and resolving give, for sources that are written out: every definition on the way is opened here, once.
-- Assumes nothing.
use mathlib.Core.List.{List, [], ◌∷◌}
use mathlib.Core.Bool.{cond}
use lib.Dec.{eqb}
use Prim.Native.Nat.{ℕ, ◌*◌}
use Rattle.lexemes.specs.Lexemes.{signs, reserved, lexemes}
use Rattle.lexemes.specs.Words.{run, all, same, place_among, same_word}
use Rattle.lex.specs.Tokens.{is_gap, in_comment, gap, word_class, word_token, sign_class, sign_token, token_from, token_after_gap, tokens_within, tokens_from, tokens, bad_among, first_bad}
use Rattle.values.specs.Numbers.{is_hex}
use Rattle.values.specs.Numbers.{value_from, numeral, value_at, digits_at}
use Rattle.numbers.specs.Numbers.{picked, free_from, fill, numbered, mem}
use Rattle.circles.specs.Circles.{leads, closure, circular}
use Rattle.rule_steps.specs.Steps.{rule_round, step_in, steps_among, greatest}
use Rattle.rows.specs.Codes.{member, questions, is_question}
use Rattle.rows.specs.Columns.{ROW}
use Rattle.ll1.specs.Machine as machine
use Rattle.ll1.specs.Parser as parser
use Rattle.grammar.specs.Grammar.{productions, rules}
use Rattle.grammar.specs.Lookahead.{lookahead}
use Rattle.grammar.specs.Reading.{verdict_from, derivation}
use Rattle.grammar.specs.Source.{grammar_tokens, source_tokens, number_at}
use Rattle.answers.specs.Expression.{expression}
use Rattle.answers.specs.Rows.{Draft}
use Rattle.sizes.specs.Sizes as sizes
use Rattle.grammar.specs.Ranges.{ranges, range_of, keeps, gathered, out_of_range_here, out_of_range, seconds_here, second_words}
use Rattle.answers.specs.Stages.{any, faults_after, repeated_forms, repeated_questions, repeated_names, rules_over_limit, form_from, form_round, unfound, below, bad_choices, own_numbers, with_numbers, numbered_rows, own_of_first, with_references, settled, finished, on_circle, circular_references}
use Rattle.answers.specs.Answer.{Answer, answer_of, drafts}
use Rattle.answers.specs.WholeAnswer.{refusal, derived, checked, read_answer, rows_of}
use Rattle.answers.specs.Text.{decimal_digits, hex_digits, text_of, row_first_at, resolved_text}
use Rattle.answers.specs.Resolution.{Resolution, text_of_source, resolution}

-- the answer, and the rows of an accepted source
pub record Outcome : Type 0 where
  pub answer : Answer
  pub rows : List (List ℕ)

-- reading the source into n numbers
unfoldable pub outcome_in : ℕ → List ℕ → Outcome
unfolding signs reserved run all same place_among is_gap in_comment gap is_hex word_class word_token sign_class sign_token token_from token_after_gap tokens_within tokens_from tokens bad_among first_bad same_word value_from numeral value_at digits_at picked free_from fill numbered mem member questions is_question machine.run parser.derivation productions rules lookahead verdict_from derivation grammar_tokens source_tokens number_at expression ranges range_of keeps gathered out_of_range_here out_of_range seconds_here second_words sizes.modulus sizes.fits any faults_after repeated_forms repeated_questions repeated_names rules_over_limit form_from form_round unfound sizes.width sizes.half sizes.low sizes.minus sizes.amount sizes.signed_below sizes.below below bad_choices own_numbers with_numbers numbered_rows own_of_first with_references settled finished leads closure circular rule_round step_in steps_among greatest on_circle circular_references checked answer_of drafts read_answer rows_of
outcome_in n s =
    let a = read_answer s n in
    record { answer = a; rows = cond (eqb a.number 0) (rows_of s) [] }

-- reading it into ten rows
abbrev pub outcome : List ℕ → Outcome
outcome s = outcome_in (10 * ROW) s

-- the rows alone
unfoldable pub rows_read : List ℕ → List (List ℕ)
unfolding signs reserved run all same place_among is_gap in_comment gap is_hex word_class word_token sign_class sign_token token_from token_after_gap tokens_within tokens_from tokens bad_among first_bad same_word value_from numeral value_at digits_at picked free_from fill numbered mem member questions is_question machine.run parser.derivation productions rules lookahead verdict_from derivation grammar_tokens source_tokens number_at expression ranges range_of keeps gathered out_of_range_here out_of_range seconds_here second_words sizes.modulus sizes.fits any faults_after repeated_forms repeated_questions repeated_names rules_over_limit form_from form_round unfound sizes.width sizes.half sizes.low sizes.minus sizes.amount sizes.signed_below sizes.below below bad_choices own_numbers with_numbers numbered_rows own_of_first with_references settled finished leads closure circular rule_round step_in steps_among greatest on_circle circular_references checked answer_of drafts read_answer rows_of
rows_read s = rows_of s

-- the rows before any stage; of a source that stage 1 to 5 or 16 refuses, none
unfoldable pub drafts_read : List ℕ → List Draft
unfolding signs reserved run all same place_among is_gap in_comment gap is_hex word_class word_token sign_class sign_token token_from token_after_gap tokens_within tokens_from tokens bad_among first_bad same_word value_from numeral value_at digits_at picked free_from fill numbered mem member questions is_question machine.run parser.derivation productions rules lookahead verdict_from derivation grammar_tokens source_tokens number_at expression ranges range_of keeps gathered out_of_range_here out_of_range seconds_here second_words sizes.modulus sizes.fits drafts checked
drafts_read s = elim (checked s) [ refusal k p ↦ [] | derived f ↦ drafts s f ]

-- what refusal 11 names; of a source that an earlier stage refuses, the place 0
unfoldable pub unfound_read : List ℕ → List ℕ
unfolding signs reserved run all same place_among is_gap in_comment gap is_hex word_class word_token sign_class sign_token token_from token_after_gap tokens_within tokens_from tokens bad_among first_bad same_word value_from numeral value_at digits_at picked free_from fill numbered mem member questions is_question machine.run parser.derivation productions rules lookahead verdict_from derivation grammar_tokens source_tokens number_at expression ranges range_of keeps gathered out_of_range_here out_of_range seconds_here second_words sizes.modulus sizes.fits any faults_after repeated_forms repeated_questions repeated_names rules_over_limit form_from form_round unfound sizes.width sizes.half sizes.low sizes.minus sizes.amount sizes.signed_below sizes.below below bad_choices own_numbers with_numbers numbered_rows own_of_first with_references settled finished leads closure circular rule_round step_in steps_among greatest on_circle circular_references checked answer_of drafts read_answer rows_of
unfound_read s = elim (checked s) [ refusal k p ↦ 0 ∷ [] | derived f ↦ unfound s (drafts s f) ]

-- what resolving it through n numbers into m bytes answers, and its text
pub record Resolved : Type 0 where
  pub answer : Resolution
  pub text : List ℕ

unfoldable pub resolved_in : ℕ → ℕ → List ℕ → Resolved
unfolding signs reserved lexemes run all same place_among is_gap in_comment gap is_hex word_class word_token sign_class sign_token token_from token_after_gap tokens_within tokens_from tokens bad_among first_bad same_word value_from numeral value_at digits_at picked free_from fill numbered mem member questions is_question machine.run parser.derivation productions rules lookahead verdict_from derivation grammar_tokens source_tokens number_at expression ranges range_of keeps gathered out_of_range_here out_of_range seconds_here second_words sizes.modulus sizes.fits any faults_after repeated_forms repeated_questions repeated_names rules_over_limit form_from form_round unfound sizes.width sizes.half sizes.low sizes.minus sizes.amount sizes.signed_below sizes.below below bad_choices own_numbers with_numbers numbered_rows own_of_first with_references settled finished leads closure circular rule_round step_in steps_among greatest on_circle circular_references checked answer_of drafts read_answer rows_of decimal_digits hex_digits text_of row_first_at resolved_text text_of_source resolution
resolved_in n m s = record { answer = resolution s n m; text = text_of_source s }

-- the text alone
unfoldable pub text_read : List ℕ → List ℕ
unfolding signs reserved lexemes run all same place_among is_gap in_comment gap is_hex word_class word_token sign_class sign_token token_from token_after_gap tokens_within tokens_from tokens bad_among first_bad same_word value_from numeral value_at digits_at picked free_from fill numbered mem member questions is_question machine.run parser.derivation productions rules lookahead verdict_from derivation grammar_tokens source_tokens number_at expression ranges range_of keeps gathered out_of_range_here out_of_range seconds_here second_words sizes.modulus sizes.fits any faults_after repeated_forms repeated_questions repeated_names rules_over_limit form_from form_round unfound sizes.width sizes.half sizes.low sizes.minus sizes.amount sizes.signed_below sizes.below below bad_choices own_numbers with_numbers numbered_rows own_of_first with_references settled finished leads closure circular rule_round step_in steps_among greatest on_circle circular_references checked answer_of drafts read_answer rows_of decimal_digits hex_digits text_of row_first_at resolved_text text_of_source
text_read s = text_of_source s
