-- Demand 3 in the terms of document 01, and of document 02's W-202 to W-204: what a source must be for reading to accept it, and what it is where reading
-- refuses it. "Written without our reader": no parser is named here, nor in what this imports. Assumes nothing.
use Rattle.std.specs.Prelude.{ℕ, zero, suc, ◌/◌, ◌≤◌, ◌<◌, ◌≡◌, true, false, not, cond, ◌&&◌, ◌≢◌, ◌⊎◌, List, [], ◌∷◌, ltb, length, get_or, take, Some, None}
use Rattle.lex.specs.Tokens.{first_bad}
use Rattle.numbers.specs.Numbers.{mem, unwritten}
use Rattle.circles.specs.Circles.{Circular, NoCircle}
use Rattle.rule_steps.specs.Steps.{rule_round, rule_found, is_step, rule_steps}
use Rattle.rows.specs.Codes.{is_question}
use Rattle.rows.specs.Columns as column
use Rattle.rows.specs.Columns.{ROW}
use Rattle.ll1.specs.Trees.{Trees}
use Rattle.ll1.specs.Verdict.{ends_early, refused}
use Rattle.grammar.specs.Derivation.{Derives, NowhereTooDeep, SourceSays}
use Rattle.grammar.specs.Source.{source_tokens}
use Rattle.grammar.specs.Ranges.{out_of_range, second_words}
use Rattle.answers.specs.Rows.{Draft}
use Rattle.answers.specs.Stages.{place_of, repeated_forms, repeated_questions, repeated_names, rules_over_limit, unfound, bad_choices}
use Rattle.answers.specs.Stages.{settled, finished}
use Rattle.answers.specs.Answer.{LONGEST, Answer, refuses, needs, drafts}

-- the tree is a derivation of the source, and "its depths, ranges, 255-rule limit, uniqueness, reference and choice rules hold"
pub record Sound (s : List ℕ) (tree : Trees) : Type 0 where
  -- "A derivation is a tree of the grammar's rules .. whose leaves are, in order, all of a source's tokens; a bad token allows none"
  pub derives : Derives (source_tokens s) tree
  pub depths : NowhereTooDeep tree
  -- "a second size or display word in one numeric, even the same" (W-204) stands nowhere
  pub words : second_words tree ≡ []
  -- "Demand 3's ranges hold exactly when no fault of No. 5 stands anywhere in the derivation"; sizes are among them (W-204)
  pub ranges : out_of_range s tree ≡ []
  -- "likewise uniqueness by 7 to 9
  pub forms : repeated_forms (drafts s tree) ≡ []
  pub questions : repeated_questions (drafts s tree) ≡ []
  pub names : repeated_names s (drafts s tree) ≡ []
  -- the limit by 10
  pub limit : rules_over_limit (drafts s tree) ≡ []
  -- reference by 11; a rule belongs to its form (W-203)
  pub references : unfound s (drafts s tree) ≡ []
  -- choice by 12"
  pub choices : bad_choices (drafts s tree) ≡ []
  -- "Reading now refuses a rule that reaches itself through references; demand 3's acceptance narrows by just that" (W-202)
  pub circles : NoCircle (rule_steps (finished s (drafts s tree)))

-- ---- refusals

-- no stage of No. 1 to 4 refuses the source, and the tree is its derivation
pub record Grammatical (s : List ℕ) (tree : Trees) : Type 0 where
  pub short : length s ≤ LONGEST
  pub derives : Derives (source_tokens s) tree
  pub depths : NowhereTooDeep tree

-- no stage up to a number refuses the source s and a table of n numbers; the tree is the source's derivation
pub data Passes (s : List ℕ) (n : ℕ) (tree : Trees) : ℕ → Type 0 where
  to_4 : Grammatical s tree → Passes s n tree 4
  -- "16 .. between stages 4 and 5" (W-204)
  to_16 : Passes s n tree 4 → second_words tree ≡ [] → Passes s n tree 16
  to_5 : Passes s n tree 16 → out_of_range s tree ≡ [] → Passes s n tree 5
  to_6 : Passes s n tree 5 → length (drafts s tree) ≤ n / ROW → Passes s n tree 6
  to_7 : Passes s n tree 6 → repeated_forms (drafts s tree) ≡ [] → Passes s n tree 7
  to_8 : Passes s n tree 7 → repeated_questions (drafts s tree) ≡ [] → Passes s n tree 8
  to_9 : Passes s n tree 8 → repeated_names s (drafts s tree) ≡ [] → Passes s n tree 9
  to_10 : Passes s n tree 9 → rules_over_limit (drafts s tree) ≡ [] → Passes s n tree 10
  to_11 : Passes s n tree 10 → unfound s (drafts s tree) ≡ [] → Passes s n tree 11
  to_12 : Passes s n tree 11 → bad_choices (drafts s tree) ≡ [] → Passes s n tree 12
  to_14 : Passes s n tree 12 → NoCircle (rule_steps (finished s (drafts s tree))) → Passes s n tree 14

-- the stages of the quick check: "over stages 1 to 5 alone", and 16, "in the quick check too" (W-204)
abbrev pub Early : ℕ → Type 0
Early k = ((1 ≤ k) × (k ≤ 5)) ⊎ (k ≡ 16)

-- no stage refuses them
abbrev pub PassesAll : List ℕ → ℕ → Trees → Type 0
PassesAll s n tree = Passes s n tree 14

-- "a `ruleref`, inside a rule, that is a step of such a circle" (W-202): a path leads from the rule that it finds back to the rule that it stands in
abbrev pub StepOfCircle : List (List ℕ) → List ℕ → Type 0
StepOfCircle rows r = (is_step rows r ≡ true) × Circular (rule_steps rows) (rule_round rows r) (rule_found rows r)

-- "the name in the source's first" of them, by its mark m; `rows` are all finished rows, and the drafts the settled ones
pub data FirstOnCircle (rows : List (List ℕ)) (m : ℕ) : List Draft → Type 0 where
  this : {d : Draft} {ds : List Draft} → StepOfCircle rows d.row → d.own_at ≡ m → FirstOnCircle rows m (d ∷ ds)
  later : {d : Draft} {ds : List Draft} → (StepOfCircle rows d.row → ⊥) → FirstOnCircle rows m ds → FirstOnCircle rows m (d ∷ ds)

-- Document 01's table of refusals with W-202's 14 and W-204's 16, a line each: "No. | Given exactly when | Place".
-- "The first stage that fails answers; within it the earliest token": a stage lists its faults in source order, so that the earliest is
-- the first of its list. "A refusal's counts are 0 except as shown".
pub data Refuses (s : List ℕ) (n : ℕ) : Answer → Type 0 where
  -- 1 | source over 65,536 bytes | 0
  source_too_long : LONGEST < length s → Refuses s n (refuses 1 0)
  -- 2 | bad token | its first byte
  bad_token : {p : ℕ} → length s ≤ LONGEST → first_bad s ≡ Some p → Refuses s n (refuses 2 p)
  -- 3 | depths aside, no text of the grammar starts with the tokens up to this one, or the source ends early | token, or source length
  no_text_starts_so : {p : ℕ} → length s ≤ LONGEST → first_bad s ≡ None → SourceSays (source_tokens s) (refused 3 p) → Refuses s n (refuses 3 p)
  source_ends_early : length s ≤ LONGEST → first_bad s ≡ None → SourceSays (source_tokens s) ends_early → Refuses s n (refuses 3 (length s))
  -- 4 | a token that passes 3 opens a depth too many (same stage as 3) | that token
  opens_too_many : {p : ℕ} → length s ≤ LONGEST → first_bad s ≡ None → SourceSays (source_tokens s) (refused 4 p) → Refuses s n (refuses 4 p)
  -- 16 | "a second size or display word in one numeric, even the same, between stages 4 and 5" (W-204) | "at that word"
  second_word : {tree : Trees} {p : ℕ} {ps : List ℕ} → Passes s n tree 4 → second_words tree ≡ p ∷ ps → Refuses s n (refuses 16 p)
  -- 5 | number outside its place: ..; "also for a number over its size" (W-204) | number
  number_outside : {tree : Trees} {p : ℕ} {ps : List ℕ} → Passes s n tree 16 → out_of_range s tree ≡ p ∷ ps → Refuses s n (refuses 5 p)
  -- 6 | more rows than whole rows lent | 0; row count is the need
  more_rows : {tree : Trees} → Passes s n tree 5 → n / ROW < length (drafts s tree) → Refuses s n (needs (length (drafts s tree)))
  -- 7 | form number repeated | second
  form_repeated : {tree : Trees} {m : ℕ} {ms : List ℕ} → Passes s n tree 6 → repeated_forms (drafts s tree) ≡ m ∷ ms → Refuses s n (refuses 7 (place_of m))
  -- 8 | written question number repeated | second
  question_repeated : {tree : Trees} {m : ℕ} {ms : List ℕ} → Passes s n tree 7 → repeated_questions (drafts s tree) ≡ m ∷ ms → Refuses s n (refuses 8 (place_of m))
  -- 9 | question name repeated among questions, or rule name among rules | second
  name_repeated : {tree : Trees} {m : ℕ} {ms : List ℕ} → Passes s n tree 8 → repeated_names s (drafts s tree) ≡ m ∷ ms → Refuses s n (refuses 9 (place_of m))
  -- 10 | a 256th rule | its `rule`
  rule_over_limit : {tree : Trees} {m : ℕ} {ms : List ℕ} → Passes s n tree 9 → rules_over_limit (drafts s tree) ≡ m ∷ ms → Refuses s n (refuses 10 (place_of m))
  -- 11 | goto, `questionref` or `ruleref` finds nothing; "now also given where the rule stands in another form" (W-203) | its number or name
  nothing_found : {tree : Trees} {m : ℕ} {ms : List ℕ} → Passes s n tree 10 → unfound s (drafts s tree) ≡ m ∷ ms → Refuses s n (refuses 11 (place_of m))
  -- 12 | maximum below minimum; default outside them, "in the signed order" (W-204); an option's value repeated in its oneof; a second DEFAULT there
  --    | the number of the maximum, default or value, or that word `DEFAULT`
  bad_choice : {tree : Trees} {m : ℕ} {ms : List ℕ} → Passes s n tree 11 → bad_choices (drafts s tree) ≡ m ∷ ms → Refuses s n (refuses 12 (place_of m))
  -- 14 | a rule that reaches itself through references; "last in reading's order before 13"
  --    | "the name in the source's first `ruleref`, inside a rule, that is a step of such a circle"
  reaches_itself :
      {tree : Trees} {m : ℕ} → Passes s n tree 12
      → FirstOnCircle (finished s (drafts s tree)) m (settled s (drafts s tree)) → Refuses s n (refuses 14 (place_of m))

-- ---- the numbers of questions

-- the own numbers of the rows that are questions, in source order
unfoldable pub question_numbers : List (List ℕ) → List ℕ
question_numbers [] = []
question_numbers (r ∷ rs) = let later = question_numbers rs in cond (is_question (get_or r column.CODE 0)) (get_or r column.OWN 0 ∷ later) later

-- how many numbers from 1 up and below n no question writes, where `own` is what each question writes
unfoldable pub unwritten_below : List ℕ → ℕ → ℕ
unwritten_below own zero = 0
unwritten_below own (suc n) = let below = unwritten_below own n in cond (ltb 0 n && not (mem n own)) (suc below) below

-- "The i-th question without a written number gets the i-th smallest number, from 1 up, that no question writes, later lines included". Of the
-- questions in source order, `own` is the number that each writes, 0 where it writes none, and `has` the number that it has; j counts questions from 0
pub record GetsSmallest (own has : List ℕ) : Type 0 where
  pub each : length has ≡ length own
  -- a written number stays
  pub stays : (j : ℕ) → get_or own j 0 ≢ 0 → get_or has j 0 ≡ get_or own j 0
  -- a question without one has a number from 1 to 65,535
  pub from_1 : (j : ℕ) → j < length own → get_or own j 0 ≡ 0 → 1 ≤ get_or has j 0
  pub to_65535 : (j : ℕ) → j < length own → get_or own j 0 ≡ 0 → get_or has j 0 ≤ 65535
  -- that no question writes
  pub free : (j : ℕ) → j < length own → get_or own j 0 ≡ 0 → mem (get_or has j 0) own ≡ false
  -- and that has as many numbers below it that no question writes as there are questions without a written number before this one
  pub i_th : (j : ℕ) → j < length own → get_or own j 0 ≡ 0 → unwritten_below own (get_or has j 0) ≡ unwritten (take j own)
