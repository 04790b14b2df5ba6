-- What reading answers: each refusal of `Refuses`, or acceptance of a source that passes every stage, and nothing else.
-- Assumes nothing.
use mathlib.Core.Path.{◌≡◌, ap, ◌∙◌}
use mathlib.Core.List.{List}
use mathlib.Core.Logic.{◌≢◌}
use Prim.Native.Nat.{ℕ, ◌/◌, ◌≤◌}
use native.Mathlib.Omega.{arith}
use lib.Dec.{ltb}
use lib.ListN.{length}
use borrow.Author.Tests.{lt-ltb, le-ltb, ltb-true, ltb-false}
use Rattle.lexemes.proofs.Lists.{either}
use Rattle.numbers.specs.Numbers.{numbered, free_count}
use Rattle.rows.specs.Columns.{ROW}
use Rattle.rows.specs.Rows.{laid}
use Rattle.ll1.specs.Trees.{Trees}
use Rattle.ll1.specs.Verdict.{ends_early, refused}
use Rattle.answers.specs.Rows.{Draft}
use Rattle.answers.specs.Stages.{repeated_forms, repeated_questions, repeated_names, rules_over_limit, unfound, bad_choices, own_numbers}
use Rattle.answers.specs.Stages.{settled, finished, circular_references}
use Rattle.answers.specs.Answer.{LONGEST, Answer, refuses, accepts, stage, answer_past12, answer_of, drafts}
use Rattle.answers.specs.WholeAnswer.{Checked, refusal, derived, checked, read_answer, rows_of, read_table}
use Rattle.answers.specs.Text.{resolved_text}
use Rattle.answers.specs.Resolution.{text_of_source}
use Rattle.answers.specs.Demand3.{Sound, Grammatical, Passes, PassesAll, to_4, to_16, to_5, to_6, to_7, to_8, to_9, to_10, to_11, to_12, to_14}
use Rattle.answers.specs.Demand3.{Refuses, source_too_long, bad_token, no_text_starts_so, source_ends_early, opens_too_many, second_word, number_outside}
use Rattle.answers.specs.Demand3.{more_rows, form_repeated, question_repeated, name_repeated, rule_over_limit, nothing_found, bad_choice, reaches_itself}
use Rattle.answers.proofs.Checks.{listed, checked_1, checked_2, checked_parsed, checked_16, checked_5, checked_derived, Decided, stopped, passed, decided}
use Rattle.answers.proofs.Circles.{settled_free, circle_first, circle_listed}

-- ---- what a source is that passes every stage, or the stages up to a number

pub passes_grammatical : {s : List ℕ} {n : ℕ} {tree : Trees} {k : ℕ} → Passes s n tree k → Grammatical s tree
passes_grammatical (to_4 g) = g
passes_grammatical (to_16 p e) = passes_grammatical p
passes_grammatical (to_5 p e) = passes_grammatical p
passes_grammatical (to_6 p e) = passes_grammatical p
passes_grammatical (to_7 p e) = passes_grammatical p
passes_grammatical (to_8 p e) = passes_grammatical p
passes_grammatical (to_9 p e) = passes_grammatical p
passes_grammatical (to_10 p e) = passes_grammatical p
passes_grammatical (to_11 p e) = passes_grammatical p
passes_grammatical (to_12 p e) = passes_grammatical p
passes_grammatical (to_14 p e) = passes_grammatical p

-- its rows find room
pub passes_room : {s : List ℕ} {n : ℕ} {tree : Trees} → PassesAll s n tree → length (drafts s tree) ≤ n / ROW
passes_room (to_14 (to_12 (to_11 (to_10 (to_9 (to_8 (to_7 (to_6 p h) e₇) e₈) e₉) e₁₀) e₁₁) e₁₂) e₁₄) = h

-- it is sound, and a sound one passes where there is room
pub sound_passes : {s : List ℕ} {n : ℕ} {tree : Trees} → Sound s tree → length s ≤ LONGEST → length (drafts s tree) ≤ n / ROW → PassesAll s n tree
sound_passes d short room =
    let with_rows_lem = to_6 (to_5 (to_16 (to_4 (record { short = short; derives = d.derives; depths = d.depths })) d.words) d.ranges) room in
    let with_choices = to_12 (to_11 (to_10 (to_9 (to_8 (to_7 with_rows_lem d.forms) d.questions) d.names) d.limit) d.references) d.choices in
    to_14 with_choices d.circles

pub passes_sound : {s : List ℕ} {n : ℕ} {tree : Trees} → PassesAll s n tree → Sound s tree
passes_sound (to_14 (to_12 (to_11 (to_10 (to_9 (to_8 (to_7 (to_6 (to_5 (to_16 (to_4 g) e₁₆) e₅) h) e₇) e₈) e₉) e₁₀) e₁₁) e₁₂) e₁₄) =
    record {
      derives = g.derives;
      depths = g.depths;
      words = e₁₆;
      ranges = e₅;
      forms = e₇;
      questions = e₈;
      names = e₉;
      limit = e₁₀;
      references = e₁₁;
      choices = e₁₂;
      circles = e₁₄;
    }

-- the stages that a source alone decides find its derivation
pub passes_derived : {s : List ℕ} {n : ℕ} {tree : Trees} → PassesAll s n tree → checked s ≡ derived tree
passes_derived {s} {n} {tree} p = checked_derived s tree (passes_grammatical p) (passes_sound p).words (passes_sound p).ranges

-- its rows and its text are those of the derivation
pub passes_rows : {s : List ℕ} {n : ℕ} {tree : Trees} → PassesAll s n tree → rows_of s ≡ finished s (drafts s tree)
unfolding rows_of
passes_rows p = rw (passes_derived p, rows_of)

pub passes_text : {s : List ℕ} {n : ℕ} {tree : Trees} → PassesAll s n tree → text_of_source s ≡ resolved_text tree (finished s (drafts s tree))
unfolding text_of_source
passes_text {tree = tree} p = rw (passes_derived p, text_of_source) (ap (resolved_text tree) (passes_rows p))

-- ---- what the stages from a number on answer

module _ (s : List ℕ) (ds : List Draft) where
  abbrev pub acceptance : Answer
  acceptance = accepts (length ds) (free_count (numbered (own_numbers ds)))

  abbrev from_12 : Answer
  from_12 = stage 12 (bad_choices ds) (answer_past12 s ds)

  abbrev from_11 : Answer
  from_11 = stage 11 (unfound s ds) from_12

  abbrev from_10 : Answer
  from_10 = stage 10 (rules_over_limit ds) from_11

  abbrev from_9 : Answer
  from_9 = stage 9 (repeated_names s ds) from_10

  abbrev from_8 : Answer
  from_8 = stage 8 (repeated_questions ds) from_9

  abbrev from_7 : Answer
  from_7 = stage 7 (repeated_forms ds) from_8

module _ (s : List ℕ) (n : ℕ) (tree : Trees) where
  abbrev ds : List Draft
  ds = drafts s tree

  pub past_5 : Passes s n tree 5 → read_answer s n ≡ answer_of s ds (n / ROW)
  unfolding read_answer
  past_5 (to_5 (to_16 (to_4 g) w) e) = rw (checked_derived s tree g w e, read_answer)

  past_6 : Passes s n tree 6 → read_answer s n ≡ from_7 s ds
  unfolding answer_of
  past_6 (to_6 p h) = past_5 p ∙ rw (le-ltb (n / ROW) (length ds) h, answer_of)

  past_7 : Passes s n tree 7 → read_answer s n ≡ from_8 s ds
  past_7 (to_7 p e) = past_6 p ∙ rw e

  past_8 : Passes s n tree 8 → read_answer s n ≡ from_9 s ds
  past_8 (to_8 p e) = past_7 p ∙ rw e

  past_9 : Passes s n tree 9 → read_answer s n ≡ from_10 s ds
  past_9 (to_9 p e) = past_8 p ∙ rw e

  past_10 : Passes s n tree 10 → read_answer s n ≡ from_11 s ds
  past_10 (to_10 p e) = past_9 p ∙ rw e

  past_11 : Passes s n tree 11 → read_answer s n ≡ from_12 s ds
  past_11 (to_11 p e) = past_10 p ∙ rw e

  past_12 : Passes s n tree 12 → read_answer s n ≡ answer_past12 s ds
  past_12 (to_12 p e) = past_11 p ∙ rw e

  -- a source that passes every stage is accepted
  pub accepted_answer : PassesAll s n tree → read_answer s n ≡ acceptance s ds
  accepted_answer (to_14 p free) = past_12 p ∙ rw ((settled_free s ds).1 free)

  -- and its rows are laid into the table
  pub laid_rows : PassesAll s n tree → read_table s n ≡ laid (finished s ds) n
  unfolding read_table
  laid_rows p = rw (accepted_answer p, passes_rows p)

-- ---- refusals

module _ (s : List ℕ) (n : ℕ) where
  refusal_answer : (k p : ℕ) → checked s ≡ refusal k p → read_answer s n ≡ refuses k p
  unfolding read_answer
  refusal_answer k p e = rw (e, read_answer)

  -- each is given where its line of the table holds
  pub refused_answer : {a : Answer} → Refuses s n a → read_answer s n ≡ a
  unfolding answer_of
  refused_answer (source_too_long h) = refusal_answer 1 0 (checked_1 s h)
  refused_answer (bad_token {p = p} h e) = refusal_answer 2 p (checked_2 s p h e)
  refused_answer (no_text_starts_so {p = p} h e w) = refusal_answer 3 p (checked_parsed s (refused 3 p) h e w)
  refused_answer (source_ends_early h e w) = refusal_answer 3 (length s) (checked_parsed s ends_early h e w)
  refused_answer (opens_too_many {p = p} h e w) = refusal_answer 4 p (checked_parsed s (refused 4 p) h e w)
  refused_answer (second_word {tree = tree} {p = p} {ps = ps} (to_4 g) e) = refusal_answer 16 p (checked_16 s tree p ps g e)
  refused_answer (number_outside {tree = tree} {p = p} {ps = ps} (to_16 (to_4 g) w) e) = refusal_answer 5 p (checked_5 s tree p ps g w e)
  refused_answer (more_rows {tree = tree} p h) = past_5 s n tree p ∙ rw (lt-ltb (n / ROW) (length (drafts s tree)) h, answer_of)
  refused_answer (form_repeated {tree = tree} p e) = past_6 s n tree p ∙ rw e
  refused_answer (question_repeated {tree = tree} p e) = past_7 s n tree p ∙ rw e
  refused_answer (name_repeated {tree = tree} p e) = past_8 s n tree p ∙ rw e
  refused_answer (rule_over_limit {tree = tree} p e) = past_9 s n tree p ∙ rw e
  refused_answer (nothing_found {tree = tree} p e) = past_10 s n tree p ∙ rw e
  refused_answer (bad_choice {tree = tree} p e) = past_11 s n tree p ∙ rw e
  refused_answer (reaches_itself {tree = tree} {m = m} p f) = past_12 s n tree p ∙ rw (circle_listed s (drafts s tree) m f).1

-- a refusal has a number
pub refused_number : {s : List ℕ} {n : ℕ} {a : Answer} → Refuses s n a → a.number ≢ 0
refused_number (source_too_long h) z = omega arith
refused_number (bad_token h e) z = omega arith
refused_number (no_text_starts_so h e w) z = omega arith
refused_number (source_ends_early h e w) z = omega arith
refused_number (opens_too_many h e w) z = omega arith
refused_number (second_word p e) z = omega arith
refused_number (number_outside p e) z = omega arith
refused_number (more_rows p h) z = omega arith
refused_number (form_repeated p e) z = omega arith
refused_number (question_repeated p e) z = omega arith
refused_number (name_repeated p e) z = omega arith
refused_number (rule_over_limit p e) z = omega arith
refused_number (nothing_found p e) z = omega arith
refused_number (bad_choice p e) z = omega arith
refused_number (reaches_itself p e) z = omega arith

-- ---- there is no other answer

-- an answer that is right: acceptance of a source that passes every stage, or a refusal
pub data Right (s : List ℕ) (n : ℕ) : Answer → Type 0 where
  accepting : {tree : Trees} → PassesAll s n tree → Right s n (acceptance s (drafts s tree))
  refusing : {a : Answer} → Refuses s n a → Right s n a

module _ (s : List ℕ) (n : ℕ) where
  by_refusal : {a : Answer} → Refuses s n a → Right s n (read_answer s n)
  by_refusal r = rw (refused_answer s n r) (refusing r)

  with_rows_lem : (tree : Trees) → Passes s n tree 6 → Right s n (read_answer s n)
  with_rows_lem tree p =
      let ds = drafts s tree in
      listed (repeated_forms ds) (λ e₇. let p₇ = to_7 p e₇ in
      listed (repeated_questions ds) (λ e₈. let p₈ = to_8 p₇ e₈ in
      listed (repeated_names s ds) (λ e₉. let p₉ = to_9 p₈ e₉ in
      listed (rules_over_limit ds) (λ e₁₀. let p₁₀ = to_10 p₉ e₁₀ in
      listed (unfound s ds) (λ e₁₁. let p₁₁ = to_11 p₁₀ e₁₁ in
      listed (bad_choices ds) (λ e₁₂. let p₁₂ = to_12 p₁₁ e₁₂ in
      listed (circular_references (settled s ds)) (λ e₁₄. let p₁₄ = to_14 p₁₂ ((settled_free s ds).0 e₁₄) in rw (accepted_answer s n tree p₁₄) (accepting p₁₄))
      (λ m ms e. by_refusal (reaches_itself p₁₂ (circle_first s ds m e))))
      (λ m ms e. by_refusal (bad_choice p₁₁ e)))
      (λ m ms e. by_refusal (nothing_found p₁₀ e)))
      (λ m ms e. by_refusal (rule_over_limit p₉ e)))
      (λ m ms e. by_refusal (name_repeated p₈ e)))
      (λ m ms e. by_refusal (question_repeated p₇ e)))
      (λ m ms e. by_refusal (form_repeated p e))

  with_derivation : (tree : Trees) → Passes s n tree 5 → Right s n (read_answer s n)
  with_derivation tree p =
      either (ltb (n / ROW) (length (drafts s tree)))
      (λ h. by_refusal (more_rows p (ltb-true (n / ROW) (length (drafts s tree)) h)))
      (λ h. with_rows_lem tree (to_6 p (ltb-false (n / ROW) (length (drafts s tree)) h)))

  -- reading is right
  pub answer_right : Right s n (read_answer s n)
  answer_right = by (decided s)
    where
      by : {c : Checked} → Decided s c → Right s n (read_answer s n)
      by (stopped k p h b r) = by_refusal (r n)
      by (passed {tree = tree} g w e) = with_derivation tree (to_5 (to_16 (to_4 g) w) e)
