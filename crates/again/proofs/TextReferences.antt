-- Stage 11 finds no fault in the text, and its rows are finished as they stand: only a ruleref gets its number from a name.
-- Assumes nothing.
use mathlib.Core.Path.{◌≡◌, refl, sym, ◌∙◌}
use mathlib.Core.List.{List, [], ◌∷◌, map}
use mathlib.Core.Bool.{Bool, true, false, not, cond, ◌&&◌}
use Prim.Native.Nat.{ℕ}
use lib.Dec.{eqb, ltb}
use lib.ListN.{set, drop}
use lib.Seq.{set-get_or}
use borrow.Author.Tests.{lt-ltb, eq-eqb, eqb-true}
use Rattle.lexemes.specs.Words as words
use Rattle.lexemes.proofs.Lists.{either, and_true}
use Rattle.lexemes.proofs.Equality.{same_word_true, eq_same_word}
use Rattle.numbers.specs.Numbers.{numbered}
use Rattle.rows.specs.Codes as code
use Rattle.rows.specs.Columns as column
use Rattle.answers.specs.Rows.{Draft}
use Rattle.answers.specs.Stages.{cell, is, asks, writes, any, place_of, unfound}
use Rattle.answers.specs.Stages.{own_numbers, with_numbers, numbered_rows, declares, form_round, rule_named, finds, refers, own_of_first, finished}
use Rattle.answers.proofs.Settling.{finished_numbered}
use Rattle.drafts.proofs.RowTests.{other_code}
use Rattle.sound.proofs.Lists.{All}
use Rattle.again.specs.Matches.{Pairs, named, final}
use Rattle.again.specs.RuleNumbers.{rule_of}
use Rattle.again.proofs.Lists.{all_then, all_with, map_each, any_pairs, pairs_second, firsts}
use Rattle.again.proofs.Faults.{faults_none, clean_each}
use Rattle.again.proofs.Owns.{owns_questions, some_bears, first_same}
use Rattle.again.proofs.SettledRows.{Finds}
use Rattle.again.proofs.Likeness.{Like, is_same, a_of}
use Rattle.again.proofs.LikeStages.{form_like}
use Rattle.again.proofs.TextRows.{Says}
use Rattle.again.proofs.TextNames.{name_injective}

module _ (t : List ℕ) {ds : List Draft} (all : All (Says t ds) ds) {d : Draft} (v : Says t ds d) where
  -- ---- a questionref: the question that writes its number

  module _ (r : is code.QUESTION_REF d ≡ true) where
    is_not : is code.RULE_REF d ≡ false
    is_not = other_code d code.QUESTION_REF code.RULE_REF r refl

    positive : ltb 0 (cell column.A d) ≡ true
    positive = lt-ltb 0 (cell column.A d) (v.by_number r).0

    question_there : any (finds t ds d) ds ≡ true
    question_there = some_bears asks (finds t ds d) (cell column.A d) (all_then found all) (rw (owns_questions ds) (v.by_number r).1)
      where
        found : (e : Draft) → Says t ds e → asks e ≡ true → cell column.OWN e ≡ cell column.A d → finds t ds d e ≡ true
        found e w q o = rw (is_not, positive, q, w.written q) (eq-eqb (cell column.OWN e) (cell column.A d) o)

    question_number : own_of_first t (finds t ds d) ds ≡ cell column.A d
    question_number = first_same t (finds t ds d) (cell column.A d) (all_then own all) question_there
      where
        own : (e : Draft) → Says t ds e → finds t ds d e ≡ true → cell column.OWN e ≡ cell column.A d
        own e w h = eqb-true _ _ (and_true (writes e) (eqb (cell column.OWN e) (cell column.A d)) (rw (is_not, positive) at h)).1

  -- ---- a ruleref: the rule of its name

  module _ (r : is code.RULE_REF d ≡ true) where
    rule_there : any (finds t ds d) ds ≡ true
    rule_there = some_bears (rule_of (form_round ds d)) (finds t ds d) (named t d) (all_then found all) (v.by_name r)
      where
        found : (e : Draft) → Says t ds e → rule_of (form_round ds d) e ≡ true → cell column.OWN e ≡ named t d → finds t ds d e ≡ true
        found e w h o =
            let both = and_true (is code.RULE e) _ h in
            let words : words.word (drop (place_of (cell column.NAME e)) t) ≡ words.word (drop (place_of d.own_at) t) =
            w.rule_name both.0 ∙ rw o (sym (v.reference_name r)) in
            rw (r, both.0, w.declared both.0, eq_same_word t (place_of (cell column.NAME e)) (place_of d.own_at) words) both.1

    rule_is : own_of_first t (finds t ds d) ds ≡ named t d
    rule_is = first_same t (finds t ds d) (named t d) (all_then own all) rule_there
      where
        own : (e : Draft) → Says t ds e → finds t ds d e ≡ true → cell column.OWN e ≡ named t d
        own e w h =
            let both = and_true (is code.RULE e) (declares t (place_of d.own_at) e) (and_true (rule_named t (place_of d.own_at) e) _ (rw r at h)).0 in
            let words = same_word_true t (place_of (cell column.NAME e)) (place_of d.own_at) (and_true (ltb 0 (cell column.NAME e)) _ both.1).1 in
            name_injective _ _ (sym (w.rule_name both.0) ∙ words ∙ v.reference_name r)

  -- ---- both

  there : refers t d ≡ true → any (finds t ds d) ds ≡ true
  there h = either (is code.QUESTION_REF d) (λ e. question_there e) (λ e. rule_there (rw e at h))

  -- the finished row
  row_final : cond (refers t d) (set d.row column.A (own_of_first t (finds t ds d) ds)) d.row ≡ final t d
  row_final =
      either (is code.QUESTION_REF d)
      (λ e. rw (e, is_not e, question_number e) (set-get_or d.row column.A 0))
      (λ e. either (is code.RULE_REF d) (λ r. rw (e, r, rule_is r)) (λ r. rw (e, r)))

-- ---- all rows

-- questions that have the numbers that they write stay as they are
numbers_stay : (ds : List Draft) → with_numbers (own_numbers ds) ds ≡ ds
unfolding with_numbers own_numbers
numbers_stay [] = refl
numbers_stay (d ∷ ds) =
    either (asks d)
    (λ e. rw (e, set-get_or d.row column.OWN 0, numbers_stay ds))
    (λ e. rw (e, numbers_stay ds))

pub finished_as_is : (t : List ℕ) {ds : List Draft} → All (Says t ds) ds → numbered (own_numbers ds) ≡ own_numbers ds → finished t ds ≡ map (final t) ds
unfolding numbered_rows
finished_as_is t {ds} all e = finished_numbered t ds ∙ rw (e, numbers_stay ds) (map_each _ _ (all_then (λ d v. row_final t all v) all))

pub all_found : (t s : List ℕ) {ds' ds : List Draft} → Pairs Like ds' ds → All (Finds s ds) ds → All (Says t ds') ds' → unfound t ds' ≡ []
unfolding unfound
all_found t s {ds'} {ds} p f all =
    clean_each _ (λ before d. refl) []
    (all_with (λ d v g. faults_none d.limit_at d.own_at g (reference d v)) all (firsts (λ d' d h. h) (pairs_second (λ d' d l g. goto d' d l g) p f)))
  where
    both : (a b : Bool) → (a ≡ true → b ≡ true) → (a && not b) ≡ false
    both true b h = rw (h refl)
    both false b h = refl

    reference : (d : Draft) → Says t ds' d → (refers t d && not (any (finds t ds' d) ds')) ≡ false
    reference d v = both _ _ (there t all v)

    goto : (d' d : Draft) → Like d' d → Finds s ds d → (is code.GOTO d' && not (any (λ e. is code.FORM e && eqb (cell column.OWN e) (cell column.A d')) ds')) ≡ false
    goto d' d l g =
        both _ _
        (λ h.
        let e : is code.GOTO d ≡ true = sym (is_same l code.GOTO) ∙ h in
        any_pairs _ _ (form_like (cell column.A d') (cell column.A d) (a_of l code.GOTO refl refl e)) p ∙ g.form e)
