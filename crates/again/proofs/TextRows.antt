-- What a row of the text tells: each question writes its number, rules are named R1, R2, .., and references name a number or a rule that is there.
-- Assumes nothing.
use mathlib.Core.Path.{◌≡◌, refl}
use mathlib.Core.List.{List, map}
use mathlib.Core.Bool.{true}
use Prim.Native.Nat.{ℕ, ◌<◌}
use native.Mathlib.Omega.{arith}
use lib.Dec.{ltb}
use lib.ListN.{get_or, drop}
use Rattle.lexemes.specs.Words as words
use Rattle.lexemes.proofs.Lists.{and_true}
use Rattle.numbers.specs.Numbers.{mem, numbered}
use Rattle.numbers.proofs.FreeNumbers.{number_range}
use Rattle.numbers.proofs.Numbering.{Own}
use Rattle.rows.specs.Codes as code
use Rattle.rows.specs.Columns as column
use Rattle.answers.specs.Rows.{Draft}
use Rattle.answers.specs.Stages.{cell, is, asks, place_of, form_round, own_numbers}
use Rattle.answers.proofs.Forms.{round_same}
use Rattle.answers.specs.Demand3.{question_numbers}
use Rattle.drafts.proofs.RowTests.{other_code}
use Rattle.sound.proofs.Lists.{All}
use Rattle.printing.specs.Spelling.{name_word}
use Rattle.again.specs.Matches.{Pairs, no_pairs, pair, Settled, named, Match}
use Rattle.again.specs.RuleNumbers.{owns_of, rule_numbers, rule_of}
use Rattle.again.proofs.Lists.{all_with, pairs_second, firsts, alike_pairs}
use Rattle.again.proofs.Owns.{owns_like}
use Rattle.again.proofs.NumberedDrafts.{rule_not, other_asks}
use Rattle.again.proofs.SettledRows.{Resolved}
use Rattle.again.proofs.Likeness.{same_cell, same_number, rule_number_lem, Like, like, is_same}

-- ---- numbers

-- the questions' numbers of the text are those of the finished rows
pub finished_numbers : (t : List ℕ) (look : ℕ → List ℕ) {ds' ds : List Draft} → Pairs (Match t look) ds' ds → own_numbers ds' ≡ question_numbers (map (λ d. look (cell column.PLACE d)) ds)
unfolding own_numbers question_numbers
finished_numbers t look no_pairs = refl
finished_numbers t look (pair {a = d'} {b = d} m r) =
    rw (← same_cell t look m column.CODE refl (λ e. omega arith), ← same_cell t look m column.OWN refl (λ e. omega arith), finished_numbers t look r)

-- and so are the rules'
pub rules_same : {ds' ds : List Draft} → Pairs Like ds' ds → rule_numbers ds' ≡ rule_numbers ds
rules_same p = owns_like {P = Like} (is code.RULE) (is code.RULE) (λ d' d l. is_same l code.RULE) (λ d' d l e. l.own_same (other_asks code.RULE rule_not d e)) p

-- and those of each form
forms_same : {ds' ds : List Draft} → Pairs Like ds' ds → (form : ℕ) → owns_of (rule_of form) ds' ≡ owns_of (rule_of form) ds
forms_same p form =
    owns_like {P = Like} (rule_of form) (rule_of form)
    (λ d' d l. rw (l.code_same, l.parent_same))
    (λ d' d l e. l.own_same (other_asks code.RULE rule_not d (and_true (is code.RULE d) _ e).0))
    p

-- a row stands in the same form
round_like : {ds' ds : List Draft} → Pairs Like ds' ds → (d' d : Draft) → Like d' d → form_round ds' d' ≡ form_round ds d
round_like {ds'} {ds} p d' d l =
    round_same ds' ds
    (alike_pairs (cell column.CODE) (cell column.CODE) (λ x y m. m.code_same) p)
    (alike_pairs (cell column.PARENT) (cell column.PARENT) (λ x y m. m.parent_same) p)
    d' d l.parent_same

-- ---- one row

pub record Says (t : List ℕ) (ds : List Draft) (d : Draft) : Type 0 where
  pub written : asks d ≡ true → ltb 0 d.own_at ≡ true
  pub nameless : asks d ≡ true → cell column.NAME d ≡ 0
  pub declared : is code.RULE d ≡ true → ltb 0 (cell column.NAME d) ≡ true
  pub rule_name : is code.RULE d ≡ true → words.word (drop (place_of (cell column.NAME d)) t) ≡ name_word (cell column.OWN d)
  pub by_number : is code.QUESTION_REF d ≡ true → (0 < cell column.A d) × (mem (cell column.A d) (own_numbers ds) ≡ true)
  pub reference_name : is code.RULE_REF d ≡ true → words.word (drop (place_of d.own_at) t) ≡ name_word (named t d)
  pub by_name : is code.RULE_REF d ≡ true → mem (named t d) (owns_of (rule_of (form_round ds d)) ds) ≡ true

module _ (t : List ℕ) (look : ℕ → List ℕ) {ds' ds : List Draft} (numbers : own_numbers ds' ≡ numbered (own_numbers ds)) (alike : Pairs Like ds' ds)
    (own : Own (numbered (own_numbers ds))) where
  says : {d' d : Draft} → Match t look d' d → Settled look d → Resolved look ds d → Says t ds' d'
  says {d'} {d} m u v =
      record {
        written = λ q. (m.question q).0;
        nameless = λ q. (m.question q).1;
        declared = λ r. (m.rule r).0;
        rule_name = λ r. (m.rule r).1;
        by_number = λ r. number r;
        reference_name = m.reference;
        by_name = λ r. rw (round_like alike d' d (like t look m u), forms_same alike, rule_number_lem t look m r) (v.rule (rw (← m.code_same) r));
      }
    where
      number : is code.QUESTION_REF d' ≡ true → (0 < cell column.A d') × (mem (cell column.A d') (own_numbers ds') ≡ true)
      number r =
          let a : ℕ = get_or (look (cell column.PLACE d)) column.A 0 in
          let there : mem a (numbered (own_numbers ds)) ≡ true = v.question (rw (← m.code_same) r) in
          rw (same_number t look m (other_code d' code.QUESTION_REF code.RULE_REF r refl), numbers) ((number_range a (own.within a there)).0, there)

  pub all_say : Pairs (Match t look) ds' ds → All (Settled look) ds → All (Resolved look ds) ds → All (Says t ds') ds'
  all_say p u r =
      firsts (λ d' d h. h)
      (pairs_second {R = λ d. Settled look d × Resolved look ds d} (λ d' d m v. says m v.0 v.1) p (all_with (λ d x y. (x, y)) u r))
