-- Stage 9 finds no fault in the text: its questions have no names, and its rules' names are as distinct as their numbers.
-- Assumes nothing.
use mathlib.Core.Path.{◌≡◌, refl, ap, sym, ◌∙◌}
use mathlib.Core.List.{List, [], ◌∷◌}
use mathlib.Core.Bool.{true, false, ◌&&◌, and-false, or-false, true≢false}
use Prim.Native.Nat.{ℕ, suc, ◌≤◌}
use native.Mathlib.Omega.{arith}
use lib.Dec.{ltb}
use lib.ListN.{drop}
use borrow.Author.Tests.{ltb-true}
use Rattle.lexemes.specs.Words as words
use Rattle.lexemes.proofs.Lists.{either, and_true}
use Rattle.lexemes.proofs.Equality.{same_word_true}
use Rattle.rows.specs.Codes as code
use Rattle.rows.specs.Columns as column
use Rattle.answers.specs.Rows.{Draft}
use Rattle.answers.specs.Stages.{cell, is, asks, any, place_of, fault_if, faults_after, same_sort, declares, repeated_names}
use Rattle.drafts.specs.Sound.{SoundRow}
use Rattle.sound.proofs.Lists.{All, none, more}
use Rattle.printing.specs.Spelling.{name_word}
use Rattle.printing.proofs.Digits.{decimal_injective}
use Rattle.again.specs.RuleNumbers.{rule_numbers, From, one_more}
use Rattle.again.proofs.Lists.{all_then, any_none}
use Rattle.again.proofs.Owns.{owns_yes, owns_not}
use Rattle.again.proofs.NumberedDrafts.{rule_not, other_asks}
use Rattle.again.proofs.TextRows.{Says}

-- other rules have other names
pub name_injective : (m n : ℕ) → name_word m ≡ name_word n → m ≡ n
name_injective m n e = decimal_injective m n (ap (drop 1) e)

from_first : {n m k : ℕ} {l : List ℕ} → From n (k ∷ l) m → (k ≡ suc n) × From (suc n) l m
from_first (one_more p) = (refl, p)

-- a rule among the first n, and its name
abbrev Earlier : List ℕ → ℕ → Draft → Type 0
Earlier t n e = is code.RULE e ≡ true → (cell column.OWN e ≤ n) × (words.word (drop (place_of (cell column.NAME e)) t) ≡ name_word (cell column.OWN e))

abbrev name_faults : List ℕ → List Draft → Draft → List ℕ
name_faults t before d =
    fault_if (ltb 0 (cell column.NAME d) && any (λ e. same_sort t d e && declares t (place_of (cell column.NAME d)) e) before) (cell column.NAME d)

module _ (t : List ℕ) {all : List Draft} {d : Draft} (v : Says t all d) where
  -- a rule repeats no earlier rule's name
  rule_clean : (n : ℕ) → is code.RULE d ≡ true → cell column.OWN d ≡ suc n → {before : List Draft} → All (Earlier t n) before → name_faults t before d ≡ []
  rule_clean n r o {before} b =
      let none : any (λ e. same_sort t d e && declares t (place_of (cell column.NAME d)) e) before ≡ false = any_none _ (all_then other b) in
      rw (none, and-false (ltb 0 (cell column.NAME d)))
    where
      other : (e : Draft) → Earlier t n e → (same_sort t d e && declares t (place_of (cell column.NAME d)) e) ≡ false
      other e h =
          either (same_sort t d e && declares t (place_of (cell column.NAME d)) e)
          (λ y.
          let both = and_true (same_sort t d e) _ y in
          let a_rule : is code.RULE e ≡ true = rw (other_asks code.RULE rule_not d r, r) at both.0 in
          let words = same_word_true t (place_of (cell column.NAME e)) (place_of (cell column.NAME d)) (and_true (ltb 0 (cell column.NAME e)) _ both.1).1 in
          let own : cell column.OWN e ≡ cell column.OWN d = name_injective _ _ (sym (h a_rule).1 ∙ words ∙ v.rule_name r) in
          absurd (omega (arith, (h a_rule).0)))
          (λ y. y)

  -- any other row declares none
  other_clean : SoundRow d → is code.RULE d ≡ false → (before : List Draft) → name_faults t before d ≡ []
  other_clean u r before =
      either (ltb 0 (cell column.NAME d))
      (λ y.
      let named = ltb-true 0 (cell column.NAME d) y in
      let q : asks d ≡ true = sym (or-false (asks d)) ∙ (rw r at (u.name named)) in
      absurd (omega (arith, named, v.nameless q)))
      (λ y. rw y)

names_from :
    (t : List ℕ) (all : List Draft) {ds : List Draft} → All (λ d. SoundRow d × Says t all d) ds → {n m : ℕ} → From n (rule_numbers ds) m
    → {before : List Draft} → All (Earlier t n) before → faults_after (name_faults t) before ds ≡ []
unfolding faults_after
names_from t all none c b = refl
names_from t all (more {x = d} {l = ds} p r) {n = n} c {before = before} b =
    either (is code.RULE d)
    (λ e.
    let next = from_first (rw (owns_yes (is code.RULE) d ds e) at c) in
    let here : All (Earlier t (suc n)) (d ∷ before) = more (λ h. (omega (arith, next.0), p.1.rule_name h)) (all_then (λ x f h. (omega (arith, (f h).0), (f h).1)) b) in
    rw (rule_clean t p.1 n e next.0 b) (names_from t all r next.1 here))
    (λ e.
    let here : All (Earlier t n) (d ∷ before) = more (λ h. absurd (true≢false (sym h ∙ e))) b in
    rw (other_clean t p.1 p.0 e before) (names_from t all r (rw (owns_not (is code.RULE) d ds e) at c) here))

pub none_named_twice : (t : List ℕ) {ds : List Draft} → All (λ d. SoundRow d × Says t ds d) ds → {m : ℕ} → From 0 (rule_numbers ds) m → repeated_names t ds ≡ []
unfolding repeated_names
none_named_twice t {ds} p c = names_from t ds p c none
