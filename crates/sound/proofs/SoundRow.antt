-- Rows of each kind are sound: those that say nothing of their own, questions, and references.
-- Assumes nothing.
use mathlib.Core.Path.{◌≡◌, refl}
use mathlib.Core.List.{[], ◌∷◌}
use mathlib.Core.Bool.{Bool, true, false, not, ◌&&◌, ◌||◌, or-false}
use Prim.Native.Nat.{ℕ, suc, ◌≤◌, ◌<◌}
use native.Mathlib.Omega.{arith}
use lib.Dec.{eqb, ltb}
use lib.ListN.{length}
use borrow.Author.Tests.{eqb-true, not-true}
use Rattle.lexemes.proofs.Lists.{either}
use Rattle.numbers.specs.Numbers.{number_limit, is_number}
use Rattle.rows.specs.Codes as code
use Rattle.rows.specs.Codes.{member, questions, is_question}
use Rattle.rows.specs.Columns as column
use Rattle.rows.specs.Cells.{◌≔◌}
use Rattle.rows.specs.Draft.{HALF}
use Rattle.ll1.specs.Trees.{Trees}
use Rattle.ll1.proofs.Basics.{clash, both}
use Rattle.answers.specs.Answer.{LONGEST}
use Rattle.answers.specs.Rows.{Draft, row_with, without_marks, operand, question, string, written_number, written_mark, name_mark}
use Rattle.answers.specs.Stages.{cell, is, asks}
use Rattle.drafts.specs.Sound.{SoundRow, MARKS}
use Rattle.sound.proofs.Lists.{apart}

-- ---- a row by what it has to say

-- the sizes of its numbers
pub record Sized (d : Draft) : Type 0 where
  pub whole : length d.row ≡ column.ROW
  pub first : cell column.FIRST d < HALF
  pub second : cell column.SECOND d < HALF
  pub flags : cell column.FLAGS d < HALF
  pub own_mark : d.own_at < HALF
  pub limit_mark : d.limit_at < HALF
  pub default_mark : d.default_at < HALF
  pub place : cell column.PLACE d < HALF
  pub name_mark : cell column.NAME d < MARKS

pub sound_row :
    {d : Draft}
    → Sized d
    → (is code.FORM d ≡ true → (is_number (cell column.OWN d) ≡ true) × (0 < d.own_at))
    → (asks d ≡ true → (cell column.OWN d < number_limit) × (ltb 0 (cell column.OWN d) ≡ ltb 0 d.own_at))
    → ((is code.GOTO d || is code.NUMERIC d || is code.OPTION d) ≡ true → 0 < d.limit_at)
    → ((is code.QUESTION_REF d || is code.RULE_REF d) ≡ true → 0 < d.own_at)
    → (is code.RULE_REF d ≡ true → cell column.A d ≡ 0)
    → (0 < cell column.NAME d → (asks d || is code.RULE d) ≡ true)
    → SoundRow d
sound_row sized form question limited reference rule_name name =
    record {
      whole = sized.whole;
      first = sized.first;
      second = sized.second;
      flags = sized.flags;
      own_mark = sized.own_mark;
      limit_mark = sized.limit_mark;
      default_mark = sized.default_mark;
      place = sized.place;
      name_mark = sized.name_mark;
      form = λ e. (form e).0;
      form_mark = λ e. (form e).1;
      question = λ e. (question e).0;
      question_mark = λ e. (question e).1;
      limit_written = limited;
      reference = reference;
      rule_name = rule_name;
      name = name;
    }

-- a row that is sound and no option
pub record Other (d : Draft) : Type 0 where
  pub sound : SoundRow d
  pub no_option : is code.OPTION d ≡ false

-- ---- rows that say nothing of their own

-- no question, form, option, rule or reference
abbrev pub is_bare : ℕ → Bool
is_bare k = not (is_question k) && not (member k (code.FORM ∷ code.OPTION ∷ code.RULE ∷ code.QUESTION_REF ∷ code.RULE_REF ∷ []))

pub bare :
    (k parent own first second a b c d place : ℕ)
    → is_bare k ≡ true → first < number_limit → second < number_limit → place ≤ LONGEST
    → Other (without_marks (row_with k parent place (column.OWN ≔ own ∷ column.FIRST ≔ first ∷ column.SECOND ≔ second ∷ column.A ≔ a ∷ column.B ≔ b ∷ column.C ≔ c ∷ column.D ≔ d ∷ [])))
unfolding is_question questions member
bare k parent own first second a b c d place h f l p =
    let not_form = apart is_bare k code.FORM h refl in
    let not_goto = apart is_bare k code.GOTO h refl in
    let not_numeric = apart is_bare k code.NUMERIC h refl in
    let not_option = apart is_bare k code.OPTION h refl in
    let not_question_ref = apart is_bare k code.QUESTION_REF h refl in
    let not_rule_ref = apart is_bare k code.RULE_REF h refl in
    let not_asked : is_question k ≡ false = not-true (is_question k) (both (not (is_question k)) _ h).0 in
    record {
      sound =
          sound_row (omega arith) (λ e. clash cc) (λ e. clash cc) (λ e. clash (cc (rw (not_goto, not_numeric, not_option) at e)))
          (λ e. clash (cc (rw (not_question_ref, not_rule_ref) at e))) (λ e. clash cc) (λ e. absurd (omega arith));
      no_option = not_option;
    }

-- ---- questions

-- a HEAD: its strings, its written number with its mark, and its name's
pub record Asked (value : ℕ → ℕ) (h : Trees) : Type 0 where
  pub first : string value 4 h < number_limit
  pub second : string value 8 h < number_limit
  pub own : written_number value h < number_limit
  pub own_mark : written_mark value h ≤ suc LONGEST
  pub written : ltb 0 (written_number value h) ≡ ltb 0 (written_mark value h)
  pub name : name_mark value h ≤ suc LONGEST

pub question_other :
    (value : ℕ → ℕ) (k parent : ℕ) (h : Trees) (flags a b c d size place number_limit default : ℕ)
    → is_question k ≡ true → Asked value h → flags < HALF → place ≤ LONGEST → number_limit ≤ suc LONGEST → default ≤ suc LONGEST
    → (eqb k code.GOTO || eqb k code.NUMERIC ≡ true → 0 < number_limit)
    → Other (question value k parent place h (column.FLAGS ≔ flags ∷ column.A ≔ a ∷ column.B ≔ b ∷ column.C ≔ c ∷ column.D ≔ d ∷ column.SIZE ≔ size ∷ []) number_limit default)
unfolding is_question questions member
question_other value k parent h flags a b c d size place number_limit default q asked f p l m limited =
    let not_form = apart is_question k code.FORM q refl in
    let not_option = apart is_question k code.OPTION q refl in
    let not_question_ref = apart is_question k code.QUESTION_REF q refl in
    let not_rule_ref = apart is_question k code.RULE_REF q refl in
    record {
      sound =
          sound_row (omega arith) (λ e. clash cc) (λ e. (asked.own, asked.written)) (λ e. limited (rw (not_option, or-false) at e))
          (λ e. clash (cc (rw (not_question_ref, not_rule_ref) at e))) (λ e. clash cc) (λ e. rw q);
      no_option = not_option;
    }

-- ---- references

abbrev is_reference : ℕ → Bool
is_reference k = eqb k code.QUESTION_REF || eqb k code.RULE_REF

-- what it names stands at a place; a ruleref names no number
pub reference_other :
    (value : ℕ → ℕ) (parent k a place at : ℕ)
    → is_reference k ≡ true → (eqb k code.RULE_REF ≡ true → a ≡ 0) → place ≤ LONGEST → at ≤ LONGEST
    → Other (operand value parent k a place (suc at))
unfolding is_question questions member
reference_other value parent k a place at r n p l =
    let not_form = apart is_reference k code.FORM r refl in
    let not_goto = apart is_reference k code.GOTO r refl in
    let not_numeric = apart is_reference k code.NUMERIC r refl in
    let not_option = apart is_reference k code.OPTION r refl in
    let not_asked : is_question k ≡ false =
    either (eqb k code.QUESTION_REF) (λ e. rw (eqb-true k code.QUESTION_REF e)) (λ e. rw (eqb-true k code.RULE_REF (rw e at r))) in
    record {
      sound =
          sound_row (omega arith) (λ e. clash cc) (λ e. clash cc) (λ e. clash (cc (rw (not_goto, not_numeric, not_option) at e)))
          (λ e. omega arith) n (λ e. absurd (omega arith));
      no_option = not_option;
    }
