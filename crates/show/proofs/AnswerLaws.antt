-- The answer by its tests, and the numbers of reading's own refusals.
-- Assumes nothing.
use Prim.Native.Nat.{ℕ, ◌*◌, ◌≤◌, ◌<◌}
use native.Mathlib.Omega.{arith}
use mathlib.Core.Path.{◌≡◌}
use mathlib.Core.Logic.{◌≢◌}
use mathlib.Core.List.{List}
use lib.Dec.{eqb}
use lib.ListN.{length}
use borrow.Author.Tests.{eq-eqb, ne_eqb, lt-ltb, le-ltb, eqb-true, eqb-false}
use Rattle.lexemes.proofs.Lists.{either, either_less}
use Rattle.answers.specs.Answer.{Answer, refuses}
use Rattle.answers.specs.WholeAnswer.{read_answer}
use Rattle.answers.specs.Demand3.{Refuses, source_too_long, bad_token, no_text_starts_so, source_ends_early, opens_too_many, second_word, number_outside}
use Rattle.answers.specs.Demand3.{more_rows, form_repeated, question_repeated, name_repeated, rule_over_limit, nothing_found, bad_choice, reaches_itself}
use Rattle.answers.proofs.Answers.{Right, accepting, refusing, answer_right}
use Rattle.show.specs.Show.{shown_for}

-- where reading answers a, `good` answers are good and m bytes are lent
module _ (answers : List ℕ) (good m : ℕ) (a : Answer) where
  -- each answer with what it is given for
  pub data Shown : Answer → Type 0 where
    reading_refuses : a.number ≢ 0 → Shown a
    answer_at_fault : a.number ≡ 0 → 2 * good ≢ length answers → Shown (refuses 15 good)
    fewer_bytes : a.number ≡ 0 → 2 * good ≡ length answers → m < a.rows → Shown (refuses 30 0)
    rows_shown : a.number ≡ 0 → 2 * good ≡ length answers → a.rows ≤ m → Shown a

  pub shown_only : {b : Answer} → Shown b → shown_for answers good m a ≡ b
  shown_only (reading_refuses z) = rw (ne_eqb a.number 0 z)
  shown_only (answer_at_fault z e) = rw (eq-eqb a.number 0 z, ne_eqb (2 * good) (length answers) e)
  shown_only (fewer_bytes z e l) = rw (eq-eqb a.number 0 z, eq-eqb (2 * good) (length answers) e, lt-ltb m a.rows l)
  shown_only (rows_shown z e l) = rw (eq-eqb a.number 0 z, eq-eqb (2 * good) (length answers) e, le-ltb m a.rows l)

  -- one of them is given
  pub shown_right : Shown (shown_for answers good m a)
  shown_right =
      either (eqb a.number 0)
      (λ z.
      let accepts = eqb-true a.number 0 z in
      either (eqb (2 * good) (length answers))
      (λ e.
      let all = eqb-true (2 * good) (length answers) e in
      either_less m a.rows (λ l. given (fewer_bytes accepts all l)) (λ l. given (rows_shown accepts all l)))
      (λ e. given (answer_at_fault accepts (eqb-false (2 * good) (length answers) e))))
      (λ z. given (reading_refuses (eqb-false a.number 0 z)))
    where
      given : {b : Answer} → Shown b → Shown (shown_for answers good m a)
      given h = rw (shown_only h) h

  -- what an answer is given for, by its number; 15 and 30 are no numbers of reading's own
  pub accepted_for : {b : Answer} → Shown b → b.number ≡ 0 → (a.number ≡ 0) × (2 * good ≡ length answers) × (a.rows ≤ m)
  accepted_for (reading_refuses z) f = absurd (z f)
  accepted_for (answer_at_fault z e) f = absurd (omega arith)
  accepted_for (fewer_bytes z e l) f = absurd (omega arith)
  accepted_for (rows_shown z e l) f = (z, e, l)

  module _ (own : (a.number ≢ 15) × (a.number ≢ 30)) where
    pub fault_for : {b : Answer} → Shown b → b.number ≡ 15 → (a.number ≡ 0) × (2 * good ≢ length answers)
    fault_for (reading_refuses z) f = absurd (own.0 f)
    fault_for (answer_at_fault z e) f = (z, e)
    fault_for (fewer_bytes z e l) f = absurd (omega arith)
    fault_for (rows_shown z e l) f = absurd (omega arith)

    pub few_for : {b : Answer} → Shown b → b.number ≡ 30 → (a.number ≡ 0) × (2 * good ≡ length answers) × (m < a.rows)
    few_for (reading_refuses z) f = absurd (own.1 f)
    few_for (answer_at_fault z e) f = absurd (omega arith)
    few_for (fewer_bytes z e l) f = (z, e, l)
    few_for (rows_shown z e l) f = absurd (omega arith)

-- ---- reading's own

refusal_own : {s : List ℕ} {n : ℕ} {a : Answer} → Refuses s n a → (a.number ≢ 15) × (a.number ≢ 30)
refusal_own (source_too_long h) = (λ e. omega arith, λ e. omega arith)
refusal_own (bad_token h b) = (λ e. omega arith, λ e. omega arith)
refusal_own (no_text_starts_so h b w) = (λ e. omega arith, λ e. omega arith)
refusal_own (source_ends_early h b w) = (λ e. omega arith, λ e. omega arith)
refusal_own (opens_too_many h b w) = (λ e. omega arith, λ e. omega arith)
refusal_own (second_word p f) = (λ e. omega arith, λ e. omega arith)
refusal_own (number_outside p f) = (λ e. omega arith, λ e. omega arith)
refusal_own (more_rows p h) = (λ e. omega arith, λ e. omega arith)
refusal_own (form_repeated p f) = (λ e. omega arith, λ e. omega arith)
refusal_own (question_repeated p f) = (λ e. omega arith, λ e. omega arith)
refusal_own (name_repeated p f) = (λ e. omega arith, λ e. omega arith)
refusal_own (rule_over_limit p f) = (λ e. omega arith, λ e. omega arith)
refusal_own (nothing_found p f) = (λ e. omega arith, λ e. omega arith)
refusal_own (bad_choice p f) = (λ e. omega arith, λ e. omega arith)
refusal_own (reaches_itself p f) = (λ e. omega arith, λ e. omega arith)

-- 15 and 30 are no numbers of reading
pub own_numbers_lem : (s : List ℕ) (n : ℕ) → ((read_answer s n).number ≢ 15) × ((read_answer s n).number ≢ 30)
own_numbers_lem s n = own (answer_right s n)
  where
    own : {a : Answer} → Right s n a → (a.number ≢ 15) × (a.number ≢ 30)
    own (accepting p) = (λ e. omega arith, λ e. omega arith)
    own (refusing r) = refusal_own r
