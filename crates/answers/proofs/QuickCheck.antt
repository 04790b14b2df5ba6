-- The quick check says what reading refuses with No. 1 to 5 and 16, whatever table is lent.
-- Assumes nothing.
use mathlib.Core.Path.{◌≡◌, refl, sym, ap, ◌∙◌}
use mathlib.Core.List.{List, [], ◌∷◌}
use mathlib.Core.Logic.{inl, inr, ◌↔◌}
use Prim.Native.Nat.{ℕ, ◌+◌, ◌*◌, ◌/◌, ◌^◌, ◌≤◌, ◌<◌}
use native.Mathlib.Omega.{arith}
use lib.Dec.{ltb}
use lib.ListN.{length}
use Rattle.lexemes.proofs.Lists.{either}
use Rattle.rows.specs.Columns.{ROW}
use Rattle.ll1.specs.Trees.{Trees}
use Rattle.answers.specs.Rows.{Draft}
use Rattle.answers.specs.Stages.{repeated_forms, repeated_questions, repeated_names, rules_over_limit, unfound, bad_choices, settled, circular_references}
use Rattle.answers.specs.Answer.{LONGEST, Answer, refuses, stage, answer_of, drafts}
use Rattle.answers.specs.WholeAnswer.{Checked, refusal, derived, checked, quick_check, read_answer}
use Rattle.answers.specs.Demand3.{Early, to_4, to_16, to_5}
use Rattle.answers.proofs.Checks.{Decided, stopped, passed, decided, early_bounds}
use Rattle.answers.proofs.Answers.{acceptance, past_5, refused_answer}

-- ---- no stage after the fifth answers with one of these

record Late (a : Answer) : Type 0 where
  number : Early a.number → ⊥

late : (k : ℕ) → 6 ≤ k → k ≤ 15 → Early k → ⊥
late k l h (inl e) = omega (arith, e.1)
late k l h (inr e) = omega arith

stage_late : (k : ℕ) (l : List ℕ) {later : Answer} → 6 ≤ k → k ≤ 15 → Late later → Late (stage k l later)
stage_late k [] l h w = w
stage_late k (m ∷ ms) l h w = record { number = late k l h }

early_zero : Early 0 → ⊥
early_zero (inl h) = omega (arith, h.0)
early_zero (inr e) = omega arith

stages_late : (s : List ℕ) (ds : List Draft) (whole : ℕ) → Late (answer_of s ds whole)
unfolding answer_of
stages_late s ds whole =
    let w : Late (acceptance s ds) = record { number = λ e. early_zero e } in
    let w₁₂ = stage_late 12 (bad_choices ds) (omega arith) (omega arith) (stage_late 14 (circular_references (settled s ds)) (omega arith) (omega arith) w) in
    let w₁₁ = stage_late 11 (unfound s ds) (omega arith) (omega arith) w₁₂ in
    let w₉ = stage_late 9 (repeated_names s ds) (omega arith) (omega arith) (stage_late 10 (rules_over_limit ds) (omega arith) (omega arith) w₁₁) in
    either (ltb whole (length ds))
    (λ h. rw (h, answer_of) (record { number = late 6 (omega arith) (omega arith) }))
    (λ h. rw (h, answer_of) (stage_late 7 (repeated_forms ds) (omega arith) (omega arith) (stage_late 8 (repeated_questions ds) (omega arith) (omega arith) w₉)))

-- ---- what reading and the quick check say of one source

module _ (s : List ℕ) where
  quick_refusal : (k p : ℕ) → checked s ≡ refusal k p → quick_check s ≡ k * 2 ^ 32 + p
  unfolding quick_check
  quick_refusal k p e = rw (e, quick_check)

  quick_derived : (tree : Trees) → checked s ≡ derived tree → quick_check s ≡ 0
  unfolding quick_check
  quick_derived tree e = rw (e, quick_check)

  data Agree : Type 0 where
    both_refuse : (k p : ℕ) → Early k → p ≤ LONGEST → quick_check s ≡ k * 2 ^ 32 + p → ((n : ℕ) → read_answer s n ≡ refuses k p) → Agree
    both_pass : quick_check s ≡ 0 → ((n : ℕ) → Early (read_answer s n).number → ⊥) → Agree

  agree : Agree
  agree = by (decided s) refl
    where
      by : {c : Checked} → Decided s c → checked s ≡ c → Agree
      by (stopped k p h b r) e = both_refuse k p h b (quick_refusal k p e) (λ n. refused_answer s n (r n))
      by (passed {tree = tree} g w o) e =
          both_pass (quick_derived tree e) (λ n. rw (past_5 s n tree (to_5 (to_16 (to_4 g) w) o)) (stages_late s (drafts s tree) (n / ROW)).number)

  pub refusals_agree : (k p : ℕ) → Early k → p < 2 ^ 32 → (quick_check s ≡ k * 2 ^ 32 + p) ↔ ((n : ℕ) → read_answer s n ≡ refuses k p)
  refusals_agree k p h b = by agree
    where
      by : Agree → (quick_check s ≡ k * 2 ^ 32 + p) ↔ ((n : ℕ) → read_answer s n ≡ refuses k p)
      by (both_refuse j q r c e w) = (
        λ d. let i : j ≡ k = omega arith in let o : q ≡ p = omega arith in λ n. w n ∙ rw (i, o),
        λ d. let i : j ≡ k = ap (λ a. a.number) (sym (w 0) ∙ d 0) in let o : q ≡ p = ap (λ a. a.place) (sym (w 0) ∙ d 0) in e ∙ rw (i, o),
      )
      by (both_pass e w) = (λ d. absurd (omega (arith, early_bounds k h)), λ d. absurd ((rw (d 0) at (w 0)) h))

  pub passes_agree : (quick_check s ≡ 0) ↔ ((n : ℕ) → Early (read_answer s n).number → ⊥)
  passes_agree = by agree
    where
      by : Agree → (quick_check s ≡ 0) ↔ ((n : ℕ) → Early (read_answer s n).number → ⊥)
      by (both_refuse j q r c e w) = (λ d. absurd (omega (arith, early_bounds j r)), λ d. absurd ((rw (w 0) at (d 0)) r))
      by (both_pass e w) = (λ d. w, λ d. e)
