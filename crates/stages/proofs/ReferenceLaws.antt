-- Stage 11 as the code does it.
use Prim.Native.Nat.{ℕ, ◌+◌, ◌-◌}
use mathlib.Core.Path.{◌≡◌, refl, ap, ap₂, ◌∙◌}
use mathlib.Core.Bool.{Bool, true, false, not}
use mathlib.Core.List.{List}
use native.Mathlib.Omega.{arith}
use borrow.Author.Tests.{eq-eqb, ne_eqb}
use lib.Dec.{eqb}
use Rattle.std.specs.Prelude.{Option, Some, None}
use Rattle.std.specs.Option.{is_some}
use Rattle.rows.specs.Marks.{marked}
use Rattle.numbers.specs.Numbers.{used}
use Rattle.rows.specs.Codes as code
use Rattle.rows.specs.Columns as column
use Rattle.answers.specs.Rows.{Draft}
use Rattle.answers.specs.Stages.{cell, row_among, form_round}
use Rattle.names.specs.Names.{find_in}
use Rattle.stages.specs.References.{finds_question, finds_rule, reference_fault}

-- ---- a questionref with the number n

some_found : (found : Option ℕ) → is_some found ≡ not (eqb (marked found) 0)
some_found None = refl
some_found (Some row) = rw (ne_eqb (row + 1) 0 (λ e. omega arith))

module _ (s es written : List ℕ) (d : Draft) {n : ℕ} (e : n ≡ cell column.A d) where
  pub question_named : n ≡ 0 → {m : ℕ} (found : Option ℕ) → m ≡ d.own_at → marked found ≡ find_in s es m false → is_some found ≡ finds_question s es written d
  unfolding finds_question
  question_named z found g h = some_found found ∙ rw (h, g, ← e, eq-eqb n 0 z)

  pub question_numbered : (n ≡ 0 → ⊥) → used written n ≡ finds_question s es written d
  unfolding finds_question
  question_numbered z = rw (← e, ne_eqb n 0 z)

-- ---- a ruleref, by the row that the index finds

module _ (s es : List ℕ) (ds : List Draft) (d : Draft) {m : ℕ} (g : m ≡ d.own_at) where
  found_at : {f : ℕ} → f ≡ find_in s es m true → f ≡ find_in s es d.own_at true
  found_at e = e ∙ ap (λ (x : ℕ). find_in s es x true) g

  pub rule_nowhere : 0 ≡ find_in s es m true → false ≡ finds_rule s es ds d
  unfolding finds_rule
  rule_nowhere f = rw (← found_at f)

  pub rule_somewhere : (at : ℕ) → at + 1 ≡ find_in s es m true → {p q : ℕ} → p ≡ cell column.PARENT (row_among ds at) → q ≡ form_round ds d → eqb p q ≡ finds_rule s es ds d
  unfolding finds_rule
  rule_somewhere at f h k = let e : at + 1 - 1 ≡ at = omega arith in rw (← found_at f, ne_eqb (at + 1) 0 (λ z. omega arith), e) (ap₂ eqb h k)

-- ---- a row of the code k

module _ (s es forms written : List ℕ) (ds : List Draft) (d : Draft) {k : ℕ} (c : k ≡ cell column.CODE d) where
  module _ (y : k ≡ code.GOTO) {n : ℕ} (e : n ≡ cell column.A d) {b : Bool} (f : b ≡ used forms n) where
    pub goto_found : b ≡ true → 0 ≡ reference_fault s es forms written ds d
    unfolding reference_fault
    goto_found g = rw (← c, y, ← e, ← f, g)

    pub goto_unfound : b ≡ false → d.limit_at ≡ reference_fault s es forms written ds d
    unfolding reference_fault
    goto_unfound g = rw (← c, y, ← e, ← f, g)

  module _ (y : k ≡ code.QUESTION_REF) {b : Bool} (f : b ≡ finds_question s es written d) where
    pub question_found : b ≡ true → 0 ≡ reference_fault s es forms written ds d
    unfolding reference_fault
    question_found g = rw (← c, y, ← f, g)

    pub question_unfound : b ≡ false → d.own_at ≡ reference_fault s es forms written ds d
    unfolding reference_fault
    question_unfound g = rw (← c, y, ← f, g)

  module _ (y : k ≡ code.RULE_REF) {b : Bool} (f : b ≡ finds_rule s es ds d) where
    pub rule_found_lem : b ≡ true → 0 ≡ reference_fault s es forms written ds d
    unfolding reference_fault
    rule_found_lem g = rw (← c, y, ← f, g)

    pub rule_unfound : b ≡ false → d.own_at ≡ reference_fault s es forms written ds d
    unfolding reference_fault
    rule_unfound g = rw (← c, y, ← f, g)

  pub refers_not : (k ≡ code.GOTO → ⊥) → (k ≡ code.QUESTION_REF → ⊥) → (k ≡ code.RULE_REF → ⊥) → 0 ≡ reference_fault s es forms written ds d
  unfolding reference_fault
  refers_not x y z = rw (← c, ne_eqb k code.GOTO x, ne_eqb k code.QUESTION_REF y, ne_eqb k code.RULE_REF z)
