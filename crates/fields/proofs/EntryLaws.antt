-- What an entry gives: the value of the number at a mark, a numeric's step, or a flag.
-- Assumes nothing.
use Prim.Native.Nat.{ℕ, zero, suc, ◌+◌, ◌-◌, ◌≤◌}
use native.Mathlib.Omega.{arith}
use native.Mathlib.Numerals.{add-one}
use Rattle.grammar.specs.Parts.{when}
use mathlib.Core.Bool.{Bool, true, false, cond, not}
use lib.Dec.{eqb}
use mathlib.Core.Path.{◌≡◌, refl, ap, ◌∙◌}
use mathlib.Core.Logic.{◌≢◌}
use mathlib.Core.List.{List}
use borrow.Author.Tests.{ne_eqb}
use Rattle.std.specs.Prelude.{Option, Some, None, unwrap_or}
use Rattle.values.specs.Numbers.{value_at}
use Rattle.grammar.specs.Source.{held_value, number_at}
use Rattle.answers.specs.Rows.{ABSENT_STEP}
use Rattle.fields.specs.Phrases.{marked_value, marked_step, set_if}

module _ (number_at_lem : ℕ → ℕ) where
  pub value_none : {m : ℕ} → m ≡ 0 → marked_value number_at_lem m ≡ 0
  unfolding marked_value
  value_none e = rw e

  pub value_some : (m : ℕ) → m ≢ 0 → marked_value number_at_lem m ≡ number_at_lem (m - 1)
  unfolding marked_value
  value_some zero h = absurd (h refl)
  value_some (suc p) h = ap number_at_lem (omega arith)

  -- a step that is absent, and one that is written
  pub step_absent : {m : ℕ} → m ≡ 0 → ABSENT_STEP ≡ marked_step number_at_lem m
  unfolding marked_step
  step_absent e = rw e

  pub step_there : (m : ℕ) → m ≢ 0 → marked_value number_at_lem m ≡ marked_step number_at_lem m
  unfolding marked_step
  step_there m h = rw (ne_eqb m 0 h)

-- the value that is held is the value, or 0 where there is none
held_or : (v : Option ℕ) → unwrap_or v 0 ≡ held_value v
held_or (Some n) = refl
held_or None = refl

-- the value that is read at the place of a mark
pub value_there : (s : List ℕ) (p : ℕ) {m : ℕ} (v : Option ℕ) → p + 1 ≡ m → v ≡ value_at s p → unwrap_or v 0 ≡ marked_value (number_at s) m
unfolding number_at marked_value
value_there s p v e f = rw (← e, add-one p) (held_or v ∙ ap held_value f)

-- a flag where an entry is there
pub set_there : (entry bit : ℕ) → when (not (eqb entry 0)) bit ≡ set_if entry bit
unfolding set_if
set_there entry bit = by (eqb entry 0)
  where
    by : (b : Bool) → when (not b) bit ≡ cond b 0 bit
    by true = refl
    by false = refl

pub set_le : (entry bit : ℕ) → set_if entry bit ≤ bit
unfolding set_if
set_le entry bit = by (eqb entry 0)
  where
    by : (b : Bool) → cond b 0 bit ≤ bit
    by true = omega arith
    by false = omega arith
