-- Stage 10 as the code does it, and that it finds the first of the faults that grammar lists.
use Prim.Native.Nat.{ℕ, ◌+◌, ◌%◌, ◌<◌, ◌≤◌}
use mathlib.Core.Path.{◌≡◌}
use mathlib.Core.Bool.{◌&&◌, and-false}
use mathlib.Core.List.{List}
use native.Mathlib.Nat.{mod-eq_of_lt}
use native.Mathlib.Numerals.{add-one}
use native.Mathlib.Omega.{arith}
use borrow.Author.Tests.{eq-eqb, ne_eqb, lt-ltb, le-ltb}
use lib.Dec.{ltb}
use Rattle.rows.specs.Codes as code
use Rattle.rows.specs.Columns as column
use Rattle.rows.specs.Draft.{HALF}
use Rattle.answers.specs.Rows.{Draft}
use Rattle.answers.specs.Stages.{cell, is, rules_over_limit}
use Rattle.drafts.specs.Faults.{alone, first_fault}
use Rattle.stages.specs.Rules.{rule_fault}
use Rattle.drafts.specs.Sound.{SoundRows, First}
use Rattle.drafts.proofs.Firsts.{first_if, first_each}

module _ (d : Draft) {k : ℕ} (e : k ≡ cell column.CODE d) where
  pub rule_over : {n p : ℕ} → n ≡ cell column.OWN d → p ≡ cell column.PLACE d → k ≡ code.RULE → 255 < n → p % HALF + 1 ≡ rule_fault d
  unfolding rule_fault
  rule_over {n} {p} f g h l = rw (← e, ← f, ← g, eq-eqb k code.RULE h, lt-ltb 255 n l) (add-one (p % HALF))

  pub rule_within : {n : ℕ} → n ≡ cell column.OWN d → n ≤ 255 → 0 ≡ rule_fault d
  unfolding rule_fault
  rule_within {n} f l = rw (← f, le-ltb 255 n l, and-false (is code.RULE d))

  pub no_rule : (k ≡ code.RULE → ⊥) → 0 ≡ rule_fault d
  unfolding rule_fault
  no_rule h = rw (← e, ne_eqb k code.RULE h)

-- stage 10 answers grammar's first fault
pub rules_first : {ds : List Draft} → SoundRows ds → First (first_fault (alone rule_fault) ds) (rules_over_limit ds)
unfolding rules_over_limit rule_fault
rules_first v =
    first_each (alone rule_fault) _
    (λ before d ds s.
    let e : cell column.PLACE d % HALF ≡ cell column.PLACE d = mod-eq_of_lt s.place in
    rw e (first_if (is code.RULE d && ltb 255 (cell column.OWN d)) (λ h. omega arith)))
    v.each _
