-- What the code tells of one row: the rule that it stands in, and its step.
use Prim.Native.Nat.{ℕ, zero, suc, ◌+◌, ◌≤◌, ◌<◌, max}
use mathlib.Core.Path.{◌≡◌, refl, sym, ◌∙◌}
use mathlib.Core.Bool.{Bool, true, false, cond, not, ◌&&◌}
use mathlib.Core.List.{List, [], ◌∷◌}
use native.Mathlib.Omega.{arith}
use borrow.Author.Tests.{ne_eqb, not-true, not-false}
use lib.ListN.{get_or}
use Rattle.rows.specs.Codes as code
use Rattle.rows.specs.Columns as column
use Rattle.rows.specs.Table.{row_at, cell_at}
use Rattle.rows.specs.Rows.{rows_from}
use Rattle.circles.specs.Circles.{is_rule, Step, added}
use Rattle.rule_steps.specs.Steps.{rule_round, rule_found, step_in, greatest, all_added}

-- ---- row p of a table's n rows from i on

row_inside : (t : List ℕ) (n i p : ℕ) → p < n → get_or (rows_from t i n) p [] ≡ row_at t (i + p)
unfolding rows_from
row_inside t zero i p h = absurd (omega arith)
row_inside t (suc n) i zero h = let e : i + 0 ≡ i = omega arith in rw e
row_inside t (suc n) i (suc p) h = let e : i + suc p ≡ i + 1 + p = omega arith in rw e (row_inside t n (i + 1) p (omega arith))

row_outside : (t : List ℕ) (n i p : ℕ) → n ≤ p → get_or (rows_from t i n) p [] ≡ []
unfolding rows_from
row_outside t zero i p h = refl
row_outside t (suc n) i zero h = absurd (omega arith)
row_outside t (suc n) i (suc p) h = row_outside t n (i + 1) p (omega arith)

-- ---- the rule that a row stands in, test by test

module _ (t : List ℕ) (n : ℕ) (r : List ℕ) {k : ℕ} (e : k ≡ get_or r column.CODE 0) where
  pub round_other : (k ≡ code.RULE_REF → ⊥) → 0 ≡ rule_round (rows_from t 0 n) r
  unfolding rule_round
  round_other h = rw (← e, ne_eqb k code.RULE_REF h)

  module _ (y : k ≡ code.RULE_REF) {p : ℕ} (f : p ≡ get_or r column.PARENT 0) where
    pub round_beyond : n ≤ p → 0 ≡ rule_round (rows_from t 0 n) r
    unfolding rule_round
    round_beyond h = rw (← e, y, ← f, row_outside t n 0 p h)

    module _ (h : p < n) {j : ℕ} (g : j ≡ cell_at t p column.CODE) where
      parent_is : get_or (rows_from t 0 n) p [] ≡ row_at t p
      parent_is = let z : 0 + p ≡ p = omega arith in row_inside t n 0 p h ∙ rw z

      pub round_outside : (j ≡ code.RULE → ⊥) → 0 ≡ rule_round (rows_from t 0 n) r
      unfolding rule_round
      round_outside l = rw (← e, y, ← f, parent_is, ← g, ne_eqb j code.RULE l)

      pub round_inside : j ≡ code.RULE → {o : ℕ} → o ≡ cell_at t p column.OWN → o ≡ rule_round (rows_from t 0 n) r
      unfolding rule_round
      round_inside l i = rw (← e, y, ← f, parent_is, ← g, l) i

-- ---- its step

module _ (rows : List (List ℕ)) (r : List ℕ) {a : ℕ} (e : a ≡ rule_round rows r) where
  -- it stands in no rule
  pub no_step : a ≡ 0 → step_in rows r ≡ []
  unfolding step_in
  no_step z = rw (← e, z)

  module _ {b : ℕ} (f : b ≡ rule_found rows r) where
    pub not_step : (is_rule a && is_rule b) ≡ false → step_in rows r ≡ []
    unfolding step_in
    not_step h = rw (← e, ← f, h)

    pub one_step : (is_rule a && is_rule b) ≡ true → step_in rows r ≡ record { from = a; to = b } ∷ []
    unfolding step_in
    one_step h = rw (← e, ← f, h)

-- no step, or one, to be added
module _ {l : List Step} (e : l ≡ []) where
  pub added_nothing : (words : List ℕ) → words ≡ all_added words l
  unfolding all_added
  added_nothing words = rw e

  pub greatest_nothing : 0 ≡ greatest l
  unfolding greatest
  greatest_nothing = rw e

module _ {l : List Step} {a b : ℕ} (e : l ≡ record { from = a; to = b } ∷ []) where
  pub added_one : (words : List ℕ) {now : List ℕ} → now ≡ added words a b → now ≡ all_added words l
  unfolding all_added
  added_one words h = rw e h

  pub greatest_one : {m : ℕ} → m ≡ max a b → m ≡ greatest l
  unfolding greatest
  greatest_one h = rw e (omega (arith, h))

-- the greater of two rule numbers, by the test of the code
module _ (a b : ℕ) {t : Bool} (e : t ≡ (is_rule a && is_rule b)) where
  pub greater_none : not t ≡ true → 0 ≡ cond (is_rule a && is_rule b) (max a b) 0
  greater_none h = rw (← e, not-true t h)

  pub greater_both : not t ≡ false → max a b ≡ cond (is_rule a && is_rule b) (max a b) 0
  greater_both h = rw (← e, not-false t h)

module _ (rows : List (List ℕ)) (r : List ℕ) {a b : ℕ} (e : a ≡ rule_round rows r) (f : b ≡ rule_found rows r) where
  pub step_added : (words : List ℕ) {now : List ℕ} → now ≡ added words a b → now ≡ all_added words (step_in rows r)
  unfolding step_in all_added added
  step_added words {now} g = rw (← e, ← f) (go (is_rule a && is_rule b) refl g)
    where
      go : (t : Bool) → (is_rule a && is_rule b) ≡ t → now ≡ added words a b → now ≡ all_added words (cond t (record { from = a; to = b } ∷ []) [])
      go true i h = h
      go false i h = h ∙ rw i

  pub step_greatest : {m : ℕ} → m ≡ cond (is_rule a && is_rule b) (max a b) 0 → m ≡ greatest (step_in rows r)
  unfolding step_in greatest
  step_greatest {m} g = g ∙ rw (← e, ← f) (go (is_rule a && is_rule b))
    where
      go : (t : Bool) → cond t (max a b) 0 ≡ greatest (cond t (record { from = a; to = b } ∷ []) [])
      go true = let z : max (max a b) 0 ≡ max a b = omega arith in sym z
      go false = refl
