-- What the code's calls give: the order of the rules, their values, and the bytes.
-- Assumes nothing.
use Prim.Native.Nat.{ℕ, ◌≤◌}
use native.Mathlib.Omega.{arith}
use mathlib.Core.Path.{◌≡◌, sym, ◌∙◌}
use mathlib.Core.List.{List}
use lib.ListN.{length, take}
use lib.Seq.{length-take-le}
use Rattle.numbers.specs.Numbers.{empty_map}
use Rattle.operators.specs.declared.Scalar.{Scalar}
use Rattle.rows.specs.Rows.{rows_from}
use Rattle.circles.specs.Circles.{Step, last, Maps, Closed}
use Rattle.ranks.specs.Ranks.{order_of, order_in}
use Rattle.ranks.proofs.Theorems.{order_same, steps_size}
use Rattle.rule_steps.specs.Steps.{table_steps, all_added}
use Rattle.rule_steps.proofs.Theorems.{steps_mapped}
use Rattle.rule_values.specs.Values.{with_rules}
use Rattle.screen_rows.specs.Passes.{shown}
use Rattle.table_screen.specs.TableScreen.{rule_count, rule_order, rule_places, no_values, rule_values, table_screen}

-- the order, by the closed map of a table's steps
pub rules_ordered :
    (t : List ℕ) (count n : ℕ) {empty words after r : List ℕ}
    → empty ≡ empty_map → words ≡ all_added empty (table_steps t count) → Closed words n after → r ≡ order_in after n
    → r ≡ order_of (table_steps t count) n
rules_ordered t count n {words = words} e f c h =
    let maps : Maps words (table_steps t count) = rw (f, e) (steps_mapped (rows_from t 0 count)) in
    h ∙ order_same maps c

-- it is long enough for all rules
pub rules_whole : (l : List Step) (m : ℕ) {n : ℕ} {order : List ℕ} → n ≡ last m → order ≡ order_of l n → n ≡ length (take n order)
rules_whole l m {n} {order} e f =
    let long : n ≤ length order = rw f (omega (arith, steps_size l n)) in
    sym (length-take-le n order long)

module _ (answers gotos checkboxes t : List ℕ) (count : ℕ) {n m : ℕ} (counted : m ≡ rule_count t count) (cut : n ≡ last m) where
  -- no rules, no values
  pub values_none : {r : List Scalar} → n ≡ 0 → r ≡ no_values → r ≡ rule_values answers gotos checkboxes t count
  unfolding rule_values rule_order with_rules
  values_none z h = h ∙ rw (← counted, ← cut, z)

  -- the values in the order
  pub values_all :
      {order places : List ℕ} {before r : List Scalar}
      → order ≡ order_of (table_steps t count) n → places ≡ rule_places t count → before ≡ no_values
      → r ≡ with_rules answers gotos checkboxes t count places before (take n order)
      → r ≡ rule_values answers gotos checkboxes t count
  unfolding rule_values rule_order
  values_all o p b h = h ∙ rw (← counted, ← cut, o, p, b)

-- the bytes by these values
pub screen_by :
    (answers gotos checkboxes t : List ℕ) (count : ℕ) {values : List Scalar} {r : List ℕ}
    → values ≡ rule_values answers gotos checkboxes t count → r ≡ shown answers gotos checkboxes values t count
    → r ≡ table_screen answers gotos checkboxes t count
unfolding table_screen
screen_by answers gotos checkboxes t count e h = h ∙ rw e
