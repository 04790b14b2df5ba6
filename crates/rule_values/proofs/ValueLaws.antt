-- The values of rules, one after another: by what the code's calls give, and as the loop goes on.
use Prim.Native.Nat.{ℕ, suc, ◌+◌, ◌≤◌, ◌<◌}
use mathlib.Core.Path.{◌≡◌, refl, sym, ap, ap₂, ◌∙◌}
use mathlib.Core.List.{List}
use native.Mathlib.Numerals.{add-one}
use native.Mathlib.Omega.{arith}
use lib.ListN.{length, get_or, drop}
use lib.Seq.{drop-cons, drop-length}
use Rattle.operators.specs.declared.Scalar.{Scalar}
use Rattle.stored.specs.Stored.{with_value}
use Rattle.stored.proofs.StoredLaws.{length_with}
use Rattle.expression_rows.specs.Ends.{value_after}
use Rattle.rule_values.specs.Values.{with_rule, with_rules}

module _ (answers gotos checkboxes t : List ℕ) (count : ℕ) (places : List ℕ) where
  abbrev rule : List Scalar → ℕ → List Scalar
  rule = with_rule answers gotos checkboxes t count places

  abbrev rules : List Scalar → List ℕ → List Scalar
  rules = with_rules answers gotos checkboxes t count places

  pub rule_found_lem :
      (values : List Scalar) (k : ℕ) {row : ℕ} {v : Scalar} {now : List Scalar}
      → row ≡ get_or places k 0 → v ≡ value_after answers gotos checkboxes values t count row → now ≡ with_value values k v
      → now ≡ rule values k
  unfolding with_rule
  rule_found_lem values k e f g = g ∙ ap (with_value values k) (f ∙ ap (value_after answers gotos checkboxes values t count) e)

  pub length_rule : (values : List Scalar) (k : ℕ) → length (rule values k) ≡ length values
  unfolding with_rule
  length_rule values k = length_with values k (value_after answers gotos checkboxes values t count (get_or places k 0))

  -- ---- the loop: finding the values from place i of the order on comes to the same

  module _ (order : List ℕ) where
    pub record Finding (values₀ values : List Scalar) (i : ℕ) : Type 0 where
      pub inside : i ≤ length order
      pub same : rules values (drop i order) ≡ rules values₀ order

    pub finding_start : (values : List Scalar) → Finding values values 0
    finding_start values = record { inside = omega arith; same = refl }

    pub rules_on : (values : List Scalar) (i : ℕ) → i < length order → rules values (drop i order) ≡ rules (rule values (get_or order i 0)) (drop (suc i) order)
    unfolding with_rules
    rules_on values i h = ap (rules values) (drop-cons order i 0 h)

    module _ {values₀ values : List Scalar} {i : ℕ} (v : Finding values₀ values i) where
      pub finding_next : {values' : List Scalar} {k : ℕ} → i < length order → k ≡ get_or order i 0 → values' ≡ rule values k → Finding values₀ values' (i + 1)
      finding_next {values'} {k} h e f =
          record {
            inside = omega arith;
            same =
                ap₂ (λ (w : List Scalar) (j : ℕ). rules w (drop j order)) (f ∙ ap (rule values) e) (add-one i)
                ∙ sym (rules_on values i h)
                ∙ v.same;
          }

      pub finding_end : length order ≤ i → values ≡ rules values₀ order
      unfolding with_rules
      finding_end h =
          let e : i ≡ length order = omega (arith, v.inside) in
          sym (ap (λ (j : ℕ). rules values (drop j order)) e ∙ ap (rules values) (drop-length order)) ∙ v.same
