-- Where the rows of an expression end, by the code's tests; and of rows that are those of an expression.
use Prim.Native.Nat.{ℕ, zero, suc, max, ◌+◌, ◌-◌, ◌≤◌, ◌<◌}
use mathlib.Core.Path.{◌≡◌, sym, ◌∙◌}
use mathlib.Core.Bool.{true, false}
use mathlib.Core.List.{List}
use native.Mathlib.Decide.{dec_lt}
use native.Mathlib.Omega.{arith}
use Rattle.std.specs.Prelude.{Option, Some, None, MatchOption, unwrap_or}
use Rattle.rows.specs.Codes.{is_expression}
use Rattle.rows.specs.Columns as column
use Rattle.rows.specs.Table.{cell_at}
use Rattle.laid.specs.Ends.{end_of, end_from}
use Rattle.laid.specs.Laid.{Stretch}

module _ (t : List ℕ) (count i : ℕ) where
  pub end_none : count ≤ i → end_from t count i ≡ i
  unfolding end_of
  end_none h = let z : count - i ≡ 0 = omega arith in rw z

  module _ (h : i < count) where
    pub end_here : is_expression (cell_at t i column.CODE) ≡ false → end_from t count i ≡ i
    unfolding end_of
    end_here e = let z : count - i ≡ suc (count - suc i) = omega arith in rw (z, e)

    pub end_on : is_expression (cell_at t i column.CODE) ≡ true → end_from t count i ≡ end_from t count (suc i)
    unfolding end_of
    end_on e = let z : count - i ≡ suc (count - suc i) = omega arith in rw (z, e)

module _ (t : List ℕ) (count : ℕ) where
  -- n rows of expressions, and then one that is none
  pub end_parts :
      (n i j : ℕ) → j ≡ i + n → j ≤ count → ((k : ℕ) → i ≤ k → k < j → is_expression (cell_at t k column.CODE) ≡ true)
      → (j < count → is_expression (cell_at t j column.CODE) ≡ false) → end_from t count i ≡ j
  end_parts zero i j e h parts ends =
      let same : i ≡ j = omega arith in
      rw same (elim (dec_lt j count) [ yes l ↦ end_here t count j l (ends l) | no l ↦ end_none t count j (omega arith) ])
  end_parts (suc n) i j e h parts ends =
      end_on t count i (omega arith) (parts i (omega arith) (omega arith))
      ∙ end_parts n (suc i) j (omega arith) h (λ k a b. parts k (omega arith) b) ends

  -- what `find` finds of the rows from `from` on
  pub end_found :
      (from : ℕ) (r : Option ℕ)
      → MatchOption r ((k : ℕ) → from ≤ k → k < count → is_expression (cell_at t k column.CODE) ≡ true)
      (λ i. (from ≤ i) × (i < count) × (is_expression (cell_at t i column.CODE) ≡ false)
      × ((k : ℕ) → from ≤ k → k < i → is_expression (cell_at t k column.CODE) ≡ true))
      → unwrap_or r (max from count) ≡ end_from t count from
  end_found from (Some i) (up, inside, ends, parts) = sym (end_parts (i - from) from i (omega arith) (omega arith) parts (λ h. ends))
  end_found from None parts =
      elim (dec_lt from count) [
        | yes h ↦
            let last : max from count ≡ count = omega arith in
            last ∙ sym (end_parts (count - from) from count (omega arith) (omega arith) parts (λ l. absurd (omega arith)))
        | no h ↦
            let last : max from count ≡ from = omega arith in
            last ∙ sym (end_none t count from (omega arith))
      ]

  -- and that the rows up to there are parts of expressions
  pub stretch_found :
      (from : ℕ) (r : Option ℕ)
      → MatchOption r ((k : ℕ) → from ≤ k → k < count → is_expression (cell_at t k column.CODE) ≡ true)
      (λ i. (from ≤ i) × (i < count) × (is_expression (cell_at t i column.CODE) ≡ false)
      × ((k : ℕ) → from ≤ k → k < i → is_expression (cell_at t k column.CODE) ≡ true))
      → Stretch t count from (unwrap_or r (max from count))
  stretch_found from (Some i) (up, inside, ends, parts) = record { up = up; within = parts; ends = λ h. ends; below = λ h. omega arith }
  stretch_found from None parts =
      record { up = omega arith; within = λ k a b. parts k a (omega arith); ends = λ h. absurd (omega arith); below = λ h. omega arith }

  -- a stretch of rows that are parts of expressions ends there
  pub end_stretch : (i j : ℕ) → i ≤ count → Stretch t count i j → end_from t count i ≡ j
  end_stretch i j h s =
      let up : i ≤ j = s.up in
      end_parts (j - i) i j (omega arith) (s.below h) s.within s.ends
