-- The rows of rules: by the code's tests, and as the loop goes on.
use Prim.Native.Nat.{ℕ, suc, ◌+◌, ◌-◌, ◌≤◌, ◌<◌}
use mathlib.Core.Path.{◌≡◌, refl, sym, ap, ap₂, ◌∙◌}
use mathlib.Core.Bool.{Bool, true, false, cond}
use mathlib.Core.List.{List}
use native.Mathlib.Numerals.{add-one}
use native.Mathlib.Omega.{arith}
use borrow.Author.Tests.{ne_eqb}
use lib.Dec.{eqb}
use lib.ListN.{length, set, length-set}
use lib.Seq.{set_out}
use Rattle.rows.specs.Codes as code
use Rattle.rows.specs.Columns as column
use Rattle.rows.specs.Table.{cell_at}
use Rattle.rule_values.specs.Values.{placed_row, placed_rows}

module _ (t places : List ℕ) (i : ℕ) {k : ℕ} (e : k ≡ cell_at t i column.CODE) where
  pub placed_other : (k ≡ code.RULE → ⊥) → places ≡ placed_row t places i
  unfolding placed_row
  placed_other h = rw (← e, ne_eqb k code.RULE h)

  module _ (h : k ≡ code.RULE) {rule : ℕ} (f : rule ≡ cell_at t i column.OWN) where
    pub placed_rule : set places rule i ≡ placed_row t places i
    unfolding placed_row
    placed_rule = rw (← e, ← f, h)

    pub placed_past : length places ≤ rule → places ≡ placed_row t places i
    placed_past l = sym (set_out places rule i l) ∙ placed_rule

pub length_placed : (t places : List ℕ) (i : ℕ) → length (placed_row t places i) ≡ length places
unfolding placed_row
length_placed t places i = go (eqb (cell_at t i column.CODE) code.RULE)
  where
    go : (b : Bool) → length (cond b (set places (cell_at t i column.OWN) i) places) ≡ length places
    go true = length-set places (cell_at t i column.OWN) i
    go false = refl

-- ---- the loop: placing the rows from i on comes to the same

module _ (t : List ℕ) (n : ℕ) where
  pub record Placing (places₀ places : List ℕ) (i : ℕ) : Type 0 where
    pub inside : i ≤ n
    pub size : length places ≡ length places₀
    pub same : placed_rows t places i (n - i) ≡ placed_rows t places₀ 0 n

  pub placing_start : (places : List ℕ) → Placing places places 0
  placing_start places =
      let e : n - 0 ≡ n = omega arith in
      record { inside = omega arith; size = refl; same = ap (placed_rows t places 0) e }

  module _ {places₀ places : List ℕ} {i : ℕ} (v : Placing places₀ places i) where
    on : i < n → placed_rows t places i (n - i) ≡ placed_rows t (placed_row t places i) (suc i) (n - suc i)
    unfolding placed_rows
    on h = let e : n - i ≡ suc (n - suc i) = omega arith in ap (placed_rows t places i) e

    pub placing_next : {places' : List ℕ} → i < n → places' ≡ placed_row t places i → Placing places₀ places' (i + 1)
    placing_next {places'} h e =
        record {
          inside = omega arith;
          size = ap length e ∙ length_placed t places i ∙ v.size;
          same = ap₂ (λ (p : List ℕ) (j : ℕ). placed_rows t p j (n - j)) e (add-one i) ∙ sym (on h) ∙ v.same;
        }

    pub placing_end : n ≤ i → places ≡ placed_rows t places₀ 0 n
    unfolding placed_rows
    placing_end h = let e : n - i ≡ 0 = omega arith in sym (ap (placed_rows t places i) e) ∙ v.same
