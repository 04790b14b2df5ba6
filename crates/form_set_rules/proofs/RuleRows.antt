-- The rows of a table as those of statements, among which are the rules of a form set.
-- Assumes nothing.
use Prim.Native.Nat.{ℕ, suc, ◌<◌}
use native.Mathlib.Omega.{arith}
use mathlib.Core.Path.{◌≡◌}
use mathlib.Core.Logic.{◌≢◌}
use mathlib.Core.Bool.{false}
use mathlib.Core.List.{List, [], ◌∷◌}
use Rattle.rows.specs.Codes as code
use Rattle.rows.specs.Codes.{is_expression}
use Rattle.rows.specs.Columns as column
use Rattle.rows.specs.Table.{cell_at}
use Rattle.laid.specs.Laid.{Stretch}
use Rattle.formulas.specs.Formula.{Formula}
use Rattle.evaluate.specs.Spells.{Spells}

module _ (t : List ℕ) (count : ℕ) where
  -- row i is a statement's, and up to before j follow the rows of the expression that stands in it, if one does
  pub record Statement (i j : ℕ) : Type 0 where
    pub inside : i < count
    pub plain : is_expression (cell_at t i column.CODE) ≡ false
    pub stretch : Stretch t count (suc i) j
    pub within : (k : ℕ) → i < k → k < j → cell_at t k column.PARENT ≡ i

  -- from row i on to the last of the first `count` follow statements; the rules among them, before which there are n others, have these expressions
  pub data RuleRows : ℕ → ℕ → List Formula → Type 0 where
    no_rows : {n : ℕ} → RuleRows count n []
    other_row :
        {i j n : ℕ} {rules : List Formula}
        → Statement i j → cell_at t i column.CODE ≢ code.RULE
        → RuleRows j n rules → RuleRows i n rules
    rule_row :
        {i j n : ℕ} {e : Formula} {rules : List Formula}
        → Statement i j → cell_at t i column.CODE ≡ code.RULE → cell_at t i column.OWN ≡ suc n → Spells t (suc i) e j
        → RuleRows j (suc n) rules → RuleRows i n (e ∷ rules)

  pub first_plain : {i n : ℕ} {rules : List Formula} → RuleRows i n rules → i < count → is_expression (cell_at t i column.CODE) ≡ false
  first_plain no_rows h = absurd (omega arith)
  first_plain (other_row s k r) h = s.plain
  first_plain (rule_row s k o e r) h = s.plain
