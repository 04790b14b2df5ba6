-- What it takes for the values that are found to be the rules' values: each rule's rows spell its expression, and it comes after those that it
-- refers to. Assumes nothing.
use Rattle.std.specs.Prelude.{ℕ, suc, ◌≤◌, ◌<◌, ◌≡◌, true, List, length, get_or}
use Rattle.numbers.specs.Numbers.{mem}
use Rattle.formulas.specs.Formula.{Formula}
use Rattle.formulas.specs.Need.{need}
use Rattle.laid.specs.Laid.{Stretch}
use Rattle.meaning.specs.References.{references}
use Rattle.meaning.specs.Rules.{rule_at}
use Rattle.evaluate.specs.Machine.{ROOM}
use Rattle.evaluate.specs.Spells.{Spells}

-- the expression of rule k follows its row, which is one of the first `count`
pub record Placed (rules : List Formula) (t : List ℕ) (count : ℕ) (places : List ℕ) (k : ℕ) : Type 0 where
  pub end : ℕ
  pub inside : get_or places k 0 < count
  pub stretch : Stretch t count (suc (get_or places k 0)) end
  pub spells : Spells t (suc (get_or places k 0)) (rule_at rules k) end
  pub small : need (rule_at rules k) ≤ ROOM

-- every rule that the rule at a place of the order refers to stands at an earlier place
abbrev pub Ordered : List Formula → List ℕ → Type 0
Ordered rules order =
    (i m : ℕ) → i < length order → mem m (references (rule_at rules (get_or order i 0))) ≡ true → (j : ℕ) × (j < i) × (get_or order j 0 ≡ m)
