-- The own numbers of rows of a sort, and numbers that count on from one another (document 01, Rows: "rules count from 1").
-- Assumes nothing.
use Rattle.std.specs.Prelude.{List, [], ◌∷◌, Bool, cond, ◌&&◌, ℕ, suc, eqb}
use Rattle.rows.specs.Codes as code
use Rattle.rows.specs.Columns as column
use Rattle.answers.specs.Rows.{Draft}
use Rattle.answers.specs.Stages.{cell, is}

-- the own numbers of the rows that pass a test, in order
unfoldable pub owns_of : (Draft → Bool) → List Draft → List ℕ
owns_of p [] = []
owns_of p (d ∷ ds) = let more = owns_of p ds in cond (p d) (cell column.OWN d ∷ more) more

abbrev pub rule_numbers : List Draft → List ℕ
rule_numbers ds = owns_of (is code.RULE) ds

-- a rule of the form in this row, a rule's parent being its form (document 02, W-203)
abbrev pub rule_of : ℕ → Draft → Bool
rule_of form e = is code.RULE e && eqb (cell column.PARENT e) form

-- the numbers after one, up to another
pub data From : ℕ → List ℕ → ℕ → Type 0 where
  at_end : {n : ℕ} → From n [] n
  one_more : {n m : ℕ} {l : List ℕ} → From (suc n) l m → From n (suc n ∷ l) m
