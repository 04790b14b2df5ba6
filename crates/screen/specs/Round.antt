-- Where statements stand in a screen, and which conditions are round a row: "some `suppressif` or `disableif` round it" (document 02, W-202).
-- Rows count from the screen's first, from 0.
-- Assumes nothing.
use Rattle.std.specs.Prelude.{ℕ, suc, ◌+◌, ◌≤◌, ◌<◌, ◌≡◌, Bool, true}
use Rattle.std.proofs.Math.Option.{Option, some}
use Rattle.operators.specs.declared.Scalar.{Scalar}
use Rattle.operators.specs.declared.Scalar.TheVariants.{Boolean}
use Rattle.formulas.specs.Formula.{Formula}
use Rattle.meaning.specs.Meaning.{meaning}
use Rattle.screen.specs.Kinds.{is_item}
use Rattle.screen.specs.Screen.{Screen, done, statement}
use Rattle.screen.specs.Bytes.{expression_rows}

-- ---- where statements stand

-- how many rows a statement has before those in it: its own and those of its expression
abbrev pub own_rows : Option Formula → ℕ
own_rows e = suc (expression_rows e)

-- how many rows statements have
unfoldable pub size : Screen → ℕ
size done = 0
size (statement k e within later) = own_rows e + (size within + size later)

-- a statement of this code, with this expression and these statements in it, stands at a row of a screen
pub data Stands (code : ℕ) (e : Option Formula) (inner : Screen) : (row : ℕ) → Screen → Type 0 where
  -- it is the first
  first : {later : Screen} → Stands code e inner 0 (statement code e inner later)
  -- it stands in the first one, f being that one's expression
  in_it :
      {row at k : ℕ} {f : Option Formula} {within later : Screen}
      → Stands code e inner at within → row ≡ own_rows f + at
      → Stands code e inner row (statement k f within later)
  -- it comes after the first one
  after_it :
      {row at k : ℕ} {f : Option Formula} {within later : Screen}
      → Stands code e inner at later → row ≡ own_rows f + (size within + at)
      → Stands code e inner row (statement k f within later)

-- ---- items, and the conditions round them

-- "each item that is no condition"
pub record ItemAt (row : ℕ) (s : Screen) : Type 0 where
  pub code : ℕ
  pub expression : Option Formula
  pub inner : Screen
  pub stands : Stands code expression inner row s
  pub item : is_item code ≡ true

-- a condition is round a row, if the row is one of those of the statements in it
pub record Round (code : ℕ) (condition : Formula) (row : ℕ) (s : Screen) : Type 0 where
  pub at : ℕ
  pub inner : Screen
  pub stands : Stands code (some condition) inner at s
  pub starts : at + own_rows (some condition) ≤ row
  pub ends : row < at + own_rows (some condition) + size inner

module _ (questions rules : ℕ → Scalar) where
  -- "some .. round it is TRUE": some condition of a kind, by its code
  pub record SomeTrue (kind : ℕ → Bool) (row : ℕ) (s : Screen) : Type 0 where
    pub code : ℕ
    pub condition : Formula
    pub is : kind code ≡ true
    pub round : Round code condition row s
    pub holds : meaning questions rules condition ≡ Boolean true

-- ---- all expressions of a screen

-- what holds of every expression of it
abbrev pub EachExpression : (Formula → Type 0) → Screen → Type 0
EachExpression P s = (code row : ℕ) (e : Formula) (inner : Screen) → Stands code (some e) inner row s → P e
