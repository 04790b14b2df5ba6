-- What reading has made sure of draft rows once stage 5 is passed, and what it means that a stage answers its first fault.
use Rattle.std.specs.Prelude.{ℕ, ◌+◌, ◌≤◌, ◌<◌, ◌≡◌, true, cond, ◌||◌, List, [], ◌∷◌, ltb, length}
use Rattle.numbers.specs.Numbers.{number_limit, is_number}
use Rattle.rows.specs.Codes as code
use Rattle.rows.specs.Columns as column
use Rattle.rows.specs.Draft.{HALF}
use Rattle.answers.specs.Rows.{Draft}
use Rattle.answers.specs.Stages.{cell, is, asks}

-- marks and row numbers lie below it: a source has at most 65,536 bytes, and a row takes one of them at least
abbrev pub MARKS : ℕ
MARKS = 131072

-- a row of which every number is in its place
pub record SoundRow (d : Draft) : Type 0 where
  -- it has all columns of a row; those that hold a mark too, and the marks, fit half a cell
  pub whole : length d.row ≡ column.ROW
  pub first : cell column.FIRST d < HALF
  pub second : cell column.SECOND d < HALF
  pub flags : cell column.FLAGS d < HALF
  pub own_mark : d.own_at < HALF
  pub limit_mark : d.limit_at < HALF
  pub default_mark : d.default_at < HALF
  pub place : cell column.PLACE d < HALF
  pub name_mark : cell column.NAME d < MARKS
  -- a form has a number; a question has one exactly where one is written
  pub form : is code.FORM d ≡ true → is_number (cell column.OWN d) ≡ true
  pub form_mark : is code.FORM d ≡ true → 0 < d.own_at
  pub question : asks d ≡ true → cell column.OWN d < number_limit
  pub question_mark : asks d ≡ true → ltb 0 (cell column.OWN d) ≡ ltb 0 d.own_at
  -- what a goto, a numeric or an option and a reference name is written; a ruleref names no number
  pub limit_written : (is code.GOTO d || is code.NUMERIC d || is code.OPTION d) ≡ true → 0 < d.limit_at
  pub reference : (is code.QUESTION_REF d || is code.RULE_REF d) ≡ true → 0 < d.own_at
  pub rule_name : is code.RULE_REF d ≡ true → cell column.A d ≡ 0
  -- questions and rules declare names
  pub name : 0 < cell column.NAME d → (asks d || is code.RULE d) ≡ true

pub data AllSound : List Draft → Type 0 where
  no_rows : AllSound []
  add_row : {d : Draft} {ds : List Draft} → SoundRow d → AllSound ds → AllSound (d ∷ ds)

-- the oneof that an option after row i would belong to: row i, or the oneof of the option in row i; 0 for none
abbrev pub owner_after : ℕ → ℕ → Draft → ℕ
owner_after i owner d = cond (is code.ONE_OF d) i (cond (is code.OPTION d) owner 0)

-- from row i on, every option stands after its oneof with nothing but options between
abbrev pub OptionsFollow : ℕ → ℕ → List Draft → Type 0
OptionsFollow i owner [] = Unit {0}
OptionsFollow i owner (d ∷ ds) = (is code.OPTION d ≡ true → (0 < owner) × (cell column.PARENT d ≡ owner)) × OptionsFollow (i + 1) (owner_after i owner d) ds

pub record SoundRows (ds : List Draft) : Type 0 where
  pub each : AllSound ds
  pub few : length ds ≤ MARKS
  pub options : OptionsFollow 0 0 ds

-- m is the first of the marks at fault, 0 where there are none
pub data First : ℕ → List ℕ → Type 0 where
  none : First 0 []
  some : {m : ℕ} {ms : List ℕ} → 0 < m → First m (m ∷ ms)
