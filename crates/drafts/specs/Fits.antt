-- Rows that a table can hold with their marks.
use Rattle.std.specs.Prelude.{◌<◌, ◌≡◌, List, [], ◌∷◌, length}
use Rattle.rows.specs.Columns as column
use Rattle.rows.specs.Draft.{HALF}
use Rattle.answers.specs.Rows.{Draft}
use Rattle.answers.specs.Stages.{cell}

-- it has all columns of a row; what shares a cell with a mark, and the marks, fit half a cell
pub record FitsCells (d : Draft) : Type 0 where
  pub whole : length d.row ≡ column.ROW
  pub first : cell column.FIRST d < HALF
  pub second : cell column.SECOND d < HALF
  pub flags : cell column.FLAGS d < HALF
  pub own_mark : d.own_at < HALF
  pub limit_mark : d.limit_at < HALF
  pub default_mark : d.default_at < HALF

pub data AllFit : List Draft → Type 0 where
  none_fit : AllFit []
  add_fit : {d : Draft} {ds : List Draft} → FitsCells d → AllFit ds → AllFit (d ∷ ds)
