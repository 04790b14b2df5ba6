-- Rows that are not finished, as they stand in a table while a source is read: the marks of a row in the upper halves of three cells.
-- Assumes nothing.
use Rattle.std.specs.Prelude.{ℕ, zero, suc, ◌+◌, List, [], ◌∷◌, get_or, set}
use Rattle.rows.specs.Columns as column
use Rattle.rows.specs.Draft.{low_of, mark_of, with_mark}
use Rattle.rows.specs.Table.{row_at}
use Rattle.answers.specs.Rows.{Draft}

-- the cells of a row with its marks
unfoldable pub encoded : Draft → List ℕ
encoded d =
    let r = d.row in
    set (set (set r column.FIRST (with_mark (get_or r column.FIRST 0) d.own_at)) column.SECOND (with_mark (get_or r column.SECOND 0) d.limit_at)) column.FLAGS (with_mark (get_or r column.FLAGS 0) d.default_at)

-- and back
unfoldable pub decoded : List ℕ → Draft
decoded r =
    record {
      row = set (set (set r column.FIRST (low_of (get_or r column.FIRST 0))) column.SECOND (low_of (get_or r column.SECOND 0))) column.FLAGS (low_of (get_or r column.FLAGS 0));
      own_at = mark_of (get_or r column.FIRST 0);
      limit_at = mark_of (get_or r column.SECOND 0);
      default_at = mark_of (get_or r column.FLAGS 0);
    }

-- the n rows of a table from row i on
unfoldable pub drafts_from : List ℕ → ℕ → ℕ → List Draft
drafts_from t i zero = []
drafts_from t i (suc n) = decoded (row_at t i) ∷ drafts_from t (i + 1) n
