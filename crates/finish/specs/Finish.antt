-- From draft rows to finished rows, row by row (document 01, "Rows").
use Rattle.std.specs.Prelude.{ℕ, ◌-◌, ◌≤◌, ◌≡◌, Bool, cond, ◌||◌, List, [], ◌∷◌, map, eqb, length, get_or, set, drop}
use Rattle.numbers.specs.Numbers.{given}
use Rattle.rows.specs.Codes as code
use Rattle.rows.specs.Codes.{is_question}
use Rattle.rows.specs.Columns as column
use Rattle.rows.specs.Draft.{low_of}
use Rattle.rows.specs.Table.{cell_at, whole_rows}
use Rattle.rows.specs.Rows.{rows_from, put}
use Rattle.answers.specs.Rows.{Draft}
use Rattle.answers.specs.Drafts.{encoded, decoded}
use Rattle.drafts.specs.Fits.{AllFit}
use Rattle.names.specs.Names.{find_in}

-- a question's row
abbrev pub is_question_row : List ℕ → Bool
is_question_row r = is_question (get_or r column.CODE 0)

-- the questions' own numbers, 0 where none is written
unfoldable pub owns_in : List (List ℕ) → List ℕ
owns_in [] = []
owns_in (r ∷ rs) = let more = owns_in rs in cond (is_question_row r) (get_or r column.OWN 0 ∷ more) more

-- each question with its number of the list
unfoldable pub with_owns : List ℕ → List (List ℕ) → List (List ℕ)
with_owns ns [] = []
with_owns ns (r ∷ rs) = cond (is_question_row r) (set r column.OWN (get_or ns 0 0) ∷ with_owns (drop 1 ns) rs) (r ∷ with_owns ns rs)

-- a row with the lower half of one cell
abbrev pub halved : ℕ → List ℕ → List ℕ
halved c r = set r c (low_of (get_or r c 0))

-- a row without its marks
abbrev pub stripped : List ℕ → List ℕ
stripped r = (decoded r).row

-- a reference's row
abbrev pub is_reference_row : List ℕ → Bool
is_reference_row r = eqb (get_or r column.CODE 0) code.QUESTION_REF || eqb (get_or r column.CODE 0) code.RULE_REF

-- by the source s, the index es of its names and the table t: the number that a reference's row finds, a written one, or the own
-- number of the question or rule that declares the name; 0 where there is none
unfoldable pub number_found : List ℕ → List ℕ → List ℕ → List ℕ → ℕ
number_found s es t r =
    let at = find_in s es (decoded r).own_at (eqb (get_or r column.CODE 0) code.RULE_REF) in
    cond (eqb (get_or r column.A 0) 0) (cond (eqb at 0) 0 (cell_at t (at - 1) column.OWN)) (get_or r column.A 0)

-- each reference with the number that it finds
unfoldable pub resolved : List ℕ → List ℕ → List ℕ → List ℕ → List ℕ
resolved s es t r = cond (is_reference_row r) (set r column.A (number_found s es t r)) r

-- ---- settling a table t whose first n rows are draft rows

-- its questions numbered, where the map ws has the written numbers
abbrev pub table_numbered : List ℕ → List ℕ → ℕ → List ℕ
table_numbered ws t n = put t 0 (with_owns (given ws 1 (owns_in (rows_from t 0 n))) (rows_from t 0 n))

-- its references with the numbers that they find, by the source s and the index es of its names
abbrev pub table_resolved : List ℕ → List ℕ → List ℕ → ℕ → List ℕ
table_resolved s es t n = put t 0 (map (resolved s es t) (rows_from t 0 n))

-- both, one after the other
unfoldable pub table_settled : List ℕ → List ℕ → List ℕ → List ℕ → ℕ → List ℕ
table_settled s es ws t n = table_resolved s es (table_numbered ws t n) n

-- the first rows of the table t are the drafts ds, with their marks
pub record DraftsIn (t : List ℕ) (ds : List Draft) : Type 0 where
  pub fit : AllFit ds
  pub room : length ds ≤ whole_rows t
  pub held : rows_from t 0 (length ds) ≡ map encoded ds
