-- What the steps of reading a family start from and end with.
-- Assumes nothing.
use Rattle.std.specs.Prelude.{ℕ, ◌-◌, ◌/◌, ◌≤◌, ◌≡◌, false, List, ◌++◌, length, replicate}
use Rattle.rows.specs.Table.{whole_rows}
use Rattle.rows.specs.Rows.{rows_from, laid}
use Rattle.family.specs.Family.{WORDS, Member, bad_ends, all_rows, all_words}

-- a table of so many rows and then zeros
pub record Free (t : List ℕ) (rows : ℕ) : Type 0 where
  pub room : rows ≤ whole_rows t
  pub held : t ≡ laid (rows_from t 0 rows) (length t)

-- good ends of a buffer, answers lent for all sources, and nothing written yet
pub record Blank (buffer ends t a : List ℕ) : Type 0 where
  pub good : bad_ends 0 ends (length buffer) ≡ false
  pub enough : length ends ≤ length a / WORDS
  pub table : t ≡ replicate (length t) 0
  pub answers : a ≡ replicate (length a) 0

-- all sources are read, so: how many rows there are, and table and answers then
pub record Written (all : List Member) (n m rows : ℕ) (t' a' : List ℕ) : Type 0 where
  pub counted : rows ≡ length (all_rows all)
  pub table : t' ≡ laid (all_rows all) n
  pub answers : a' ≡ all_words all ++ replicate (m - length (all_words all)) 0
