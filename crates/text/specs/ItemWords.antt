-- The words that statements are printed as (document 01, Resolved text).
-- Assumes nothing.
use Rattle.std.specs.Prelude.{ℕ, List, [], ◌++◌, get_or}
use Rattle.rows.specs.Columns as column
use Rattle.answers.specs.Text.{Word, opening, printed}
use Rattle.statements.specs.Statements.{closing, expression_end}
use Rattle.laid.specs.Items.{Inner, plain, expressed, Items, done, item}

-- `found` gives the row of a place
module _ (found : ℕ → List ℕ) where
  abbrev pub code_at : ℕ → ℕ
  code_at p = get_or (found p) column.CODE 0

  -- k is the statement's code
  unfoldable pub inner_words : ℕ → Inner → List Word
  inner_words k plain = []
  inner_words k (expressed e) = printed found 0 e ++ expression_end k

  unfoldable pub item_words : Items → List Word
  item_words done = []
  item_words (item p i within later) =
      (opening (found p) ++ inner_words (code_at p) i) ++ (item_words within ++ (closing (code_at p) ++ item_words later))
