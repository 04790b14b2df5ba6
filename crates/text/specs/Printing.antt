-- Statements printed from their rows: where the printer then stands.
-- Assumes nothing.
use Rattle.std.specs.Prelude.{ℕ, suc, ◌≤◌, ◌<◌, ◌≡◌, List, ◌++◌}
use Rattle.rows.specs.Codes as code
use Rattle.rows.specs.Table.{row_at}
use Rattle.answers.specs.Text.{opening}
use Rattle.spellings.specs.declared.output.Output.{Output}
use Rattle.statements.specs.Statements.{closing}
use Rattle.laid.specs.Items.{Inner, Items}
use Rattle.laid.specs.Laid.{Stretch, Stops, Inside, Laid}
use Rattle.text.specs.Before.{PrintsCounted}
use Rattle.text.specs.ItemWords.{code_at, inner_words, item_words}

-- whatever statement a row stands for, up to those in it; r is the row after its expression's
pub record Opened (t : List ℕ) (count row : ℕ) (o o' : Output) (r : ℕ) : Type 0 where
  pub prints : (found : ℕ → List ℕ) (place : ℕ) (inner : Inner) (j : ℕ)
      → row_at t row ≡ found place → Stretch t count (suc row) j → Inside t count found (suc row) inner j
      → PrintsCounted o (opening (found place) ++ inner_words found (code_at found place) inner) o' × (r ≡ j)
  pub lent : o'.bytes.ghost_name ≡ o.bytes.ghost_name
  pub more : row < r

-- whatever items the rows from a row on are, which stand in the row `parent`; r is the row after them
pub record ItemsPrinted (t : List ℕ) (count parent row : ℕ) (o o' : Output) (r : ℕ) : Type 0 where
  pub prints : (found : ℕ → List ℕ) (items : Items) (m : ℕ) → Laid t count found parent row items m → Stops t count parent m
      → PrintsCounted o (item_words found items) o' × (r ≡ m)
  pub lent : o'.bytes.ghost_name ≡ o.bytes.ghost_name
  pub more : row ≤ r

-- whatever form set the first rows are
pub record TextPrinted (t : List ℕ) (count : ℕ) (o o' : Output) : Type 0 where
  pub prints : (found : ℕ → List ℕ) (place : ℕ) (forms : Items) (m : ℕ) → row_at t 0 ≡ found place → Laid t count found 0 1 forms m → Stops t count 0 m
      → PrintsCounted o (opening (found place) ++ (item_words found forms ++ closing code.FORM_SET)) o'
  pub lent : o'.bytes.ghost_name ≡ o.bytes.ghost_name
