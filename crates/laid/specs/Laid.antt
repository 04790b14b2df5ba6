-- The rows of statements in a table.
-- Assumes nothing.
use Rattle.std.specs.Prelude.{ℕ, suc, ◌≤◌, ◌<◌, ◌≡◌, true, false, List}
use Rattle.rows.specs.Codes as code
use Rattle.rows.specs.Codes.{is_expression}
use Rattle.rows.specs.Columns as column
use Rattle.rows.specs.Table.{row_at, cell_at}
use Rattle.ll1.specs.Trees.{Trees}
use Rattle.grammar.specs.Parts.{child, place_at}
use Rattle.answers.specs.Expression.{Expression}
use Rattle.laid.specs.Spans.{Spans}
use Rattle.laid.specs.Items.{Inner, plain, expressed, Items, done, item}
use Rattle.laid.specs.Statements.{items_of}

module _ (t : List ℕ) (count : ℕ) where
  -- the rows from i to before j are parts of expressions, and the next one of the first `count` is none
  pub record Stretch (i j : ℕ) : Type 0 where
    pub up : i ≤ j
    pub within : (k : ℕ) → i ≤ k → k < j → is_expression (cell_at t k column.CODE) ≡ true
    pub ends : j < count → is_expression (cell_at t j column.CODE) ≡ false
    pub below : i ≤ count → j ≤ count

  -- row n, if it is one of the first `count`, does not stand in the row `parent`
  pub record Stops (parent n : ℕ) : Type 0 where
    pub apart : n < count → cell_at t n column.PARENT ≡ parent → ⊥

  -- `found` gives the row of a place
  module _ (found : ℕ → List ℕ) where
    -- the rows from i to before j are those of what stands in a statement
    pub data Inside : ℕ → Inner → ℕ → Type 0 where
      inside_plain : {i : ℕ} → Inside i plain i
      inside_expressed : {i j : ℕ} {e : Expression} → Spans found t i e j → Inside i (expressed e) j

    -- the rows from i to before m are those of the items, which stand in the row `parent`
    pub data Laid : ℕ → ℕ → Items → ℕ → Type 0 where
      laid_done : {parent i : ℕ} → Laid parent i done i
      laid_item :
          {parent i j k m p : ℕ} {inner : Inner} {within later : Items}
          → row_at t i ≡ found p → cell_at t i column.PARENT ≡ parent → i < count
          → Stretch (suc i) j → Inside (suc i) inner j
          → Laid i j within k → Stops i k
          → Laid parent k later m
          → Laid parent i (item p inner within later) m

    -- the first `count` rows are those of a derivation's tree: row 0 is the form set's, found at its first token, and from row 1 on to the last one
    -- follow the statements in it
    pub record FormSetLaid (tree : Trees) : Type 0 where
      pub row : row_at t 0 ≡ found (place_at 0 (child 0 tree))
      pub kind : cell_at t 0 column.CODE ≡ code.FORM_SET
      pub forms : Laid 0 1 (items_of tree done) count
