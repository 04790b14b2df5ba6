-- Statements without their places: what of a source decides which items are hidden or grey (document 02, W-202).
-- Assumes nothing.
use Rattle.std.specs.Prelude.{ℕ, List, get_or}
use Rattle.std.proofs.Math.Option.{Option, none, some}
use Rattle.rows.specs.Codes as code
use Rattle.rows.specs.Columns as column
use Rattle.ll1.specs.Trees.{Trees}
use Rattle.formulas.specs.Formula.{Formula, formula}
use Rattle.laid.specs.Items.{Inner, plain, expressed, Items}
use Rattle.laid.specs.Items as items
use Rattle.laid.specs.Statements.{items_of}

-- statements beside one another: the first one's code, its expression if it is a condition or a rule, the statements in it, and those after it
pub data Screen : Type 0 where
  done : Screen
  statement : (code : ℕ) (expression : Option Formula) (within later : Screen) → Screen

-- `found` gives the row of a place
module _ (found : ℕ → List ℕ) where
  abbrev pub expression_of : Inner → Option Formula
  expression_of plain = none
  expression_of (expressed e) = some (formula found e)

  unfoldable pub screen_of : Items → Screen
  screen_of items.done = done
  screen_of (items.item p inner within later) = statement (get_or (found p) column.CODE 0) (expression_of inner) (screen_of within) (screen_of later)

  -- the screen of a source, by its derivation's tree: the form set, and the statements in it
  unfoldable pub source_screen : Trees → Screen
  source_screen tree = statement code.FORM_SET none (screen_of (items_of tree items.done)) done
