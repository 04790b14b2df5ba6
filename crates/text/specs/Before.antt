-- An expression printed from its end: where the printer then stands.
-- Assumes nothing.
use Rattle.std.specs.Prelude.{ℕ, ◌+◌, ◌≤◌, ◌≡◌, List, length}
use Rattle.answers.specs.Expression.{Expression}
use Rattle.answers.specs.Text.{Word, printed, text_of}
use Rattle.spellings.specs.declared.output.Output.{Output}
use Rattle.spellings.specs.Output.{MOST, Prints, PrintsBefore}
use Rattle.laid.specs.Spans.{Spans}

-- words after those of an output, where all their bytes are counted
pub record PrintsCounted (o : Output) (ws : List Word) (o' : Output) : Type 0 where
  pub prints : o.at + length (text_of ws) ≤ MOST → Prints o.bytes.now o.at ws o'.bytes.now o'.at

-- whatever expression ends before the row `end`, with parentheses round an operator of a level looser than the least; its first row is r
pub record ExpressionBefore (t : List ℕ) (end least : ℕ) (o o' : Output) (r : ℕ) : Type 0 where
  pub prints : (found : ℕ → List ℕ) (first : ℕ) (e : Expression) → Spans found t first e end
      → PrintsBefore o.bytes.now o.at (printed found least e) o'.bytes.now o'.at × (r ≡ first)
  pub lent : o'.bytes.ghost_name ≡ o.bytes.ghost_name
  pub fewer : r ≤ end

-- the bytes of an expression that ends before the row `end`
pub record ExpressionCounted (t : List ℕ) (end n : ℕ) : Type 0 where
  pub counts : (found : ℕ → List ℕ) (first : ℕ) (e : Expression) → Spans found t first e end
      → length (text_of (printed found 0 e)) ≤ MOST → n ≡ length (text_of (printed found 0 e))

pub record ExpressionPrinted (t : List ℕ) (end : ℕ) (o o' : Output) : Type 0 where
  pub prints : (found : ℕ → List ℕ) (first : ℕ) (e : Expression) → Spans found t first e end → PrintsCounted o (printed found 0 e) o'
  pub lent : o'.bytes.ghost_name ≡ o.bytes.ghost_name
