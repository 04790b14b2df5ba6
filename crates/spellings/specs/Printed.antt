-- An output with the count of its bytes: what a printer adds to it. The bytes that were lent stay those that are written.
-- Assumes nothing.
use Rattle.std.specs.Prelude.{ℕ, ◌≡◌, List}
use Rattle.answers.specs.Text.{Word}
use Rattle.spellings.specs.declared.output.Output.{Output}
use Rattle.spellings.specs.Output.{Puts, PutsBefore, Prints, PrintsBefore}

-- bytes bs after those of the output o, which then is o'
pub record Written (o : Output) (bs : List ℕ) (o' : Output) : Type 0 where
  pub puts : Puts o.bytes.now o.at bs o'.bytes.now o'.at
  pub lent : o'.bytes.ghost_name ≡ o.bytes.ghost_name

-- words after them
pub record Printed (o : Output) (ws : List Word) (o' : Output) : Type 0 where
  pub prints : Prints o.bytes.now o.at ws o'.bytes.now o'.at
  pub lent : o'.bytes.ghost_name ≡ o.bytes.ghost_name

-- bytes, or words, before those of an output that is written from its end
pub record WrittenBefore (o : Output) (bs : List ℕ) (o' : Output) : Type 0 where
  pub puts : PutsBefore o.bytes.now o.at bs o'.bytes.now o'.at
  pub lent : o'.bytes.ghost_name ≡ o.bytes.ghost_name

pub record PrintedBefore (o : Output) (ws : List Word) (o' : Output) : Type 0 where
  pub prints : PrintsBefore o.bytes.now o.at ws o'.bytes.now o'.at
  pub lent : o'.bytes.ghost_name ≡ o.bytes.ghost_name
