-- One element of a phrase: where the printer stands after it.
-- Assumes nothing.
use Rattle.std.specs.Prelude.{ℕ, ◌<◌, ◌≡◌, List, ◌++◌, drop}
use Rattle.answers.specs.Text.{Word}
use Rattle.print.specs.declared.phrase.Progress.{Progress}
use Rattle.spellings.specs.declared.output.Output.{Output}
use Rattle.spellings.specs.Printed.{Printed}
use Rattle.print.specs.Phrase.{shown_in, element_in, phrase_from}

-- the words that are left of a phrase of the row r
unfoldable pub left_of : List ℕ → List ℕ → List ℕ → Progress → List Word
left_of sources r pattern p = phrase_from (shown_in r) (element_in sources r) (drop p.next pattern) 0 p.passed

-- some of them are printed
pub record Stepped (sources r pattern : List ℕ) (o : Output) (p : Progress) (o' : Output) (q : Progress) : Type 0 where
  pub added : List Word
  pub prints : Printed o added o'
  pub left : left_of sources r pattern p ≡ added ++ left_of sources r pattern q
  pub further : p.next < q.next

-- the elements of a group are printed or left out
pub record Entered (r pattern : List ℕ) (p q : Progress) : Type 0 where
  pub steps : (sources : List ℕ) (o : Output) → Stepped sources r pattern o p o q
