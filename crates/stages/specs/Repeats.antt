-- Stages 7 and 8 by a map of the numbers seen (document 01, "Refusal numbers", No. 7 and 8).
use Rattle.std.specs.Prelude.{ℕ, Bool, true, false, cond, List, [], ◌∷◌}
use Rattle.numbers.specs.Numbers.{used, with_used}
use Rattle.rows.specs.Codes as code
use Rattle.rows.specs.Columns as column
use Rattle.answers.specs.Rows.{Draft}
use Rattle.answers.specs.Stages.{cell, is, asks}

-- the number of a form, or the number that a question writes; 0 where a row has none
abbrev pub number_of : Bool → Draft → ℕ
number_of true d = cond (is code.FORM d) (cell column.OWN d) 0
number_of false d = cond (asks d) (cell column.OWN d) 0

abbrev pub form_number : Draft → ℕ
form_number d = number_of true d

abbrev pub written_number : Draft → ℕ
written_number d = number_of false d

module _ (number : Draft → ℕ) where
  -- the mark of the first row whose number the map or a row before has, 0 where there is none
  unfoldable pub repeated_mark : List ℕ → List Draft → ℕ
  repeated_mark words [] = 0
  repeated_mark words (d ∷ ds) = let later = repeated_mark (with_used words (number d)) ds in cond (used words (number d)) d.own_at later

  -- the map with the numbers of the rows before it
  unfoldable pub map_after : List ℕ → List Draft → List ℕ
  map_after words [] = words
  map_after words (d ∷ ds) = let later = map_after (with_used words (number d)) ds in cond (used words (number d)) words later
