-- The first fault that a stage finds among draft rows (document 01, "Refusal numbers": the earliest token).
use Rattle.std.specs.Prelude.{ℕ, cond, List, [], ◌∷◌, eqb}
use Rattle.rows.specs.Table.{row_at}
use Rattle.answers.specs.Rows.{Draft}
use Rattle.answers.specs.Drafts.{decoded}

-- the draft that row i of a table holds
abbrev pub draft_at : List ℕ → ℕ → Draft
draft_at t i = decoded (row_at t i)

-- the first mark at fault, 0 where there is none; a row's mark is told by the row and those after it, 0 where it has no fault
unfoldable pub first_fault : (Draft → List Draft → ℕ) → List Draft → ℕ
first_fault fault [] = 0
first_fault fault (d ∷ ds) = let later = first_fault fault ds in cond (eqb (fault d ds) 0) later (fault d ds)

-- a mark that the row alone tells
abbrev pub alone : (Draft → ℕ) → Draft → List Draft → ℕ
alone fault d ds = fault d
