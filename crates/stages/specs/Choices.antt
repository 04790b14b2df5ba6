-- Stage 12 row by row (document 01, "Refusal numbers", No. 12).
use Rattle.std.specs.Prelude.{ℕ, Bool, cond, ◌&&◌, List, [], ◌∷◌, eqb, ltb}
use Rattle.rows.specs.Codes as code
use Rattle.rows.specs.Columns as column
use Rattle.answers.specs.Rows.{Draft}
use Rattle.answers.specs.Stages.{cell, is, any, below, outside}

-- of a numeric: maximum below minimum; default outside them
unfoldable pub limits_fault : Draft → ℕ
limits_fault d = cond (below d (cell column.B d) (cell column.A d)) d.limit_at (cond (outside d) d.default_at 0)

-- the options at the start of rows
unfoldable pub leading : List Draft → List Draft
leading [] = []
leading (d ∷ ds) = let more = d ∷ leading ds in cond (is code.OPTION d) more []

-- an option marked DEFAULT
abbrev pub is_default : Draft → Bool
is_default d = ltb 0 d.default_at

-- the first option whose value or DEFAULT one of those before has
unfoldable pub option_fault : List Draft → List Draft → ℕ
option_fault before [] = 0
option_fault before (d ∷ ds) =
    let later = option_fault (d ∷ before) ds in
    cond (any (λ e. eqb (cell column.A e) (cell column.A d)) before) d.limit_at
    (cond (is_default d && any is_default before) d.default_at later)

-- of a row and those after it, which start with its options where it is a oneof
unfoldable pub choice_fault : Draft → List Draft → ℕ
choice_fault d ds = cond (is code.NUMERIC d) (limits_fault d) (cond (is code.ONE_OF d) (option_fault [] (leading ds)) 0)
