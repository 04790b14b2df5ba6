-- The sources of the values of the phrases that are printed: columns, and parts of the GUID.
-- Assumes nothing.
use Prim.Native.Nat.{ℕ, ◌+◌}
use mathlib.Core.List.{List, [], ◌∷◌}
use Rattle.rows.specs.Columns as column
use Rattle.print.specs.Phrase.{GUID}

abbrev pub form_set_open_sources : List ℕ
form_set_open_sources = GUID ∷ (GUID + 1) ∷ (GUID + 2) ∷ []

abbrev pub form_set_braced_sources : List ℕ
form_set_braced_sources = (GUID + 3) ∷ (GUID + 4) ∷ (GUID + 5) ∷ (GUID + 6) ∷ (GUID + 7) ∷ (GUID + 8) ∷ (GUID + 9) ∷ (GUID + 10) ∷ column.FIRST ∷ column.SECOND ∷ []

abbrev pub form_sources : List ℕ
form_sources = column.OWN ∷ column.FIRST ∷ []

abbrev pub rule_sources : List ℕ
rule_sources = column.OWN ∷ []

abbrev pub subtitle_sources : List ℕ
subtitle_sources = column.FIRST ∷ []

abbrev pub text_sources : List ℕ
text_sources = column.SECOND ∷ column.FIRST ∷ []

abbrev pub label_sources : List ℕ
label_sources = column.OWN ∷ []

abbrev pub goto_sources : List ℕ
goto_sources = column.A ∷ column.NAME ∷ column.OWN ∷ column.FIRST ∷ column.SECOND ∷ column.FLAGS ∷ []

abbrev pub checkbox_sources : List ℕ
checkbox_sources = column.NAME ∷ column.OWN ∷ column.FIRST ∷ column.SECOND ∷ column.FLAGS ∷ column.D ∷ []

abbrev pub numeric_sources : List ℕ
numeric_sources = column.NAME ∷ column.OWN ∷ column.FIRST ∷ column.SECOND ∷ column.FLAGS ∷ column.A ∷ column.B ∷ column.C ∷ column.D ∷ []

abbrev pub one_of_sources : List ℕ
one_of_sources = column.NAME ∷ column.OWN ∷ column.FIRST ∷ column.SECOND ∷ column.FLAGS ∷ []

abbrev pub option_sources : List ℕ
option_sources = column.FIRST ∷ column.A ∷ column.FLAGS ∷ []

abbrev pub operand_sources : List ℕ
operand_sources = column.A ∷ []
