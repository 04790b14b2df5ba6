-- Operators and constants by the codes of their rows (document 01, Grammar and Rows).
-- Assumes nothing.
use Rattle.std.specs.Prelude.{ℕ, cond, List, ltb, get_or}
use Rattle.lexemes.specs.Classes.{NAME}
use Rattle.rows.specs.Columns as column
use Rattle.answers.specs.Text.{Word, lexeme}
use Rattle.fields.specs.Operators.{level_of, code_class}
use Rattle.statements.specs.Statements.{operand_words}

-- the level of an operator of two operands, the loosest being 0; LEVELS for any other row
abbrev pub code_level : ℕ → ℕ
code_level k = level_of (code_class k)

-- an operand that is no operator's: a constant's word, a number or a reference
unfoldable pub atom_words : List ℕ → List Word
atom_words r = cond (ltb (code_class (get_or r column.CODE 0)) NAME) (lexeme (code_class (get_or r column.CODE 0))) (operand_words r)
