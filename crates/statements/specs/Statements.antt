-- The words of statements and operands by the code of their row (document 01, Resolved text).
-- Assumes nothing.
use Rattle.std.specs.Prelude.{ℕ, cond, List, [], ◌++◌, eqb, get_or}
use Rattle.rows.specs.Codes as code
use Rattle.rows.specs.Columns as column
use Rattle.answers.specs.Text.{Word, words, decimal, rule_name}

-- the end of a statement that others stand in; of any other nothing
unfoldable pub closing : ℕ → List Word
closing k =
    cond (eqb k code.FORM_SET) (words "endformset ;")
    (cond (eqb k code.FORM) (words "endform ;")
    (cond (eqb k code.ONE_OF) (words "endoneof ;")
    (cond (eqb k code.SUPPRESS_IF) (words "endif ;")
    (cond (eqb k code.GRAY_OUT_IF) (words "endif ;")
    (cond (eqb k code.DISABLE_IF) (words "endif ;")
    [])))))

-- the end of a row's expression: a rule's, or a condition's
unfoldable pub expression_end : ℕ → List Word
expression_end k = cond (eqb k code.RULE) (words "endrule ;") (words ";")

-- a reference by the number found, or a number
unfoldable pub operand_words : List ℕ → List Word
operand_words r =
    cond (eqb (get_or r column.CODE 0) code.QUESTION_REF) (words "questionref (" ++ decimal (get_or r column.A 0) ++ words ")")
    (cond (eqb (get_or r column.CODE 0) code.RULE_REF) (words "ruleref (" ++ rule_name (get_or r column.A 0) ++ words ")")
    (decimal (get_or r column.A 0)))

-- a condition's word; of any other row nothing
unfoldable pub condition_words : ℕ → List Word
condition_words k =
    cond (eqb k code.SUPPRESS_IF) (words "suppressif")
    (cond (eqb k code.GRAY_OUT_IF) (words "grayoutif")
    (cond (eqb k code.DISABLE_IF) (words "disableif")
    []))
