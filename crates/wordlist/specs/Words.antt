-- The reserved words, each listed once (document 01, Tokens and Grammar; document 02, W-204).
-- Assumes nothing.
use Rattle.std.specs.Prelude.{ℕ, List, [], ◌∷◌, map}
use Prim.Native.String.{String}
use Prim.Native.String as S
use Prim.Native.Char.{code}

-- the codes of a text's characters
abbrev pub bytes : String → List ℕ
bytes S.[] = []
bytes (S.◌∷◌ c s) = code c ∷ bytes s

-- all words quoted in the grammar, in byte order
abbrev pub reserved_texts : List String
reserved_texts =
    "AND" ∷
    "DEFAULT" ∷
    "DISPLAY_INT_DEC" ∷
    "DISPLAY_UINT_DEC" ∷
    "DISPLAY_UINT_HEX" ∷
    "FALSE" ∷
    "INTERACTIVE" ∷
    "NOT" ∷
    "NUMERIC_SIZE_1" ∷
    "NUMERIC_SIZE_2" ∷
    "NUMERIC_SIZE_4" ∷
    "NUMERIC_SIZE_8" ∷
    "ONE" ∷
    "ONES" ∷
    "OR" ∷
    "READ_ONLY" ∷
    "RESET_REQUIRED" ∷
    "STRING_TOKEN" ∷
    "TRUE" ∷
    "UNDEFINED" ∷
    "ZERO" ∷
    "checkbox" ∷
    "default" ∷
    "disableif" ∷
    "endcheckbox" ∷
    "endform" ∷
    "endformset" ∷
    "endif" ∷
    "endnumeric" ∷
    "endoneof" ∷
    "endrule" ∷
    "flags" ∷
    "form" ∷
    "formid" ∷
    "formset" ∷
    "goto" ∷
    "grayoutif" ∷
    "guid" ∷
    "help" ∷
    "label" ∷
    "maximum" ∷
    "minimum" ∷
    "name" ∷
    "numeric" ∷
    "oneof" ∷
    "option" ∷
    "prompt" ∷
    "questionid" ∷
    "questionref" ∷
    "rule" ∷
    "ruleref" ∷
    "step" ∷
    "subtitle" ∷
    "suppressif" ∷
    "text" ∷
    "title" ∷
    "value" ∷
    []

unfoldable pub reserved : List (List ℕ)
reserved = map bytes reserved_texts
