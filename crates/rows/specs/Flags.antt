-- The bits of a row's flags (document 01, "Grammar" and "Rows").
use Rattle.std.specs.Prelude.{ℕ, ◌/◌, ◌%◌, Bool, eqb}

-- the flags of a question
abbrev pub READ_ONLY : ℕ
READ_ONLY = 1

abbrev pub INTERACTIVE : ℕ
INTERACTIVE = 4

abbrev pub RESET_REQUIRED : ℕ
RESET_REQUIRED = 16

-- a checkbox or numeric whose `default` is written
abbrev pub HAS_DEFAULT : ℕ
HAS_DEFAULT = 256

-- an option marked `DEFAULT`
abbrev pub OPTION_DEFAULT : ℕ
OPTION_DEFAULT = 16

-- a flag, by its bit's value, is set among flags
abbrev pub is_set : ℕ → ℕ → Bool
is_set flag flags = eqb (flags / flag % 2) 1
