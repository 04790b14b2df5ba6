-- The kinds of statements and values that decide what is hidden or grey (document 02, W-202).
-- Assumes nothing.
use Rattle.std.specs.Prelude.{ℕ, ◌+◌, Bool, false, cond, List, [], ◌∷◌}
use Rattle.rows.specs.Codes.{member, SUBTITLE, TEXT, LABEL, GOTO, CHECKBOX, NUMERIC, ONE_OF, SUPPRESS_IF, DISABLE_IF, GRAY_OUT_IF}
use Rattle.operators.specs.declared.Scalar.{Scalar}
use Rattle.operators.specs.declared.Scalar.TheVariants.{Boolean, Number, Undefined}

-- ---- statements by their codes

-- "each item that is no condition": the items of document 01's grammar but for its last three, in its order
unfoldable pub items : List ℕ
items = SUBTITLE ∷ TEXT ∷ LABEL ∷ GOTO ∷ CHECKBOX ∷ NUMERIC ∷ ONE_OF ∷ []

-- "hidden when some `suppressif` or `disableif` round it is TRUE"
unfoldable pub hiding : List ℕ
hiding = SUPPRESS_IF ∷ DISABLE_IF ∷ []

-- "grey when some `grayoutif` is"
unfoldable pub greying : List ℕ
greying = GRAY_OUT_IF ∷ []

-- whether a statement of this code is such an item, or a condition that hides or greys what stands in it
unfoldable pub is_item : ℕ → Bool
is_item code = member code items

unfoldable pub hides : ℕ → Bool
hides code = member code hiding

unfoldable pub greys : ℕ → Bool
greys code = member code greying

-- ---- values

-- whether a value is TRUE; "undefined hides nothing", nor does a number
abbrev pub is_true : Scalar → Bool
is_true (Boolean b) = b
is_true (Number n) = false
is_true Undefined = false

-- ---- a row's byte

-- "1 for hidden plus 2 for grey"
abbrev pub byte : (hidden grey : Bool) → ℕ
byte hidden grey = cond hidden 1 0 + cond grey 2 0
