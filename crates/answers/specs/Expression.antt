-- Expressions apart from how they are written: what rows, meaning and printing share (document 01, Grammar and Rows).
-- Assumes nothing.
use Rattle.std.specs.Prelude.{ℕ, true, false, List, [], ◌∷◌, eqb, get_or}
use Rattle.lexemes.specs.Classes as class
use Rattle.rows.specs.Codes as code
use Rattle.ll1.specs.Trees.{Token, token, Trees, nil, leaf, node}
use Rattle.grammar.specs.Rules.{<atom>}
use Rattle.grammar.specs.Parts.{child, chosen, place_at}
use Rattle.grammar.specs.Positions.{questionref_target, ruleref_name}

-- ---- operators and constants

pub data Operator : Type 0 where
  or and bit_or bit_and equal not_equal less less_equal greater greater_equal shift_left shift_right add subtract multiply divide modulo : Operator

pub data Constant : Type 0 where
  true' false' zero' one' ones' undefined' : Constant

-- the levels, loosest first, counted from 0
abbrev pub level : Operator → ℕ
level or = 0
level and = 1
level bit_or = 2
level bit_and = 3
level equal = 4
level not_equal = 4
level less = 5
level less_equal = 5
level greater = 5
level greater_equal = 5
level shift_left = 6
level shift_right = 6
level add = 7
level subtract = 7
level multiply = 8
level divide = 8
level modulo = 8

-- an operator's token
abbrev pub operator_class : Operator → ℕ
operator_class or = class.«OR»
operator_class and = class.«AND»
operator_class bit_or = class.«|»
operator_class bit_and = class.«&»
operator_class equal = class.«==»
operator_class not_equal = class.«!=»
operator_class less = class.«<»
operator_class less_equal = class.«<=»
operator_class greater = class.«>»
operator_class greater_equal = class.«>=»
operator_class shift_left = class.«<<»
operator_class shift_right = class.«>>»
operator_class add = class.«+»
operator_class subtract = class.«-»
operator_class multiply = class.«*»
operator_class divide = class.«/»
operator_class modulo = class.«%»

-- an operator's code
abbrev pub operator_code : Operator → ℕ
operator_code or = code.OR
operator_code and = code.AND
operator_code bit_or = code.BITWISE_OR
operator_code bit_and = code.BITWISE_AND
operator_code equal = code.EQUAL
operator_code not_equal = code.NOT_EQUAL
operator_code less = code.LESS_THAN
operator_code less_equal = code.LESS_EQUAL
operator_code greater = code.GREATER_THAN
operator_code greater_equal = code.GREATER_EQUAL
operator_code shift_left = code.SHIFT_LEFT
operator_code shift_right = code.SHIFT_RIGHT
operator_code add = code.ADD
operator_code subtract = code.SUBTRACT
operator_code multiply = code.MULTIPLY
operator_code divide = code.DIVIDE
operator_code modulo = code.MODULO

-- a constant's word
abbrev pub constant_class : Constant → ℕ
constant_class true' = class.«TRUE»
constant_class false' = class.«FALSE»
constant_class zero' = class.«ZERO»
constant_class one' = class.«ONE»
constant_class ones' = class.«ONES»
constant_class undefined' = class.«UNDEFINED»

-- a constant's code
abbrev pub constant_code : Constant → ℕ
constant_code true' = code.TRUE
constant_code false' = code.FALSE
constant_code zero' = code.ZERO
constant_code one' = code.ONE
constant_code ones' = code.ONES
constant_code undefined' = code.UNDEFINED

-- ---- expressions

-- each with the place of its first token, of an operator the operator itself; a reference also with that of its name or number
pub data Expression : Type 0 where
  number : ℕ → Expression
  constant : Constant → ℕ → Expression
  question_named question_numbered rule_named : ℕ → ℕ → Expression
  negation : ℕ → Expression → Expression
  binary : Operator → ℕ → Expression → Expression → Expression

-- ---- the expression that a derivation's trees spell

pub data Pending : Type 0 where
  nothing : Pending
  operator : Operator → ℕ → Pending

abbrev pub operators : List Operator
operators =
    or ∷ and ∷ bit_or ∷ bit_and ∷ equal ∷ not_equal ∷ less ∷ less_equal ∷ greater ∷ greater_equal ∷ shift_left ∷ shift_right ∷ add ∷ subtract ∷ multiply ∷ divide ∷ modulo ∷ []

-- the operator of a token, if it is one's
abbrev pub operator_among : List Operator → Token → Pending
operator_among [] t = nothing
operator_among (o ∷ os) (token k p) = elim (eqb (operator_class o) k) [ true ↦ operator o p | false ↦ operator_among os (token k p) ]

-- what stands between the operand before it and the one after it
abbrev pub joined : Pending → Expression → Expression → Expression
joined nothing left right = right
joined (operator o p) left right = binary o p left right

-- NAME or N
abbrev pub asked : ℕ → Trees → Expression
asked p c =
    let target = child questionref_target c in
    elim (eqb (chosen questionref_target c) 0) [ true ↦ question_named p (place_at 0 target) | false ↦ question_numbered p (place_at 0 (child 0 target)) ]

-- the atom of the alternative i over the trees c; `inner` is what c spells
abbrev pub atom : ℕ → Trees → Expression → Expression
atom i c inner =
    let p = place_at 0 c in
    get_or (
    -- NOT atom
    negation p inner
    -- ( expression )
    ∷ inner
    -- TRUE FALSE ZERO ONE ONES UNDEFINED
    ∷ constant true' p
    ∷ constant false' p
    ∷ constant zero' p
    ∷ constant one' p
    ∷ constant ones' p
    ∷ constant undefined' p
    -- N
    ∷ number (place_at 0 (child 0 c))
    -- questionref ( NAME or N )
    ∷ asked p c
    -- ruleref ( NAME )
    ∷ rule_named p (place_at ruleref_name c)
    ∷ [])
    i inner

-- trees beside one another: `left` is the operand so far, `pending` the operator that waits for its right one.
-- Each level groups to the left. So `1 - 2 * 3 - 4`, a sum of the product `1` and the tail `- 2 * 3 - 4`, goes by these steps:
--   the product `1`      nothing waits: left is 1
--   its tail, from there
--     `-`                waits
--     `2 * 3`            is a product by itself, 2 * 3; with what waits, left is 1 - 2 * 3
--     the tail `- 4`     from there: `-` waits, 4 comes, left is (1 - 2 * 3) - 4
--     the empty tail     leaves it so
abbrev pub spelled : Expression → Pending → Trees → Expression
spelled left pending nil = left
spelled left pending (leaf t f) = spelled left (operator_among operators t) f
spelled left pending (node A i c f) =
    let inner = spelled left nothing c in
    let operand : Expression = elim (eqb A <atom>) [ true ↦ atom i c inner | false ↦ inner ] in
    spelled (joined pending left operand) nothing f

-- the expression of a tree
unfoldable pub expression : Trees → Expression
expression f = spelled (number 0) nothing f
