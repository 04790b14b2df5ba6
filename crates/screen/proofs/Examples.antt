-- Small screens and their bytes, by computation; `S` in a source is short for `STRING_TOKEN(0)`, `P` for `prompt=S,help=S`.
-- Assumes nothing.
use Prim.Native.Nat.{ℕ}
use mathlib.Core.Path.{◌≡◌, refl}
use mathlib.Core.Bool.{false}
use mathlib.Core.List.{List, [], ◌∷◌, map}
use mathlib.Core.Option.{none, some}
use Rattle.rows.specs.Codes as code
use Rattle.rows.specs.Codes.{member}
use Rattle.operators.specs.declared.Scalar.{Scalar}
use Rattle.operators.specs.declared.Scalar.TheVariants.{Undefined}
use Rattle.operators.specs.Values.{applied, found, operations, constants}
use Rattle.answers.specs.Expression.{equal, true', false', one', ones', undefined'}
use Rattle.formulas.specs.Formula.{Formula, f_number as N, f_constant as C, f_binary}
use Rattle.meaning.specs.Meaning.{meaning}
use Rattle.screen.specs.Kinds.{items, hiding, greying, is_item, hides, greys}
use Rattle.screen.specs.Screen.{Screen, done, statement}
use Rattle.screen.specs.Bytes.{formula_rows, bytes}

-- a condition, what stands in it, and what comes after it
abbrev suppressif : Formula → Screen → Screen → Screen
suppressif e = statement code.SUPPRESS_IF (some e)

abbrev grayoutif : Formula → Screen → Screen → Screen
grayoutif e = statement code.GRAY_OUT_IF (some e)

abbrev disableif : Formula → Screen → Screen → Screen
disableif e = statement code.DISABLE_IF (some e)

-- a statement with nothing in it, and what comes after it
abbrev plain : ℕ → Screen → Screen
plain code = statement code none done

abbrev label : Screen → Screen
label = plain code.LABEL

abbrev TRUE : Formula
TRUE = C true'

-- statements, and the bytes of their rows
record Example : Type 0 where
  screen : Screen
  shown : List ℕ

infix 50 ◌shows◌
abbrev ◌shows◌ : Screen → List ℕ → Example
s shows l = record { screen = s; shown = l }

examples : List Example
examples =
    -- only TRUE hides: `suppressif 1;label 1;endif;`
    (suppressif (N 1) (label done) done shows 0 ∷ 0 ∷ 0 ∷ [])
    -- `suppressif ONE;label 1;endif;`
    ∷ (suppressif (C one') (label done) done shows 0 ∷ 0 ∷ 0 ∷ [])
    -- `grayoutif ONES;label 1;endif;`
    ∷ (grayoutif (C ones') (label done) done shows 0 ∷ 0 ∷ 0 ∷ [])
    -- `grayoutif UNDEFINED;label 1;endif;`
    ∷ (grayoutif (C undefined') (label done) done shows 0 ∷ 0 ∷ 0 ∷ [])
    -- `grayoutif 1==1;label 1;endif;`
    ∷ (grayoutif (f_binary equal (N 1) (N 1)) (label done) done shows 0 ∷ 0 ∷ 0 ∷ 0 ∷ 2 ∷ [])
    -- which rows have a byte: `suppressif TRUE;subtitle text=S;text help=S,text=S;label 1;goto 1,P;checkbox P,endcheckbox;
    -- numeric P,minimum=0,maximum=9,endnumeric;oneof P,option text=S,value=1,flags=0;endoneof;endif;`
    ∷ (suppressif TRUE
    (plain code.SUBTITLE
    (plain code.TEXT
    (label
    (plain code.GOTO
    (plain code.CHECKBOX
    (plain code.NUMERIC
    (statement code.ONE_OF none (plain code.OPTION done) done))))))) done
    shows 0 ∷ 0 ∷ 1 ∷ 1 ∷ 1 ∷ 1 ∷ 1 ∷ 1 ∷ 1 ∷ 0 ∷ [])
    -- `suppressif TRUE;grayoutif FALSE;endif;endif;`
    ∷ (suppressif TRUE (grayoutif (C false') done done) done shows 0 ∷ 0 ∷ 0 ∷ 0 ∷ [])
    -- every condition round an item counts: `suppressif TRUE;grayoutif TRUE;label 1;endif;label 2;endif;label 3;`
    ∷ (suppressif TRUE (grayoutif TRUE (label done) (label done)) (label done) shows 0 ∷ 0 ∷ 0 ∷ 0 ∷ 3 ∷ 1 ∷ 0 ∷ [])
    -- `grayoutif TRUE;suppressif UNDEFINED;disableif FALSE;label 1;endif;endif;endif;`
    ∷ (grayoutif TRUE (suppressif (C undefined') (disableif (C false') (label done) done) done) done shows 0 ∷ 0 ∷ 0 ∷ 0 ∷ 0 ∷ 0 ∷ 2 ∷ [])
    -- `disableif TRUE;label 1;endif;`
    ∷ (disableif TRUE (label done) done shows 0 ∷ 0 ∷ 1 ∷ [])
    ∷ []

-- no question answers, and no rule is worth anything
abbrev nothing : ℕ → Scalar
nothing n = Undefined

worked : map (λ e. bytes nothing nothing false false e.screen) examples ≡ map (λ e. e.shown) examples
unfolding examples bytes formula_rows meaning is_item hides greys items hiding greying member applied found operations constants
worked = refl
