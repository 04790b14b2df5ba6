-- Expressions as the resolved text prints them, with the fewest parentheses, a numeric's flags and step, and texts that do not fit (document 01, Resolved text;
-- document 02, W-204 and W-208; docs/DECISIONS.md, D54 and D59 to D61), by computation.
-- Assumes nothing.
use mathlib.Core.Path.{◌≡◌, refl}
use mathlib.Core.List.{List, [], ◌∷◌, ◌++◌, map}
use Prim.Native.Nat.{ℕ, ◌*◌}
use Prim.Native.String.{String}
use Rattle.lexemes.specs.Lexemes.{bytes}
use Rattle.rows.specs.Columns.{ROW}
use Rattle.answers.specs.Resolution.{Resolution}
use Rattle.answers.proofs.Computed.{resolved_in, text_read}
use Rattle.answers.proofs.Decided.{framed_bytes}

-- an expression, or a numeric's flags or step, as a source writes it and as its resolved text does
pub record Printing : Type 0 where
  pub written : String
  pub printed : String

infix 68 ◌becomes◌
abbrev ◌becomes◌ : String → String → Printing
a becomes b = record { written = a; printed = b }

unfoldable pub printings : List Printing
printings =
    "1-(2-3)" becomes "1 - ( 2 - 3 )"
    ∷ "(1-2)-3" becomes "1 - 2 - 3"
    ∷ "(1==2)!=3" becomes "1 == 2 != 3"
    ∷ "1<(2<=3)" becomes "1 < ( 2 <= 3 )"
    ∷ "(1 OR 2)AND 3" becomes "( 1 OR 2 ) AND 3"
    ∷ "1+(NOT 2)" becomes "1 + NOT 2"
    ∷ "NOT(NOT 1)" becomes "NOT NOT 1"
    ∷ "NOT((1))" becomes "NOT 1"
    ∷ "NOT(1|2)" becomes "NOT ( 1 | 2 )"
    ∷ "((1*2))+3" becomes "1 * 2 + 3"
    ∷ "1*(2%3)" becomes "1 * ( 2 % 3 )"
    ∷ "1 AND(2 AND 3)" becomes "1 AND ( 2 AND 3 )"
    ∷ "ruleref(A)<<0x10>>(ZERO&ONES)" becomes "ruleref ( R1 ) << 16 >> ( ZERO & ONES )"
    ∷ []

-- the expression of the only rule
abbrev source : String → List ℕ
source e = framed_bytes (bytes "rule A," ++ (bytes e ++ bytes " endrule;"))

-- the frame's text with that of a fragment in it
abbrev resolved_frame : List ℕ → List ℕ
resolved_frame t =
    bytes "formset guid = { 0x00000001 , 0x0002 , 0x0003 , { 0x04 , 0x05 , 0x06 , 0x07 , 0x08 , 0x09 , 0x0a , 0x0b } } , title = STRING_TOKEN ( 2 ) , help = STRING_TOKEN ( 3 ) , form formid = 1 , title = STRING_TOKEN ( 4 ) ;\n"
    ++ (t ++ bytes "endform ;\nendformset ;\n")

abbrev resolved : String → List ℕ
resolved e = resolved_frame (bytes "rule R1 , " ++ (bytes e ++ bytes " endrule ;\n"))

pub printed_as_decided : map (λ x. text_read (source x.written)) printings ≡ map (λ x. resolved x.printed) printings
unfolding printings text_read
printed_as_decided = refl

-- ---- a numeric's flags: "writes size and display always, after the other flags" (W-204)

unfoldable pub flag_printings : List Printing
flag_printings =
    "" becomes "NUMERIC_SIZE_8 | DISPLAY_UINT_DEC"
    ∷ "flags=RESET_REQUIRED|READ_ONLY," becomes "READ_ONLY | RESET_REQUIRED | NUMERIC_SIZE_8 | DISPLAY_UINT_DEC"
    ∷ "flags=DISPLAY_INT_DEC|INTERACTIVE|NUMERIC_SIZE_1," becomes "INTERACTIVE | NUMERIC_SIZE_1 | DISPLAY_INT_DEC"
    ∷ "flags=NUMERIC_SIZE_2," becomes "NUMERIC_SIZE_2 | DISPLAY_UINT_DEC"
    ∷ "flags=DISPLAY_UINT_HEX|NUMERIC_SIZE_4," becomes "NUMERIC_SIZE_4 | DISPLAY_UINT_HEX"
    ∷ []

abbrev numeric_source : String → List ℕ
numeric_source f = framed_bytes (bytes "numeric prompt=STRING_TOKEN(5),help=STRING_TOKEN(6)," ++ (bytes f ++ bytes "minimum=1,maximum=0x05,step=2,endnumeric;"))

abbrev numeric_resolved : String → List ℕ
numeric_resolved f =
    resolved_frame (
    bytes "numeric questionid = 1 , prompt = STRING_TOKEN ( 5 ) , help = STRING_TOKEN ( 6 ) , flags = "
    ++ (bytes f ++ bytes " , minimum = 1 , maximum = 5 , step = 2 , endnumeric ;\n"))

pub flags_printed : map (λ x. text_read (numeric_source x.written)) flag_printings ≡ map (λ x. numeric_resolved x.printed) flag_printings
unfolding flag_printings text_read
flags_printed = refl

-- ---- a numeric's step: "An absent step is now 1; a written 0 stays 0" (W-208)

unfoldable pub step_printings : List Printing
step_printings =
    "" becomes "1"
    ∷ "step=0," becomes "0"
    ∷ "step=0x1," becomes "1"
    ∷ []

abbrev step_source : String → List ℕ
step_source f = framed_bytes (bytes "numeric prompt=STRING_TOKEN(5),help=STRING_TOKEN(6),minimum=0,maximum=0," ++ (bytes f ++ bytes "endnumeric;"))

abbrev step_resolved : String → List ℕ
step_resolved f =
    resolved_frame (
    bytes "numeric questionid = 1 , prompt = STRING_TOKEN ( 5 ) , help = STRING_TOKEN ( 6 ) , flags = NUMERIC_SIZE_8 | DISPLAY_UINT_DEC , "
    ++ (bytes "minimum = 0 , maximum = 0 , step = " ++ (bytes f ++ bytes " , endnumeric ;\n")))

pub steps_printed : map (λ x. text_read (step_source x.written)) step_printings ≡ map (λ x. step_resolved x.printed) step_printings
unfolding step_printings text_read
steps_printed = refl

-- ---- texts that do not fit

-- the frame without a fragment has two rows, and its text 237 bytes; it is resolved through n rows into m bytes
abbrev resolving : ℕ → ℕ → Resolution
resolving n m = (resolved_in (n * ROW) m (framed_bytes [])).answer

-- D59, D60: one byte too few
pub one_byte_short : resolving 10 236 ≡ record { number = 13; place = 0; rows = 237; free = 0; bytes = 0 }
unfolding resolved_in
one_byte_short = refl

-- D61: a table and an output that are both too short
pub both_short : resolving 1 0 ≡ record { number = 6; place = 0; rows = 2; free = 0; bytes = 0 }
unfolding resolved_in
both_short = refl

-- D59: as many bytes as the text has
pub just_enough : (resolving 10 237).number ≡ 0
unfolding resolved_in
just_enough = refl
