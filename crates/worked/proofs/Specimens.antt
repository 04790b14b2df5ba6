-- The specimens that document 01 marks P, and those of document 02's W-204, from bytes to answer and rows: one list, and one claim over it, by
-- computation.
-- Assumes nothing.
use mathlib.Core.Path.{◌≡◌, refl}
use mathlib.Core.List.{List, [], ◌∷◌, map}
use Prim.Native.Nat.{ℕ}
use Prim.Native.String.{String}
use Rattle.lexemes.specs.Lexemes.{bytes}
use Rattle.answers.specs.Answer.{Answer, accepts, refuses}
use Rattle.answers.proofs.Computed.{Outcome, outcome_in, outcome}

-- a source, and what reading it into ten rows must give
pub record Specimen : Type 0 where
  pub text : String
  pub expected : Outcome

abbrev pub specimen : String → Answer → List (List ℕ) → Specimen
specimen t a rows = record { text = t; expected = record { answer = a; rows = rows } }

pub specimens : List Specimen
specimens =
    -- empty source: 3 at 0
    specimen ""
    (refuses 3 0) ([])
    ∷
    -- `0x1A0` and `416` both written: 8 at the second
    specimen "formset guid={0x1,0x2,0x3,{0x4,0x5,0x6,0x7,0x8,0x9,0xA,0xB}},title=STRING_TOKEN(2),help=STRING_TOKEN(3),form formid=1,title=STRING_TOKEN(4);checkbox questionid=0x1A0,prompt=STRING_TOKEN(0),help=STRING_TOKEN(0),endcheckbox;checkbox questionid=416,prompt=STRING_TOKEN(0),help=STRING_TOKEN(0),endcheckbox;endform;endformset;"
    (refuses 8 242) ([])
    ∷
    -- `010`: ten
    specimen "formset guid={0x1,0x2,0x3,{0x4,0x5,0x6,0x7,0x8,0x9,0xA,0xB}},title=STRING_TOKEN(2),help=STRING_TOKEN(3),form formid=1,title=STRING_TOKEN(4);label 010;endform;endformset;"
    (accepts 3 65535) ((14 ∷ 0 ∷ 0 ∷ 2 ∷ 3 ∷ 0 ∷ 4295098371 ∷ 289644378304612875 ∷ 0 ∷ 0 ∷ 0 ∷ 0 ∷ 0 ∷ []) ∷ (1 ∷ 0 ∷ 1 ∷ 4 ∷ 0 ∷ 0 ∷ 0 ∷ 0 ∷ 0 ∷ 0 ∷ 0 ∷ 104 ∷ 0 ∷ []) ∷ (95 ∷ 1 ∷ 10 ∷ 0 ∷ 0 ∷ 0 ∷ 0 ∷ 0 ∷ 0 ∷ 0 ∷ 0 ∷ 140 ∷ 0 ∷ []) ∷ [])
    ∷
    -- `0X10`: 2
    specimen "formset guid={0x1,0x2,0x3,{0x4,0x5,0x6,0x7,0x8,0x9,0xA,0xB}},title=STRING_TOKEN(2),help=STRING_TOKEN(3),form formid=1,title=STRING_TOKEN(4);label 0X10;endform;endformset;"
    (refuses 2 146) ([])
    ∷
    -- form number 65,535 kept
    specimen "formset guid={0x1,0x2,0x3,{0x4,0x5,0x6,0x7,0x8,0x9,0xA,0xB}},title=STRING_TOKEN(2),help=STRING_TOKEN(3),form formid=65535,title=STRING_TOKEN(4);endform;endformset;"
    (accepts 2 65535) ((14 ∷ 0 ∷ 0 ∷ 2 ∷ 3 ∷ 0 ∷ 4295098371 ∷ 289644378304612875 ∷ 0 ∷ 0 ∷ 0 ∷ 0 ∷ 0 ∷ []) ∷ (1 ∷ 0 ∷ 65535 ∷ 4 ∷ 0 ∷ 0 ∷ 0 ∷ 0 ∷ 0 ∷ 0 ∷ 0 ∷ 104 ∷ 0 ∷ []) ∷ [])
    ∷
    -- 65,536: 5
    specimen "formset guid={0x1,0x2,0x3,{0x4,0x5,0x6,0x7,0x8,0x9,0xA,0xB}},title=STRING_TOKEN(2),help=STRING_TOKEN(3),form formid=65536,title=STRING_TOKEN(4);endform;endformset;"
    (refuses 5 116) ([])
    ∷
    -- form number 0: 5
    specimen "formset guid={0x1,0x2,0x3,{0x4,0x5,0x6,0x7,0x8,0x9,0xA,0xB}},title=STRING_TOKEN(2),help=STRING_TOKEN(3),form formid=0,title=STRING_TOKEN(4);endform;endformset;"
    (refuses 5 116) ([])
    ∷
    -- 18446744073709551615 as maximum kept
    specimen "formset guid={0x1,0x2,0x3,{0x4,0x5,0x6,0x7,0x8,0x9,0xA,0xB}},title=STRING_TOKEN(2),help=STRING_TOKEN(3),form formid=1,title=STRING_TOKEN(4);numeric prompt=STRING_TOKEN(0),help=STRING_TOKEN(0),minimum=0,maximum=18446744073709551615,endnumeric;endform;endformset;"
    (accepts 3 65534) ((14 ∷ 0 ∷ 0 ∷ 2 ∷ 3 ∷ 0 ∷ 4295098371 ∷ 289644378304612875 ∷ 0 ∷ 0 ∷ 0 ∷ 0 ∷ 0 ∷ []) ∷ (1 ∷ 0 ∷ 1 ∷ 4 ∷ 0 ∷ 0 ∷ 0 ∷ 0 ∷ 0 ∷ 0 ∷ 0 ∷ 104 ∷ 0 ∷ []) ∷ (7 ∷ 1 ∷ 1 ∷ 0 ∷ 0 ∷ 0 ∷ 0 ∷ 18446744073709551615 ∷ 1 ∷ 0 ∷ 0 ∷ 140 ∷ 33 ∷ []) ∷ [])
    ∷
    -- one more: 5
    specimen "formset guid={0x1,0x2,0x3,{0x4,0x5,0x6,0x7,0x8,0x9,0xA,0xB}},title=STRING_TOKEN(2),help=STRING_TOKEN(3),form formid=1,title=STRING_TOKEN(4);numeric prompt=STRING_TOKEN(0),help=STRING_TOKEN(0),minimum=0,maximum=18446744073709551616,endnumeric;endform;endformset;"
    (refuses 5 210) ([])
    ∷
    -- `1 - 2 - 3` groups left
    specimen "formset guid={0x1,0x2,0x3,{0x4,0x5,0x6,0x7,0x8,0x9,0xA,0xB}},title=STRING_TOKEN(2),help=STRING_TOKEN(3),form formid=1,title=STRING_TOKEN(4);rule A,1 - 2 - 3 endrule;endform;endformset;"
    (accepts 8 65535) ((14 ∷ 0 ∷ 0 ∷ 2 ∷ 3 ∷ 0 ∷ 4295098371 ∷ 289644378304612875 ∷ 0 ∷ 0 ∷ 0 ∷ 0 ∷ 0 ∷ []) ∷ (1 ∷ 0 ∷ 1 ∷ 4 ∷ 0 ∷ 0 ∷ 0 ∷ 0 ∷ 0 ∷ 0 ∷ 0 ∷ 104 ∷ 0 ∷ []) ∷ (24 ∷ 1 ∷ 1 ∷ 0 ∷ 0 ∷ 0 ∷ 0 ∷ 0 ∷ 0 ∷ 0 ∷ 146 ∷ 140 ∷ 0 ∷ []) ∷ (69 ∷ 2 ∷ 0 ∷ 0 ∷ 0 ∷ 0 ∷ 1 ∷ 0 ∷ 0 ∷ 0 ∷ 0 ∷ 147 ∷ 0 ∷ []) ∷ (69 ∷ 2 ∷ 0 ∷ 0 ∷ 0 ∷ 0 ∷ 2 ∷ 0 ∷ 0 ∷ 0 ∷ 0 ∷ 151 ∷ 0 ∷ []) ∷ (59 ∷ 2 ∷ 0 ∷ 0 ∷ 0 ∷ 0 ∷ 0 ∷ 0 ∷ 0 ∷ 0 ∷ 0 ∷ 149 ∷ 0 ∷ []) ∷ (69 ∷ 2 ∷ 0 ∷ 0 ∷ 0 ∷ 0 ∷ 3 ∷ 0 ∷ 0 ∷ 0 ∷ 0 ∷ 155 ∷ 0 ∷ []) ∷ (59 ∷ 2 ∷ 0 ∷ 0 ∷ 0 ∷ 0 ∷ 0 ∷ 0 ∷ 0 ∷ 0 ∷ 0 ∷ 153 ∷ 0 ∷ []) ∷ [])
    ∷
    -- minimum 5, maximum 5, default 5 kept
    specimen "formset guid={0x1,0x2,0x3,{0x4,0x5,0x6,0x7,0x8,0x9,0xA,0xB}},title=STRING_TOKEN(2),help=STRING_TOKEN(3),form formid=1,title=STRING_TOKEN(4);numeric prompt=STRING_TOKEN(0),help=STRING_TOKEN(0),minimum=5,maximum=5,default=5,endnumeric;endform;endformset;"
    (accepts 3 65534) ((14 ∷ 0 ∷ 0 ∷ 2 ∷ 3 ∷ 0 ∷ 4295098371 ∷ 289644378304612875 ∷ 0 ∷ 0 ∷ 0 ∷ 0 ∷ 0 ∷ []) ∷ (1 ∷ 0 ∷ 1 ∷ 4 ∷ 0 ∷ 0 ∷ 0 ∷ 0 ∷ 0 ∷ 0 ∷ 0 ∷ 104 ∷ 0 ∷ []) ∷ (7 ∷ 1 ∷ 1 ∷ 0 ∷ 0 ∷ 256 ∷ 5 ∷ 5 ∷ 1 ∷ 5 ∷ 0 ∷ 140 ∷ 33 ∷ []) ∷ [])
    ∷
    -- default 6: 12
    specimen "formset guid={0x1,0x2,0x3,{0x4,0x5,0x6,0x7,0x8,0x9,0xA,0xB}},title=STRING_TOKEN(2),help=STRING_TOKEN(3),form formid=1,title=STRING_TOKEN(4);numeric prompt=STRING_TOKEN(0),help=STRING_TOKEN(0),minimum=5,maximum=5,default=6,endnumeric;endform;endformset;"
    (refuses 12 220) ([])
    ∷
    -- bad byte after a grammar fault: 2
    specimen "form form @"
    (refuses 2 10) ([])
    ∷
    -- W-204: size 1, "minimum 251 and maximum 5 is good"
    specimen "formset guid={0x1,0x2,0x3,{0x4,0x5,0x6,0x7,0x8,0x9,0xA,0xB}},title=STRING_TOKEN(2),help=STRING_TOKEN(3),form formid=1,title=STRING_TOKEN(4);numeric prompt=STRING_TOKEN(0),help=STRING_TOKEN(0),flags=NUMERIC_SIZE_1|DISPLAY_INT_DEC,minimum=251,maximum=5,endnumeric;endform;endformset;"
    (accepts 3 65534) ((14 ∷ 0 ∷ 0 ∷ 2 ∷ 3 ∷ 0 ∷ 4295098371 ∷ 289644378304612875 ∷ 0 ∷ 0 ∷ 0 ∷ 0 ∷ 0 ∷ []) ∷ (1 ∷ 0 ∷ 1 ∷ 4 ∷ 0 ∷ 0 ∷ 0 ∷ 0 ∷ 0 ∷ 0 ∷ 0 ∷ 104 ∷ 0 ∷ []) ∷ (7 ∷ 1 ∷ 1 ∷ 0 ∷ 0 ∷ 0 ∷ 251 ∷ 5 ∷ 1 ∷ 0 ∷ 0 ∷ 140 ∷ 4 ∷ []) ∷ [])
    ∷
    -- "minimum 127 and maximum 128 is not": 12
    specimen "formset guid={0x1,0x2,0x3,{0x4,0x5,0x6,0x7,0x8,0x9,0xA,0xB}},title=STRING_TOKEN(2),help=STRING_TOKEN(3),form formid=1,title=STRING_TOKEN(4);numeric prompt=STRING_TOKEN(0),help=STRING_TOKEN(0),flags=NUMERIC_SIZE_1|DISPLAY_INT_DEC,minimum=127,maximum=128,endnumeric;endform;endformset;"
    (refuses 12 249) ([])
    ∷
    -- a second size word, even the same: 16
    specimen "formset guid={0x1,0x2,0x3,{0x4,0x5,0x6,0x7,0x8,0x9,0xA,0xB}},title=STRING_TOKEN(2),help=STRING_TOKEN(3),form formid=1,title=STRING_TOKEN(4);numeric prompt=STRING_TOKEN(0),help=STRING_TOKEN(0),flags=NUMERIC_SIZE_1|NUMERIC_SIZE_1,minimum=0,maximum=1,endnumeric;endform;endformset;"
    (refuses 16 213) ([])
    ∷
    -- 256 at size 1: 5
    specimen "formset guid={0x1,0x2,0x3,{0x4,0x5,0x6,0x7,0x8,0x9,0xA,0xB}},title=STRING_TOKEN(2),help=STRING_TOKEN(3),form formid=1,title=STRING_TOKEN(4);numeric prompt=STRING_TOKEN(0),help=STRING_TOKEN(0),flags=NUMERIC_SIZE_1,minimum=0,maximum=256,endnumeric;endform;endformset;"
    (refuses 5 231) ([])
    ∷
    -- 255 at size 1 kept
    specimen "formset guid={0x1,0x2,0x3,{0x4,0x5,0x6,0x7,0x8,0x9,0xA,0xB}},title=STRING_TOKEN(2),help=STRING_TOKEN(3),form formid=1,title=STRING_TOKEN(4);numeric prompt=STRING_TOKEN(0),help=STRING_TOKEN(0),flags=NUMERIC_SIZE_1,minimum=0,maximum=255,endnumeric;endform;endformset;"
    (accepts 3 65534) ((14 ∷ 0 ∷ 0 ∷ 2 ∷ 3 ∷ 0 ∷ 4295098371 ∷ 289644378304612875 ∷ 0 ∷ 0 ∷ 0 ∷ 0 ∷ 0 ∷ []) ∷ (1 ∷ 0 ∷ 1 ∷ 4 ∷ 0 ∷ 0 ∷ 0 ∷ 0 ∷ 0 ∷ 0 ∷ 0 ∷ 104 ∷ 0 ∷ []) ∷ (7 ∷ 1 ∷ 1 ∷ 0 ∷ 0 ∷ 0 ∷ 0 ∷ 255 ∷ 1 ∷ 0 ∷ 0 ∷ 140 ∷ 5 ∷ []) ∷ []) ∷ []

pub specimens_hold : map (λ x. outcome (bytes x.text)) specimens ≡ map (λ x. x.expected) specimens
unfolding specimens outcome_in
specimens_hold = refl
