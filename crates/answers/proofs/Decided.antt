-- What docs/DECISIONS.md decides of stages, rows and numbers (entries D25 to D63, W203.18 to W203.20), from bytes to answer and rows, by computation.
-- Assumes nothing.
use mathlib.Core.Path.{◌≡◌, refl}
use mathlib.Core.List.{List, [], ◌∷◌, ◌++◌, map}
use Prim.Native.Nat.{ℕ}
use Prim.Native.String.{String}
use Rattle.lexemes.specs.Lexemes.{bytes}
use Rattle.answers.specs.Answer.{Answer, refuses, needs}
use Rattle.answers.proofs.Computed.{outcome_in, outcome, rows_read, unfound_read}

-- a source that is refused, and the answer when ten rows are lent
pub record Refused : Type 0 where
  pub source : List ℕ
  pub answer : Answer

-- a source that is accepted, and its rows
pub record Accepted : Type 0 where
  pub source : List ℕ
  pub rows : List (List ℕ)

-- the frame of docs/DECISIONS.md: one form, number 1; its two rows come before those of the fragment
abbrev opening : String
opening = "formset guid={0x1,0x2,0x3,{0x4,0x5,0x6,0x7,0x8,0x9,0xA,0xB}},title=STRING_TOKEN(2),help=STRING_TOKEN(3),form formid=1,title=STRING_TOKEN(4);"

abbrev frame : List (List ℕ)
frame =
    (0x0E ∷ 0 ∷ 0 ∷ 2 ∷ 3 ∷ 0 ∷ 4295098371 ∷ 289644378304612875 ∷ 0 ∷ 0 ∷ 0 ∷ 0 ∷ 0 ∷ [])
    ∷ (0x01 ∷ 0 ∷ 1 ∷ 4 ∷ 0 ∷ 0 ∷ 0 ∷ 0 ∷ 0 ∷ 0 ∷ 0 ∷ 104 ∷ 0 ∷ [])
    ∷ []

abbrev pub framed_bytes : List ℕ → List ℕ
framed_bytes s = bytes opening ++ (s ++ bytes "endform;endformset;")

abbrev framed : String → List ℕ
framed t = framed_bytes (bytes t)

-- two forms, numbers 1 and 2
abbrev pub two_forms : String → String → List ℕ
two_forms t u = framed_bytes (bytes t ++ (bytes "endform;form formid=2,title=STRING_TOKEN(4);" ++ bytes u))

-- ---- sources that are refused

infix 68 ◌gives◌
abbrev ◌gives◌ : List ℕ → Answer → Refused
s gives a = record { source = s; answer = a }

unfoldable pub refused_cases : List Refused
refused_cases =
    -- D25: digits of a GUID part are counted
    bytes "formset guid={0x000000001,0x2,0x3,0x4,0x5,0x6,0x7,0x8,0x9,0xA,0xB},title=STRING_TOKEN(2),help=STRING_TOKEN(3),form formid=1,title=STRING_TOKEN(4);endform;endformset;"
    gives refuses 5 14
    -- D27: a number as option flags is 0
    ∷ framed "oneof prompt=STRING_TOKEN(5),help=STRING_TOKEN(6),option text=STRING_TOKEN(0),value=1,flags=16;endoneof;"
    gives refuses 5 232
    -- D28: `goto 0` is 5, and a goto that finds nothing 11
    ∷ framed "goto 0,prompt=STRING_TOKEN(5),help=STRING_TOKEN(6);"
    gives refuses 5 145
    ∷ framed "goto 65535,prompt=STRING_TOKEN(5),help=STRING_TOKEN(6);"
    gives refuses 11 145
    -- D29: labels and strings may be 0, and 65,536 is 5
    ∷ framed "label 0;label 65536;"
    gives refuses 5 154
    -- D37: two rules may not share a name
    ∷ framed "rule A,1 endrule;rule A,1 endrule;"
    gives refuses 9 162
    -- D36: a form number repeated
    ∷ bytes "formset guid={0x1,0x2,0x3,{0x4,0x5,0x6,0x7,0x8,0x9,0xA,0xB}},title=STRING_TOKEN(2),help=STRING_TOKEN(3),form formid=1,title=STRING_TOKEN(4);endform;form formid=0x1,title=STRING_TOKEN(4);endform;endformset;"
    gives refuses 7 160
    -- D40: a numeric questionref finds only a written number
    ∷ framed "checkbox prompt=STRING_TOKEN(5),help=STRING_TOKEN(6),endcheckbox;rule A,questionref(1) endrule;"
    gives refuses 11 224
    -- D41: a questionref looks among questions
    ∷ framed "rule A,questionref(A) endrule;"
    gives refuses 11 159
    -- "The first stage that fails answers", whatever the places: 11 before 12
    ∷ framed "numeric prompt=STRING_TOKEN(5),help=STRING_TOKEN(6),minimum=5,maximum=4,endnumeric;goto 9,prompt=STRING_TOKEN(5),help=STRING_TOKEN(6);"
    gives refuses 11 228
    -- D42: maximum below minimum comes before the default
    ∷ framed "numeric prompt=STRING_TOKEN(5),help=STRING_TOKEN(6),minimum=5,maximum=4,default=9,endnumeric;"
    gives refuses 12 210
    -- D43: a value and a DEFAULT repeated in one oneof
    ∷ framed "oneof prompt=STRING_TOKEN(5),help=STRING_TOKEN(6),option text=STRING_TOKEN(0),value=1,flags=DEFAULT;option text=STRING_TOKEN(0),value=0x1,flags=DEFAULT;endoneof;"
    gives refuses 12 274
    ∷ framed "oneof prompt=STRING_TOKEN(5),help=STRING_TOKEN(6),option text=STRING_TOKEN(0),value=1,flags=DEFAULT;option text=STRING_TOKEN(0),value=2,flags=DEFAULT;endoneof;"
    gives refuses 12 282
    -- D32: eleven rows are needed, ten are lent
    ∷ framed "label 1;label 1;label 1;label 1;label 1;label 1;label 1;label 1;label 1;"
    gives needs 11
    ∷ []

pub refused_as_decided : map (λ x. (outcome x.source).answer) refused_cases ≡ map (λ x. x.answer) refused_cases
unfolding refused_cases outcome_in
refused_as_decided = refl

-- ---- a ruleref whose rule stands in another form (document 02, W-203)

unfoldable pub stray_cases : List Refused
stray_cases =
    -- W203.18: the rule is of an earlier form, or of a later one
    two_forms "rule A,1 endrule;" "suppressif ruleref(A);endif;"
    gives refuses 11 220
    ∷ two_forms "suppressif ruleref(A);endif;" "rule A,1 endrule;"
    gives refuses 11 159
    -- W203.19: two forms may not have rules of one name
    ∷ two_forms "rule A,1 endrule;" "rule A,1 endrule;suppressif ruleref(A);endif;"
    gives refuses 9 206
    -- W203.20: 11 comes before 14, whether the circle would go through both forms or lies in one of them
    ∷ two_forms "rule A,ruleref(B)endrule;" "rule B,ruleref(A)endrule;"
    gives refuses 11 155
    ∷ two_forms "rule A,ruleref(A)endrule;" "suppressif ruleref(A);endif;"
    gives refuses 11 228
    ∷ []

pub stray_as_decided : map (λ x. (outcome x.source).answer) stray_cases ≡ map (λ x. x.answer) stray_cases
unfolding stray_cases outcome_in
stray_as_decided = refl

-- ---- sizes and displays (document 02, W-204)

-- a numeric with these flags and limits, from place 140 on; its first flag word stands at 214, its numbers after `minimum=` and so on
abbrev numeric : String → String → List ℕ
numeric f l = bytes "numeric prompt=STRING_TOKEN(5),help=STRING_TOKEN(6),flags=" ++ (bytes f ++ (bytes "," ++ (bytes l ++ bytes ",endnumeric;")))

unfoldable pub sized_cases : List Refused
sized_cases =
    -- W204.24: the second word of its sort; with both sorts repeated, the earlier of the two seconds
    framed_bytes (numeric "NUMERIC_SIZE_1|DISPLAY_INT_DEC|DISPLAY_UINT_HEX|NUMERIC_SIZE_1" "minimum=0,maximum=1")
    gives refuses 16 229
    -- W204.25: 16 comes before a 5 that stands earlier, and after a 3 that stands later
    ∷ framed_bytes (bytes "label 65536;" ++ numeric "NUMERIC_SIZE_1|NUMERIC_SIZE_1" "minimum=0,maximum=1")
    gives refuses 16 225
    ∷ framed_bytes (numeric "NUMERIC_SIZE_1|NUMERIC_SIZE_1" "minimum=0,maximum=1" ++ bytes "label;")
    gives refuses 3 264
    -- W204.22: the words join no other question's flags
    ∷ framed "checkbox prompt=STRING_TOKEN(5),help=STRING_TOKEN(6),flags=NUMERIC_SIZE_1,endcheckbox;"
    gives refuses 3 199
    -- W204.27: the earliest number that does not fit, one over 2^64 - 1 among them
    ∷ framed_bytes (numeric "NUMERIC_SIZE_1" "minimum=300,maximum=18446744073709551616")
    gives refuses 5 221
    ∷ framed_bytes (numeric "NUMERIC_SIZE_1" "minimum=0,maximum=18446744073709551616,step=256")
    gives refuses 5 231
    ∷ framed_bytes (numeric "NUMERIC_SIZE_1" "minimum=0,maximum=256" ++ bytes "label 65536;")
    gives refuses 5 231
    ∷ framed_bytes (bytes "label 65536;" ++ numeric "NUMERIC_SIZE_1" "minimum=0,maximum=256")
    gives refuses 5 146
    -- W204.28: the signed order
    ∷ framed_bytes (numeric "NUMERIC_SIZE_1|DISPLAY_INT_DEC" "minimum=251,maximum=5,default=250")
    gives refuses 12 259
    -- W204.29: each absent by itself
    ∷ framed_bytes (numeric "DISPLAY_INT_DEC" "minimum=251,maximum=5")
    gives refuses 12 234
    ∷ framed_bytes (numeric "NUMERIC_SIZE_1" "minimum=251,maximum=5")
    gives refuses 12 233
    ∷ []

pub sized_as_decided : map (λ x. (outcome x.source).answer) sized_cases ≡ map (λ x. x.answer) sized_cases
unfolding sized_cases outcome_in
sized_as_decided = refl

-- ---- sources that are accepted, and their rows

infix 68 ◌has◌
abbrev ◌has◌ : List ℕ → List (List ℕ) → Accepted
s has rows = record { source = s; rows = frame ++ rows }

unfoldable pub accepted_cases : List Accepted
accepted_cases =
    -- D37: a question and a rule may share a name
    framed "rule A,1 endrule;checkbox name=A,prompt=STRING_TOKEN(5),help=STRING_TOKEN(6),endcheckbox;"
    has ((24 ∷ 1 ∷ 1 ∷ 0 ∷ 0 ∷ 0 ∷ 0 ∷ 0 ∷ 0 ∷ 0 ∷ 146 ∷ 140 ∷ 0 ∷ []) ∷ (69 ∷ 2 ∷ 0 ∷ 0 ∷ 0 ∷ 0 ∷ 1 ∷ 0 ∷ 0 ∷ 0 ∷ 0 ∷ 147 ∷ 0 ∷ []) ∷ (6 ∷ 1 ∷ 1 ∷ 5 ∷ 6 ∷ 0 ∷ 0 ∷ 0 ∷ 0 ∷ 0 ∷ 172 ∷ 157 ∷ 0 ∷ []) ∷ [])
    -- D40: by name a questionref finds a question whose number is given automatically
    ∷ framed "checkbox name=B,prompt=STRING_TOKEN(5),help=STRING_TOKEN(6),endcheckbox;rule A,questionref(B) endrule;"
    has ((6 ∷ 1 ∷ 1 ∷ 5 ∷ 6 ∷ 0 ∷ 0 ∷ 0 ∷ 0 ∷ 0 ∷ 155 ∷ 140 ∷ 0 ∷ []) ∷ (24 ∷ 1 ∷ 1 ∷ 0 ∷ 0 ∷ 0 ∷ 0 ∷ 0 ∷ 0 ∷ 0 ∷ 218 ∷ 212 ∷ 0 ∷ []) ∷ (64 ∷ 3 ∷ 0 ∷ 0 ∷ 0 ∷ 0 ∷ 1 ∷ 0 ∷ 0 ∷ 0 ∷ 0 ∷ 219 ∷ 0 ∷ []) ∷ [])
    -- D39: a rule may refer to a later one
    ∷ framed "rule A,ruleref(B) endrule;rule B,1 endrule;"
    has ((24 ∷ 1 ∷ 1 ∷ 0 ∷ 0 ∷ 0 ∷ 0 ∷ 0 ∷ 0 ∷ 0 ∷ 146 ∷ 140 ∷ 0 ∷ []) ∷ (63 ∷ 2 ∷ 0 ∷ 0 ∷ 0 ∷ 0 ∷ 2 ∷ 0 ∷ 0 ∷ 0 ∷ 0 ∷ 147 ∷ 0 ∷ []) ∷ (24 ∷ 1 ∷ 2 ∷ 0 ∷ 0 ∷ 0 ∷ 0 ∷ 0 ∷ 0 ∷ 0 ∷ 172 ∷ 166 ∷ 0 ∷ []) ∷ (69 ∷ 4 ∷ 0 ∷ 0 ∷ 0 ∷ 0 ∷ 1 ∷ 0 ∷ 0 ∷ 0 ∷ 0 ∷ 173 ∷ 0 ∷ []) ∷ [])
    -- D45: two unnumbered questions, one that writes 1, one unnumbered: 2, 3, 1, 4
    ∷ framed "checkbox prompt=STRING_TOKEN(5),help=STRING_TOKEN(6),endcheckbox;goto 1,prompt=STRING_TOKEN(5),help=STRING_TOKEN(6);checkbox questionid=1,prompt=STRING_TOKEN(5),help=STRING_TOKEN(6),endcheckbox;checkbox prompt=STRING_TOKEN(5),help=STRING_TOKEN(6),endcheckbox;"
    has ((6 ∷ 1 ∷ 2 ∷ 5 ∷ 6 ∷ 0 ∷ 0 ∷ 0 ∷ 0 ∷ 0 ∷ 0 ∷ 140 ∷ 0 ∷ []) ∷ (15 ∷ 1 ∷ 3 ∷ 5 ∷ 6 ∷ 0 ∷ 1 ∷ 0 ∷ 0 ∷ 0 ∷ 0 ∷ 205 ∷ 0 ∷ []) ∷ (6 ∷ 1 ∷ 1 ∷ 5 ∷ 6 ∷ 0 ∷ 0 ∷ 0 ∷ 0 ∷ 0 ∷ 0 ∷ 256 ∷ 0 ∷ []) ∷ (6 ∷ 1 ∷ 4 ∷ 5 ∷ 6 ∷ 0 ∷ 0 ∷ 0 ∷ 0 ∷ 0 ∷ 0 ∷ 334 ∷ 0 ∷ []) ∷ [])
    -- D48: places of operators and operands
    ∷ framed "rule A,(1)+NOT 2 endrule;"
    has ((24 ∷ 1 ∷ 1 ∷ 0 ∷ 0 ∷ 0 ∷ 0 ∷ 0 ∷ 0 ∷ 0 ∷ 146 ∷ 140 ∷ 0 ∷ []) ∷ (69 ∷ 2 ∷ 0 ∷ 0 ∷ 0 ∷ 0 ∷ 1 ∷ 0 ∷ 0 ∷ 0 ∷ 0 ∷ 148 ∷ 0 ∷ []) ∷ (69 ∷ 2 ∷ 0 ∷ 0 ∷ 0 ∷ 0 ∷ 2 ∷ 0 ∷ 0 ∷ 0 ∷ 0 ∷ 155 ∷ 0 ∷ []) ∷ (23 ∷ 2 ∷ 0 ∷ 0 ∷ 0 ∷ 0 ∷ 0 ∷ 0 ∷ 0 ∷ 0 ∷ 0 ∷ 151 ∷ 0 ∷ []) ∷ (58 ∷ 2 ∷ 0 ∷ 0 ∷ 0 ∷ 0 ∷ 0 ∷ 0 ∷ 0 ∷ 0 ∷ 0 ∷ 150 ∷ 0 ∷ []) ∷ [])
    -- D50, D63: flags
    ∷ framed "checkbox prompt=STRING_TOKEN(5),help=STRING_TOKEN(6),flags=RESET_REQUIRED|READ_ONLY|READ_ONLY,default=FALSE,endcheckbox;"
    has ((6 ∷ 1 ∷ 1 ∷ 5 ∷ 6 ∷ 273 ∷ 0 ∷ 0 ∷ 0 ∷ 0 ∷ 0 ∷ 140 ∷ 0 ∷ []) ∷ [])
    -- D51: text then help, though the source has help first; D52: options
    ∷ framed "text help=STRING_TOKEN(7),text=STRING_TOKEN(8);oneof prompt=STRING_TOKEN(5),help=STRING_TOKEN(6),option text=STRING_TOKEN(7),value=8,flags=DEFAULT;endoneof;"
    has ((3 ∷ 1 ∷ 0 ∷ 8 ∷ 7 ∷ 0 ∷ 0 ∷ 0 ∷ 0 ∷ 0 ∷ 0 ∷ 140 ∷ 0 ∷ []) ∷ (5 ∷ 1 ∷ 1 ∷ 5 ∷ 6 ∷ 0 ∷ 0 ∷ 0 ∷ 0 ∷ 0 ∷ 0 ∷ 187 ∷ 0 ∷ []) ∷ (9 ∷ 3 ∷ 0 ∷ 7 ∷ 0 ∷ 16 ∷ 8 ∷ 0 ∷ 0 ∷ 0 ∷ 0 ∷ 237 ∷ 0 ∷ []) ∷ [])
    -- a numeric with all its parts, in a condition
    ∷ framed "disableif TRUE;numeric name=N,questionid=9,prompt=STRING_TOKEN(5),help=STRING_TOKEN(6),flags=INTERACTIVE,minimum=1,maximum=0xFF,step=2,default=3,endnumeric;subtitle text=STRING_TOKEN(9);endif;"
    has ((30 ∷ 1 ∷ 0 ∷ 0 ∷ 0 ∷ 0 ∷ 0 ∷ 0 ∷ 0 ∷ 0 ∷ 0 ∷ 140 ∷ 0 ∷ []) ∷ (70 ∷ 2 ∷ 0 ∷ 0 ∷ 0 ∷ 0 ∷ 0 ∷ 0 ∷ 0 ∷ 0 ∷ 0 ∷ 150 ∷ 0 ∷ []) ∷ (7 ∷ 2 ∷ 9 ∷ 5 ∷ 6 ∷ 260 ∷ 1 ∷ 255 ∷ 2 ∷ 3 ∷ 169 ∷ 155 ∷ 33 ∷ []) ∷ (2 ∷ 2 ∷ 0 ∷ 9 ∷ 0 ∷ 0 ∷ 0 ∷ 0 ∷ 0 ∷ 0 ∷ 0 ∷ 296 ∷ 0 ∷ []) ∷ [])
    -- W204.30, W204.31: numbers as they are written, size times 4 plus display; a repeated flag adds nothing
    ∷ framed_bytes (numeric "NUMERIC_SIZE_1|DISPLAY_INT_DEC" "minimum=251,maximum=5,default=255")
    has ((7 ∷ 1 ∷ 1 ∷ 5 ∷ 6 ∷ 256 ∷ 251 ∷ 5 ∷ 1 ∷ 255 ∷ 0 ∷ 140 ∷ 4 ∷ []) ∷ [])
    ∷ framed_bytes (numeric "NUMERIC_SIZE_1|DISPLAY_UINT_HEX|READ_ONLY|READ_ONLY" "minimum=0,maximum=1")
    has ((7 ∷ 1 ∷ 1 ∷ 5 ∷ 6 ∷ 1 ∷ 0 ∷ 1 ∷ 1 ∷ 0 ∷ 0 ∷ 140 ∷ 6 ∷ []) ∷ [])
    ∷ framed_bytes (numeric "DISPLAY_INT_DEC" "minimum=18446744073709551611,maximum=5")
    has ((7 ∷ 1 ∷ 1 ∷ 5 ∷ 6 ∷ 0 ∷ 18446744073709551611 ∷ 5 ∷ 1 ∷ 0 ∷ 0 ∷ 140 ∷ 32 ∷ []) ∷ [])
    -- W208.37: an absent step is 1, which is not compared with the limits; a written 0 stays 0
    ∷ framed "numeric prompt=STRING_TOKEN(5),help=STRING_TOKEN(6),minimum=0,maximum=0,endnumeric;"
    has ((7 ∷ 1 ∷ 1 ∷ 5 ∷ 6 ∷ 0 ∷ 0 ∷ 0 ∷ 1 ∷ 0 ∷ 0 ∷ 140 ∷ 33 ∷ []) ∷ [])
    ∷ framed "numeric prompt=STRING_TOKEN(5),help=STRING_TOKEN(6),minimum=0,maximum=0,step=0,endnumeric;"
    has ((7 ∷ 1 ∷ 1 ∷ 5 ∷ 6 ∷ 0 ∷ 0 ∷ 0 ∷ 0 ∷ 0 ∷ 0 ∷ 140 ∷ 33 ∷ []) ∷ [])
    ∷ framed "numeric prompt=STRING_TOKEN(5),help=STRING_TOKEN(6),minimum=0,maximum=0,step=1,endnumeric;"
    has ((7 ∷ 1 ∷ 1 ∷ 5 ∷ 6 ∷ 0 ∷ 0 ∷ 0 ∷ 1 ∷ 0 ∷ 0 ∷ 140 ∷ 33 ∷ []) ∷ [])
    ∷ []

pub accepted_as_decided : map (λ x. rows_read x.source) accepted_cases ≡ map (λ x. x.rows) accepted_cases
unfolding accepted_cases rows_read
accepted_as_decided = refl

-- ---- sources in which every goto and reference finds its target

unfoldable pub found_cases : List (List ℕ)
found_cases =
    -- "looking for goto targets only in earlier forms" is a slip: a goto to a later form
    bytes "formset guid={0x1,0x2,0x3,{0x4,0x5,0x6,0x7,0x8,0x9,0xA,0xB}},title=STRING_TOKEN(2),help=STRING_TOKEN(3),form formid=1,title=STRING_TOKEN(4);goto 2,prompt=STRING_TOKEN(5),help=STRING_TOKEN(6);endform;form formid=2,title=STRING_TOKEN(4);endform;endformset;"
    -- D39: a goto to its own form, and a rule that refers to itself
    ∷ framed "goto 1,prompt=STRING_TOKEN(5),help=STRING_TOKEN(6);rule A,ruleref(A) endrule;"
    -- a questionref to a later question, by name and by number
    ∷ framed "rule A,questionref(B)+questionref(9) endrule;checkbox name=B,questionid=9,prompt=STRING_TOKEN(5),help=STRING_TOKEN(6),endcheckbox;"
    -- W203.18: a later rule of its form; one of its form, which is not the first, from conditions inside one another
    ∷ framed "suppressif ruleref(A);endif;rule A,1 endrule;"
    ∷ two_forms "rule B,1 endrule;" "rule A,1 endrule;grayoutif 1;disableif ruleref(A);endif;endif;"
    -- W203.19: a questionref to a question of another form
    ∷ two_forms "checkbox name=A,prompt=STRING_TOKEN(5),help=STRING_TOKEN(6),endcheckbox;" "suppressif questionref(A);endif;"
    ∷ []

pub found_as_decided : map (λ s. unfound_read s) found_cases ≡ map (λ s. []) found_cases
unfolding found_cases unfound_read
found_as_decided = refl
