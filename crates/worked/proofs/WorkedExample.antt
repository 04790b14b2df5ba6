-- Document 01's worked example, by computation: its 15 rows, 65,533 free numbers, and its resolved text, with document 02's W-204 and W-208.
-- Assumes nothing.
use mathlib.Core.Path.{◌≡◌, refl}
use mathlib.Core.List.{List, [], ◌∷◌, ◌++◌}
use Prim.Native.Nat.{ℕ, ◌*◌}
use Prim.Native.String.{String}
use Rattle.lexemes.specs.Lexemes.{bytes}
use Rattle.rows.specs.Columns.{ROW}
use Rattle.answers.specs.Answer.{accepts}
use Rattle.answers.proofs.Computed.{Resolved, outcome_in, resolved_in}

-- the input
pub example : List ℕ
example =
    bytes "formset guid={0x1,0x2,0x3,{0x4,0x5,0x6,0x7,0x8,0x9,0xA,0xB}},title=STRING_TOKEN(2),help=STRING_TOKEN(3),\n"
    ++ (bytes "form formid=0x10,title=STRING_TOKEN(4);\n"
    ++ (bytes "checkbox name=Fan,prompt=STRING_TOKEN(5),help=STRING_TOKEN(6),default=TRUE,endcheckbox;\n"
    ++ (bytes "suppressif NOT questionref(Fan)OR 1+2*3==7;\n"
    ++ (bytes "numeric questionid=1,prompt=STRING_TOKEN(7),help=STRING_TOKEN(8),flags=READ_ONLY,minimum=0,maximum=9,endnumeric;\n"
    ++ bytes "endif;\nendform;\nendformset;\n"))))

-- its rows
pub example_rows : List (List ℕ)
example_rows =
    (14 ∷ 0 ∷ 0 ∷ 2 ∷ 3 ∷ 0 ∷ 4295098371 ∷ 289644378304612875 ∷ 0 ∷ 0 ∷ 0 ∷ 0 ∷ 0 ∷ [])
    ∷ (1 ∷ 0 ∷ 16 ∷ 4 ∷ 0 ∷ 0 ∷ 0 ∷ 0 ∷ 0 ∷ 0 ∷ 0 ∷ 105 ∷ 0 ∷ [])
    ∷ (6 ∷ 1 ∷ 2 ∷ 5 ∷ 6 ∷ 256 ∷ 0 ∷ 0 ∷ 0 ∷ 1 ∷ 160 ∷ 145 ∷ 0 ∷ [])
    ∷ (10 ∷ 1 ∷ 0 ∷ 0 ∷ 0 ∷ 0 ∷ 0 ∷ 0 ∷ 0 ∷ 0 ∷ 0 ∷ 233 ∷ 0 ∷ [])
    ∷ (64 ∷ 3 ∷ 0 ∷ 0 ∷ 0 ∷ 0 ∷ 2 ∷ 0 ∷ 0 ∷ 0 ∷ 0 ∷ 248 ∷ 0 ∷ [])
    ∷ (23 ∷ 3 ∷ 0 ∷ 0 ∷ 0 ∷ 0 ∷ 0 ∷ 0 ∷ 0 ∷ 0 ∷ 0 ∷ 244 ∷ 0 ∷ [])
    ∷ (69 ∷ 3 ∷ 0 ∷ 0 ∷ 0 ∷ 0 ∷ 1 ∷ 0 ∷ 0 ∷ 0 ∷ 0 ∷ 267 ∷ 0 ∷ [])
    ∷ (69 ∷ 3 ∷ 0 ∷ 0 ∷ 0 ∷ 0 ∷ 2 ∷ 0 ∷ 0 ∷ 0 ∷ 0 ∷ 269 ∷ 0 ∷ [])
    ∷ (69 ∷ 3 ∷ 0 ∷ 0 ∷ 0 ∷ 0 ∷ 3 ∷ 0 ∷ 0 ∷ 0 ∷ 0 ∷ 271 ∷ 0 ∷ [])
    ∷ (60 ∷ 3 ∷ 0 ∷ 0 ∷ 0 ∷ 0 ∷ 0 ∷ 0 ∷ 0 ∷ 0 ∷ 0 ∷ 270 ∷ 0 ∷ [])
    ∷ (58 ∷ 3 ∷ 0 ∷ 0 ∷ 0 ∷ 0 ∷ 0 ∷ 0 ∷ 0 ∷ 0 ∷ 0 ∷ 268 ∷ 0 ∷ [])
    ∷ (69 ∷ 3 ∷ 0 ∷ 0 ∷ 0 ∷ 0 ∷ 7 ∷ 0 ∷ 0 ∷ 0 ∷ 0 ∷ 274 ∷ 0 ∷ [])
    ∷ (47 ∷ 3 ∷ 0 ∷ 0 ∷ 0 ∷ 0 ∷ 0 ∷ 0 ∷ 0 ∷ 0 ∷ 0 ∷ 272 ∷ 0 ∷ [])
    ∷ (22 ∷ 3 ∷ 0 ∷ 0 ∷ 0 ∷ 0 ∷ 0 ∷ 0 ∷ 0 ∷ 0 ∷ 0 ∷ 264 ∷ 0 ∷ [])
    ∷ (7 ∷ 3 ∷ 1 ∷ 7 ∷ 8 ∷ 1 ∷ 0 ∷ 9 ∷ 1 ∷ 0 ∷ 0 ∷ 277 ∷ 33 ∷ [])
    ∷ []

pub example_read : outcome_in (15 * ROW) example ≡ record { answer = accepts 15 65533; rows = example_rows }
unfolding example example_rows outcome_in
example_read = refl

-- its resolved text, with further flag words of its numeric, and the numeric's step
abbrev example_text : String → String → List ℕ
example_text flags step =
    bytes "formset guid = { 0x00000001 , 0x0002 , 0x0003 , { 0x04 , 0x05 , 0x06 , 0x07 , 0x08 , 0x09 , 0x0a , 0x0b } } , "
    ++ (bytes "title = STRING_TOKEN ( 2 ) , help = STRING_TOKEN ( 3 ) , form formid = 16 , title = STRING_TOKEN ( 4 ) ;\n"
    ++ (bytes "checkbox questionid = 2 , prompt = STRING_TOKEN ( 5 ) , help = STRING_TOKEN ( 6 ) , default = TRUE , endcheckbox ;\n"
    ++ (bytes "suppressif NOT questionref ( 2 ) OR 1 + 2 * 3 == 7 ;\n"
    ++ (bytes "numeric questionid = 1 , prompt = STRING_TOKEN ( 7 ) , help = STRING_TOKEN ( 8 ) , flags = READ_ONLY"
    ++ (bytes flags ++ (bytes " , minimum = 0 , maximum = 9 , step = " ++ (bytes step ++ bytes " , endnumeric ;\nendif ;\nendform ;\nendformset ;\n")))))))

-- what resolving it gives
abbrev resolved_to : List ℕ → Resolved
resolved_to t = record { answer = record { number = 0; place = 0; rows = 15; free = 65533; bytes = 605 }; text = t }

-- the program `resolve` lends 512 rows and 65,536 bytes. An absent step is 1 (W-208)
pub example_resolved : resolved_in (512 * ROW) 65536 example ≡ resolved_to (example_text " | NUMERIC_SIZE_8 | DISPLAY_UINT_DEC" "1")
unfolding example resolved_in
example_resolved = refl

-- "Older resolved text writes every step and reads as before" (W-208): that of document 01, which names no size and no display, keeps its 0
pub older_resolved : resolved_in (512 * ROW) 65536 (example_text "" "0") ≡ resolved_to (example_text " | NUMERIC_SIZE_8 | DISPLAY_UINT_DEC" "0")
unfolding resolved_in
older_resolved = refl
