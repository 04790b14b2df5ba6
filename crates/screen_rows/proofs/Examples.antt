-- A whole source, from its bytes to those of its rows, by computation.
-- Assumes nothing.
use Prim.Native.Nat.{ℕ}
use mathlib.Core.Path.{◌≡◌, refl}
use mathlib.Core.List.{List, [], ◌∷◌, ◌++◌, flatten}
use Rattle.lexemes.specs.Lexemes.{bytes}
use Rattle.rows.specs.Codes.{member, expressions, is_expression}
use Rattle.rows.specs.Table.{row_at}
use Rattle.numbers.specs.Numbers.{used}
use Rattle.operators.specs.Values.{applied, operations, constants, found, sum}
use Rattle.operators.specs.declared.Scalar.TheVariants.{Number, Undefined}
use Rattle.saved_answers.specs.Answers.{by_kind}
use Rattle.saved_answers.specs.Search.{halved, lowest, searched, question_value}
use Rattle.answers.proofs.Computed.{rows_read}
use Rattle.evaluate.specs.Machine.{is_binary, pushed, stepped, operand_value, after_rows, evaluated}
use Rattle.laid.specs.Ends.{end_of}
use Rattle.screen.specs.Kinds.{items, hiding, greying, is_item, hides, greys}
use Rattle.screen_rows.specs.Passes.{flags_in, all_flags, items_only, shown}

source : List ℕ
source =
    bytes "formset guid={0x1,0x2,0x3,{0x4,0x5,0x6,0x7,0x8,0x9,0xA,0xB}},title=STRING_TOKEN(2),help=STRING_TOKEN(3),"
    ++ bytes "form formid=1,title=STRING_TOKEN(4);"
    ++ bytes "checkbox questionid=5,prompt=STRING_TOKEN(0),help=STRING_TOKEN(0),endcheckbox;rule A,7 endrule;"
    ++ bytes "suppressif questionref(5);grayoutif ruleref(A)+1==8;label 1;endif;label 2;endif;"
    ++ bytes "disableif UNDEFINED;label 3;endif;endform;endformset;"

-- the checkbox is answered 2; 5 is the number of a checkbox and no goto; the first rule is worth 7
worked :
    shown (5 ∷ 2 ∷ []) [] (32 ∷ []) (Undefined ∷ Number 7 ∷ []) (flatten (rows_read source)) 18
    ≡ 0 ∷ 0 ∷ 0 ∷ 0 ∷ 0
    -- suppressif and grayoutif with their expressions, and the first label
    ∷ 0 ∷ 0 ∷ 0 ∷ 0 ∷ 0 ∷ 0 ∷ 0 ∷ 0 ∷ 3
    -- the second label; disableif, and the third
    ∷ 1 ∷ 0 ∷ 0 ∷ 0 ∷ []
unfolding source rows_read flatten row_at shown items_only all_flags flags_in is_item hides greys items hiding greying member
    end_of is_expression expressions evaluated after_rows stepped pushed is_binary operand_value applied operations constants found sum
    question_value searched lowest halved by_kind used
worked = refl
