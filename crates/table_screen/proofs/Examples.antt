-- A whole source, from its bytes to those of its rows, by computation.
-- Assumes nothing.
use Prim.Native.Nat.{ℕ}
use mathlib.Core.Path.{◌≡◌, refl}
use mathlib.Core.List.{List, [], ◌∷◌, ◌++◌, flatten}
use Rattle.lexemes.specs.Lexemes.{bytes}
use Rattle.rows.specs.Codes.{member, expressions, is_expression}
use Rattle.rows.specs.Table.{row_at}
use Rattle.rows.specs.Rows.{rows_from}
use Rattle.numbers.specs.Numbers.{used, picked}
use Rattle.operators.specs.Values.{applied, operations, constants, found, sum}
use Rattle.circles.specs.Circles.{leads, closure}
use Rattle.ranks.specs.Ranks.{rank, by_rank, padded, order_of}
use Rattle.rule_steps.specs.Steps.{rule_round, step_in, steps_among}
use Rattle.question_kinds.specs.Kinds.{own_in, owns_in}
use Rattle.saved_answers.specs.Answers.{by_kind}
use Rattle.saved_answers.specs.Search.{halved, lowest, searched, question_value}
use Rattle.answers.proofs.Computed.{rows_read}
use Rattle.evaluate.specs.Machine.{is_binary, pushed, stepped, operand_value, after_rows, evaluated}
use Rattle.laid.specs.Ends.{end_of}
use Rattle.rule_values.specs.Values.{placed_row, placed_rows, with_rule, with_rules}
use Rattle.screen.specs.Kinds.{items, hiding, greying, is_item, hides, greys}
use Rattle.screen_rows.specs.Passes.{flags_in, all_flags, items_only, shown}
use Rattle.table_screen.specs.TableScreen.{rule_order, rule_places, no_values, rule_values, table_screen}

-- the first rule refers to the second
source : List ℕ
source =
    bytes "formset guid={0x1,0x2,0x3,{0x4,0x5,0x6,0x7,0x8,0x9,0xA,0xB}},title=STRING_TOKEN(2),help=STRING_TOKEN(3),"
    ++ bytes "form formid=1,title=STRING_TOKEN(4);"
    ++ bytes "checkbox questionid=5,prompt=STRING_TOKEN(0),help=STRING_TOKEN(0),endcheckbox;"
    ++ bytes "rule A,ruleref(B)AND questionref(5) endrule;rule B,TRUE endrule;"
    ++ bytes "suppressif ruleref(A);label 1;endif;label 2;endform;endformset;"

order : rule_order (flatten (rows_read source)) 13 ≡ 2 ∷ 1 ∷ []
unfolding source rows_read flatten row_at rows_from own_in owns_in rule_order rule_round step_in steps_among leads closure picked rank by_rank padded order_of
order = refl

-- the checkbox is answered 2; 5 is the number of a checkbox and no goto
worked : table_screen (5 ∷ 2 ∷ []) [] (32 ∷ []) (flatten (rows_read source)) 13 ≡ 0 ∷ 0 ∷ 0 ∷ 0 ∷ 0 ∷ 0 ∷ 0 ∷ 0 ∷ 0 ∷ 0 ∷ 0 ∷ 1 ∷ 0 ∷ []
unfolding source rows_read flatten row_at rows_from shown items_only all_flags flags_in is_item hides greys items hiding greying member
    end_of is_expression expressions evaluated after_rows stepped pushed is_binary operand_value applied operations constants found sum
    question_value searched lowest halved by_kind used
    own_in owns_in rule_order rule_round step_in steps_among leads closure picked rank by_rank padded order_of
    placed_row placed_rows with_rule with_rules rule_places no_values rule_values table_screen
worked = refl
