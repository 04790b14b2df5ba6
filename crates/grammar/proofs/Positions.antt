-- The parts of statements stand where `specs/Positions` says, by computation over the grammar's table: at each named position stands the symbol
-- of the part, and before it the words that lead to it.
-- Assumes nothing.
use mathlib.Core.Path.{◌≡◌, refl}
use mathlib.Core.List.{List, [], ◌∷◌, map}
use mathlib.Core.Option.{Option, none, some}
use Prim.Native.Nat.{ℕ, suc, ◌-◌}
use lib.ListN.{length, take, drop}
use Rattle.lexemes.specs.Classes.{open_brace, open_paren, comma, «=», «default», «flags», «formid», «guid», «help», «label», «maximum», «minimum», «name», «prompt», «questionid», «rule», «step», «text», «title», «value», «goto», «checkbox», «numeric», «oneof», «suppressif», «grayoutif», «disableif», NAME}
use Rattle.ll1.specs.Trees.{Symbol, Alternative, alternative_of}
use Rattle.grammar.specs.Rules.{<source>, <guid>, <guid_end>, <eight>, <H8>, <H4>, <H2>, <str>, <id>, <small>, <large>, <form>, <rule>, <item>, <goto_flags>?, <flags>?, <truth_default>?, <truth>, <step>?, <number_default>?, <option>, <option_flags>, <head>, <name>?, <questionid>?, <expression>, <atom>, <name_or_number>, <numeric_flags>?, <numeric_value>}
use Rattle.grammar.specs.Grammar.{rules, productions}
use Rattle.grammar.specs.Notation.{t, r}
use Rattle.grammar.specs.Positions.{formset_guid, formset_title, formset_help, guid_first, guid_second, guid_third, guid_end, guid_end_braced, guid_end_bare, eight_byte, str_number, form_number, form_title, rule_name, rule_expression}
use Rattle.grammar.specs.Positions.{subtitle_text, text_help, text_text, label_number, goto_form, goto_head, goto_flags, checkbox_head, checkbox_flags, checkbox_default, numeric_head, numeric_flags, numeric_minimum, numeric_maximum, numeric_step, numeric_default, oneof_head, oneof_flags, condition_expression}
use Rattle.grammar.specs.Positions.{default_value, step_value, option_text, option_value, option_flags, head_name, head_number, head_prompt, head_help, name_word, questionid_number, questionref_target, ruleref_name}

-- alternative i of rule A has the part at a position, these symbols leading up to it
data Part : Type 0 where
  part : (A i position : ℕ) → List Symbol → Part

-- the symbols that are to stand there
abbrev named : Part → List Symbol
named (part A i n σ) = σ

-- as many symbols of the alternative, up to the position
abbrev up_to : ℕ → ℕ → Option Alternative → List Symbol
up_to n k none = []
up_to n k (some a) = take k (drop (suc n - k) a.symbols)

abbrev standing : Part → List Symbol
standing (part A i n σ) = up_to n (length σ) (alternative_of rules A i)

parts : List Part
parts =
    part <source> 0 formset_guid (t «guid» ∷ t «=» ∷ r <guid> ∷ [])
    ∷ part <source> 0 formset_title (t «title» ∷ t «=» ∷ r <str> ∷ [])
    ∷ part <source> 0 formset_help (t «help» ∷ t «=» ∷ r <str> ∷ [])
    ∷ part <guid> 0 guid_first (t open_brace ∷ r <H8> ∷ [])
    ∷ part <guid> 0 guid_second (t comma ∷ r <H4> ∷ [])
    ∷ part <guid> 0 guid_third (r <H4> ∷ t comma ∷ r <H4> ∷ [])
    ∷ part <guid> 0 guid_end (t comma ∷ r <guid_end> ∷ [])
    ∷ part <guid_end> 0 guid_end_braced (t open_brace ∷ r <eight> ∷ [])
    ∷ part <guid_end> 1 guid_end_bare (r <eight> ∷ [])
    ∷ part <eight> 0 (eight_byte 0) (r <H2> ∷ [])
    ∷ part <eight> 0 (eight_byte 1) (t comma ∷ r <H2> ∷ [])
    ∷ part <eight> 0 (eight_byte 2) (t comma ∷ r <H2> ∷ [])
    ∷ part <eight> 0 (eight_byte 3) (t comma ∷ r <H2> ∷ [])
    ∷ part <eight> 0 (eight_byte 4) (t comma ∷ r <H2> ∷ [])
    ∷ part <eight> 0 (eight_byte 5) (t comma ∷ r <H2> ∷ [])
    ∷ part <eight> 0 (eight_byte 6) (t comma ∷ r <H2> ∷ [])
    ∷ part <eight> 0 (eight_byte 7) (t comma ∷ r <H2> ∷ [])
    ∷ part <str> 0 str_number (t open_paren ∷ r <small> ∷ [])
    ∷ part <form> 0 form_number (t «formid» ∷ t «=» ∷ r <id> ∷ [])
    ∷ part <form> 0 form_title (t «title» ∷ t «=» ∷ r <str> ∷ [])
    ∷ part <rule> 0 rule_name (t «rule» ∷ t NAME ∷ [])
    ∷ part <rule> 0 rule_expression (t comma ∷ r <expression> ∷ [])
    ∷ part <item> 0 subtitle_text (t «text» ∷ t «=» ∷ r <str> ∷ [])
    ∷ part <item> 1 text_help (t «help» ∷ t «=» ∷ r <str> ∷ [])
    ∷ part <item> 1 text_text (t «text» ∷ t «=» ∷ r <str> ∷ [])
    ∷ part <item> 2 label_number (t «label» ∷ r <small> ∷ [])
    ∷ part <item> 3 goto_form (t «goto» ∷ r <id> ∷ [])
    ∷ part <item> 3 goto_head (t comma ∷ r <head> ∷ [])
    ∷ part <item> 3 goto_flags (r <goto_flags>? ∷ [])
    ∷ part <item> 4 checkbox_head (t «checkbox» ∷ r <head> ∷ [])
    ∷ part <item> 4 checkbox_flags (t comma ∷ r <flags>? ∷ [])
    ∷ part <item> 4 checkbox_default (r <truth_default>? ∷ [])
    ∷ part <item> 5 numeric_head (t «numeric» ∷ r <head> ∷ [])
    ∷ part <item> 5 numeric_flags (t comma ∷ r <numeric_flags>? ∷ [])
    ∷ part <item> 5 numeric_minimum (t «minimum» ∷ t «=» ∷ r <numeric_value> ∷ [])
    ∷ part <item> 5 numeric_maximum (t «maximum» ∷ t «=» ∷ r <numeric_value> ∷ [])
    ∷ part <item> 5 numeric_step (t comma ∷ r <step>? ∷ [])
    ∷ part <item> 5 numeric_default (r <number_default>? ∷ [])
    ∷ part <item> 6 oneof_head (t «oneof» ∷ r <head> ∷ [])
    ∷ part <item> 6 oneof_flags (t comma ∷ r <flags>? ∷ [])
    ∷ part <item> 7 condition_expression (t «suppressif» ∷ r <expression> ∷ [])
    ∷ part <item> 8 condition_expression (t «grayoutif» ∷ r <expression> ∷ [])
    ∷ part <item> 9 condition_expression (t «disableif» ∷ r <expression> ∷ [])
    ∷ part <truth_default>? 1 default_value (t «default» ∷ t «=» ∷ r <truth> ∷ [])
    ∷ part <number_default>? 1 default_value (t «default» ∷ t «=» ∷ r <numeric_value> ∷ [])
    ∷ part <step>? 1 step_value (t «step» ∷ t «=» ∷ r <numeric_value> ∷ [])
    ∷ part <option> 0 option_text (t «text» ∷ t «=» ∷ r <str> ∷ [])
    ∷ part <option> 0 option_value (t «value» ∷ t «=» ∷ r <large> ∷ [])
    ∷ part <option> 0 option_flags (t «flags» ∷ t «=» ∷ r <option_flags> ∷ [])
    ∷ part <head> 0 head_name (r <name>? ∷ [])
    ∷ part <head> 0 head_number (r <questionid>? ∷ [])
    ∷ part <head> 0 head_prompt (t «prompt» ∷ t «=» ∷ r <str> ∷ [])
    ∷ part <head> 0 head_help (t «help» ∷ t «=» ∷ r <str> ∷ [])
    ∷ part <name>? 1 name_word (t «name» ∷ t «=» ∷ t NAME ∷ [])
    ∷ part <questionid>? 1 questionid_number (t «questionid» ∷ t «=» ∷ r <id> ∷ [])
    ∷ part <atom> 9 questionref_target (t open_paren ∷ r <name_or_number> ∷ [])
    ∷ part <atom> 10 ruleref_name (t open_paren ∷ t NAME ∷ [])
    ∷ []

parts_as_named : map standing parts ≡ map named parts
unfolding parts rules productions
parts_as_named = refl
