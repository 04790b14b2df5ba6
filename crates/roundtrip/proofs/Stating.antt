-- The alternatives of the rules that state something, each with its symbols.
-- Assumes nothing.
use mathlib.Core.Path.{◌≡◌, subst}
use mathlib.Core.List.{List, [], ◌∷◌}
use mathlib.Core.Option.{some}
use mathlib.Core.Bool.{true, false}
use Prim.Native.Nat.{ℕ, zero, suc}
use lib.Dec.{eqb}
use borrow.Author.Tests.{eqb-true}
use Rattle.lexemes.specs.Classes as class
use Rattle.lexemes.proofs.Lists.{either}
use Rattle.ll1.specs.Trees.{Symbol, Alternative, alternative_of}
use Rattle.ll1.proofs.Basics.{clash}
use Rattle.grammar.specs.Notation.{t, r, plain, condition}
use Rattle.grammar.specs.Rules.{<source>, <form>*, <guid>, <str>, <id>, <small>, <large>, <form>, <item_or_rule>*, <rule>, <item>, <goto_flags>?, <flags>?, <truth_default>?, <step>?, <number_default>?, <option>*, <item>*, <option>, <option_flags>, <head>, <expression>, <numeric_flags>?, <numeric_value>}
use Rattle.grammar.specs.Grammar.{rules}
use Rattle.grammar.proofs.Statements.{states}
use Rattle.formulas.proofs.Inverse.{alternative_is, no_alternative}

-- ---- the symbols of the statements

-- formset guid = GUID , title = STR , help = STR , form+ endformset ;
abbrev pub form_set_symbols : List Symbol
form_set_symbols =
    t class.«formset» ∷ t class.«guid» ∷ t class.«=» ∷ r <guid> ∷ t class.comma ∷ t class.«title» ∷ t class.«=» ∷ r <str> ∷ t class.comma
    ∷ t class.«help» ∷ t class.«=» ∷ r <str> ∷ t class.comma
    ∷ r <form> ∷ r <form>* ∷ t class.«endformset» ∷ t class.semicolon ∷ []

-- form formid = N , title = STR ; (item or rule)* endform ;
abbrev pub form_symbols : List Symbol
form_symbols =
    t class.«form» ∷ t class.«formid» ∷ t class.«=» ∷ r <id> ∷ t class.comma ∷ t class.«title» ∷ t class.«=» ∷ r <str> ∷ t class.semicolon
    ∷ r <item_or_rule>* ∷ t class.«endform» ∷ t class.semicolon ∷ []

-- rule NAME , expression endrule ;
abbrev pub rule_symbols : List Symbol
rule_symbols = t class.«rule» ∷ t class.NAME ∷ t class.comma ∷ r <expression> ∷ t class.«endrule» ∷ t class.semicolon ∷ []

-- subtitle text = STR ;
abbrev pub subtitle_symbols : List Symbol
subtitle_symbols = t class.«subtitle» ∷ t class.«text» ∷ t class.«=» ∷ r <str> ∷ t class.semicolon ∷ []

-- text help = STR , text = STR ;
abbrev pub text_symbols : List Symbol
text_symbols = t class.«text» ∷ t class.«help» ∷ t class.«=» ∷ r <str> ∷ t class.comma ∷ t class.«text» ∷ t class.«=» ∷ r <str> ∷ t class.semicolon ∷ []

-- label N ;
abbrev pub label_symbols : List Symbol
label_symbols = t class.«label» ∷ r <small> ∷ t class.semicolon ∷ []

-- goto N , HEAD [, flags = FL] ;
abbrev pub goto_symbols : List Symbol
goto_symbols = t class.«goto» ∷ r <id> ∷ t class.comma ∷ r <head> ∷ r <goto_flags>? ∷ t class.semicolon ∷ []

-- checkbox HEAD , [flags = FL ,] [default = TRUE or FALSE ,] endcheckbox ;
abbrev pub checkbox_symbols : List Symbol
checkbox_symbols = t class.«checkbox» ∷ r <head> ∷ t class.comma ∷ r <flags>? ∷ r <truth_default>? ∷ t class.«endcheckbox» ∷ t class.semicolon ∷ []

-- numeric HEAD , [flags = FL ,] minimum = N , maximum = N , [step = N ,] [default = N ,] endnumeric ;
abbrev pub numeric_symbols : List Symbol
numeric_symbols =
    t class.«numeric» ∷ r <head> ∷ t class.comma ∷ r <numeric_flags>? ∷ t class.«minimum» ∷ t class.«=» ∷ r <numeric_value> ∷ t class.comma
    ∷ t class.«maximum» ∷ t class.«=» ∷ r <numeric_value> ∷ t class.comma
    ∷ r <step>? ∷ r <number_default>? ∷ t class.«endnumeric» ∷ t class.semicolon ∷ []

-- oneof HEAD , [flags = FL ,] option+ endoneof ;
abbrev pub one_of_symbols : List Symbol
one_of_symbols = t class.«oneof» ∷ r <head> ∷ t class.comma ∷ r <flags>? ∷ r <option> ∷ r <option>* ∷ t class.«endoneof» ∷ t class.semicolon ∷ []

-- suppressif, grayoutif or disableif, expression ; item* endif ;
abbrev pub condition_symbols : ℕ → List Symbol
condition_symbols k = t k ∷ r <expression> ∷ t class.semicolon ∷ r <item>* ∷ t class.«endif» ∷ t class.semicolon ∷ []

-- option text = STR , value = N , flags = (N or DEFAULT) ;
abbrev pub option_symbols : List Symbol
option_symbols =
    t class.«option» ∷ t class.«text» ∷ t class.«=» ∷ r <str> ∷ t class.comma ∷ t class.«value» ∷ t class.«=» ∷ r <large> ∷ t class.comma
    ∷ t class.«flags» ∷ t class.«=» ∷ r <option_flags>
    ∷ t class.semicolon ∷ []

-- ---- the alternatives

pub data Stating : (rule alternative : ℕ) → Alternative → Type 0 where
  is_form_set : Stating <source> 0 (plain form_set_symbols)
  is_no_forms : Stating <form>* 0 (plain [])
  is_more_forms : Stating <form>* 1 (plain (r <form> ∷ r <form>* ∷ []))
  is_form : Stating <form> 0 (plain form_symbols)
  is_no_items_or_rules : Stating <item_or_rule>* 0 (plain [])
  is_item_first : Stating <item_or_rule>* 1 (plain (r <item> ∷ r <item_or_rule>* ∷ []))
  is_rule_first : Stating <item_or_rule>* 2 (plain (r <rule> ∷ r <item_or_rule>* ∷ []))
  is_rule_lem : Stating <rule> 0 (plain rule_symbols)
  is_subtitle : Stating <item> 0 (plain subtitle_symbols)
  is_text : Stating <item> 1 (plain text_symbols)
  is_label : Stating <item> 2 (plain label_symbols)
  is_goto_lem : Stating <item> 3 (plain goto_symbols)
  is_checkbox_lem : Stating <item> 4 (plain checkbox_symbols)
  is_numeric_lem : Stating <item> 5 (plain numeric_symbols)
  is_one_of_lem : Stating <item> 6 (plain one_of_symbols)
  is_suppress : Stating <item> 7 (condition (condition_symbols class.«suppressif»))
  is_gray_out : Stating <item> 8 (condition (condition_symbols class.«grayoutif»))
  is_disable : Stating <item> 9 (condition (condition_symbols class.«disableif»))
  is_no_options : Stating <option>* 0 (plain [])
  is_more_options : Stating <option>* 1 (plain (r <option> ∷ r <option>* ∷ []))
  is_no_items : Stating <item>* 0 (plain [])
  is_more_items : Stating <item>* 1 (plain (r <item> ∷ r <item>* ∷ []))
  is_option : Stating <option> 0 (plain option_symbols)

-- ---- the grammar's table has no others

to : {A i : ℕ} {x a : Alternative} → Stating A i x → some x ≡ some a → Stating A i a
to {A} {i} z q = subst (λ b. Stating A i b) (alternative_is q) z

source_stating : (i : ℕ) (a : Alternative) → alternative_of rules <source> i ≡ some a → Stating <source> i a
unfolding rules
source_stating zero a q = to is_form_set q
source_stating (suc i) a q = no_alternative q

forms_stating : (i : ℕ) (a : Alternative) → alternative_of rules <form>* i ≡ some a → Stating <form>* i a
unfolding rules
forms_stating zero a q = to is_no_forms q
forms_stating (suc zero) a q = to is_more_forms q
forms_stating (suc (suc i)) a q = no_alternative q

form_stating : (i : ℕ) (a : Alternative) → alternative_of rules <form> i ≡ some a → Stating <form> i a
unfolding rules
form_stating zero a q = to is_form q
form_stating (suc i) a q = no_alternative q

items_or_rules_stating : (i : ℕ) (a : Alternative) → alternative_of rules <item_or_rule>* i ≡ some a → Stating <item_or_rule>* i a
unfolding rules
items_or_rules_stating zero a q = to is_no_items_or_rules q
items_or_rules_stating (suc zero) a q = to is_item_first q
items_or_rules_stating (suc (suc zero)) a q = to is_rule_first q
items_or_rules_stating (suc (suc (suc i))) a q = no_alternative q

rule_stating : (i : ℕ) (a : Alternative) → alternative_of rules <rule> i ≡ some a → Stating <rule> i a
unfolding rules
rule_stating zero a q = to is_rule_lem q
rule_stating (suc i) a q = no_alternative q

item_stating : (i : ℕ) (a : Alternative) → alternative_of rules <item> i ≡ some a → Stating <item> i a
unfolding rules
item_stating zero a q = to is_subtitle q
item_stating (suc zero) a q = to is_text q
item_stating (suc (suc zero)) a q = to is_label q
item_stating (suc (suc (suc zero))) a q = to is_goto_lem q
item_stating (suc (suc (suc (suc zero)))) a q = to is_checkbox_lem q
item_stating (suc (suc (suc (suc (suc zero))))) a q = to is_numeric_lem q
item_stating (suc (suc (suc (suc (suc (suc zero)))))) a q = to is_one_of_lem q
item_stating (suc (suc (suc (suc (suc (suc (suc zero))))))) a q = to is_suppress q
item_stating (suc (suc (suc (suc (suc (suc (suc (suc zero)))))))) a q = to is_gray_out q
item_stating (suc (suc (suc (suc (suc (suc (suc (suc (suc zero))))))))) a q = to is_disable q
item_stating (suc (suc (suc (suc (suc (suc (suc (suc (suc (suc i)))))))))) a q = no_alternative q

options_stating : (i : ℕ) (a : Alternative) → alternative_of rules <option>* i ≡ some a → Stating <option>* i a
unfolding rules
options_stating zero a q = to is_no_options q
options_stating (suc zero) a q = to is_more_options q
options_stating (suc (suc i)) a q = no_alternative q

items_stating : (i : ℕ) (a : Alternative) → alternative_of rules <item>* i ≡ some a → Stating <item>* i a
unfolding rules
items_stating zero a q = to is_no_items q
items_stating (suc zero) a q = to is_more_items q
items_stating (suc (suc i)) a q = no_alternative q

option_stating : (i : ℕ) (a : Alternative) → alternative_of rules <option> i ≡ some a → Stating <option> i a
unfolding rules
option_stating zero a q = to is_option q
option_stating (suc i) a q = no_alternative q

pub stating : (A i : ℕ) (a : Alternative) → alternative_of rules A i ≡ some a → states A ≡ true → Stating A i a
stating A i a q s =
    either (eqb <source> A) (λ z. let w = eqb-true <source> A z in rw (← w) (source_stating i a (rw (← w) at q))) (λ z0.
    either (eqb <form>* A) (λ z. let w = eqb-true <form>* A z in rw (← w) (forms_stating i a (rw (← w) at q))) (λ z1.
    either (eqb <form> A) (λ z. let w = eqb-true <form> A z in rw (← w) (form_stating i a (rw (← w) at q))) (λ z2.
    either (eqb <item_or_rule>* A) (λ z. let w = eqb-true <item_or_rule>* A z in rw (← w) (items_or_rules_stating i a (rw (← w) at q))) (λ z3.
    either (eqb <rule> A) (λ z. let w = eqb-true <rule> A z in rw (← w) (rule_stating i a (rw (← w) at q))) (λ z4.
    either (eqb <item> A) (λ z. let w = eqb-true <item> A z in rw (← w) (item_stating i a (rw (← w) at q))) (λ z5.
    either (eqb <option>* A) (λ z. let w = eqb-true <option>* A z in rw (← w) (options_stating i a (rw (← w) at q))) (λ z6.
    either (eqb <item>* A) (λ z. let w = eqb-true <item>* A z in rw (← w) (items_stating i a (rw (← w) at q))) (λ z7.
    either (eqb <option> A) (λ z. let w = eqb-true <option> A z in rw (← w) (option_stating i a (rw (← w) at q))) (λ z8.
    clash (let m : false ≡ true = rw (z0, z1, z2, z3, z4, z5, z6, z7, z8) at s in cc))))))))))
