-- Where the parts of a statement stand among the trees under it, counted from 0: by the statement's word and the part's, under the grammar's own
-- line. Theorem `parts_as_named` holds them to the table.
-- Assumes nothing.
use Rattle.std.specs.Prelude.{ℕ, ◌*◌}

-- source: `formset guid =` GUID `, title =` STR `, help =` STR `,` form+ `endformset ;`
abbrev pub formset_guid : ℕ
formset_guid = 3

abbrev pub formset_title : ℕ
formset_title = 7

abbrev pub formset_help : ℕ
formset_help = 11

-- GUID: `{` H8 `,` H4 `,` H4 `, {` eight H2 with commas between `} }`, or the same without the inner braces.
abbrev pub guid_first : ℕ
guid_first = 1

abbrev pub guid_second : ℕ
guid_second = 3

abbrev pub guid_third : ℕ
guid_third = 5

abbrev pub guid_end : ℕ
guid_end = 7

-- its end with inner braces, and without
abbrev pub guid_end_braced : ℕ
guid_end_braced = 1

abbrev pub guid_end_bare : ℕ
guid_end_bare = 0

-- eight H2 with commas between, counted from 0
abbrev pub eight_byte : ℕ → ℕ
eight_byte n = 2 * n

-- STR: `STRING_TOKEN (` N `)`
abbrev pub str_number : ℕ
str_number = 2

-- form: `form formid =` N `, title =` STR `;` then (item or rule)* `endform ;`
abbrev pub form_number : ℕ
form_number = 3

abbrev pub form_title : ℕ
form_title = 7

-- rule: `rule` NAME `,` expression `endrule ;`
abbrev pub rule_name : ℕ
rule_name = 1

abbrev pub rule_expression : ℕ
rule_expression = 3

-- `subtitle text =` STR `;`
abbrev pub subtitle_text : ℕ
subtitle_text = 3

-- `text help =` STR `, text =` STR `;`
abbrev pub text_help : ℕ
text_help = 3

abbrev pub text_text : ℕ
text_text = 7

-- `label` N `;`
abbrev pub label_number : ℕ
label_number = 1

-- `goto` N `,` HEAD [`, flags =` FL] `;`
abbrev pub goto_form : ℕ
goto_form = 1

abbrev pub goto_head : ℕ
goto_head = 3

abbrev pub goto_flags : ℕ
goto_flags = 4

-- `checkbox` HEAD `,` [`flags =` FL `,`] [`default =` `TRUE` or `FALSE`, `,`] `endcheckbox ;`
abbrev pub checkbox_head : ℕ
checkbox_head = 1

abbrev pub checkbox_flags : ℕ
checkbox_flags = 3

abbrev pub checkbox_default : ℕ
checkbox_default = 4

-- `numeric` HEAD `,` [`flags =` FL `,`] `minimum =` N `, maximum =` N `,` [`step =` N `,`] [`default =` N `,`] `endnumeric ;`
-- which alternative of an item that is
abbrev pub item_numeric : ℕ
item_numeric = 5

abbrev pub numeric_head : ℕ
numeric_head = 1

abbrev pub numeric_flags : ℕ
numeric_flags = 3

abbrev pub numeric_minimum : ℕ
numeric_minimum = 6

abbrev pub numeric_maximum : ℕ
numeric_maximum = 10

abbrev pub numeric_step : ℕ
numeric_step = 12

abbrev pub numeric_default : ℕ
numeric_default = 13

-- `oneof` HEAD `,` [`flags =` FL `,`] option+ `endoneof ;`
abbrev pub oneof_head : ℕ
oneof_head = 1

abbrev pub oneof_flags : ℕ
oneof_flags = 3

-- `suppressif`, `grayoutif` or `disableif`, expression `;` item* `endif ;`
abbrev pub condition_expression : ℕ
condition_expression = 1

-- [`default =` `TRUE` or `FALSE`, `,`] and [`default =` N `,`]
abbrev pub default_value : ℕ
default_value = 2

-- [`step =` N `,`]
abbrev pub step_value : ℕ
step_value = 2

-- option: `option text =` STR `, value =` N `, flags =` (N or `DEFAULT`) `;`
abbrev pub option_text : ℕ
option_text = 3

abbrev pub option_value : ℕ
option_value = 7

abbrev pub option_flags : ℕ
option_flags = 11

-- HEAD: [`name =` NAME `,`] [`questionid =` N `,`] `prompt =` STR `, help =` STR
abbrev pub head_name : ℕ
head_name = 0

abbrev pub head_number : ℕ
head_number = 1

abbrev pub head_prompt : ℕ
head_prompt = 4

abbrev pub head_help : ℕ
head_help = 8

-- [`name =` NAME `,`]
abbrev pub name_word : ℕ
name_word = 2

-- [`questionid =` N `,`]
abbrev pub questionid_number : ℕ
questionid_number = 2

-- `questionref (` NAME or N `)`
abbrev pub questionref_target : ℕ
questionref_target = 2

-- `ruleref (` NAME `)`
abbrev pub ruleref_name : ℕ
ruleref_name = 2
