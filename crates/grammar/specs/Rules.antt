-- The numbers of the grammar's rules, by name: document 01's order, and after each of its lines the rules that the line needs besides.
-- A name with `*` is of none or more, one with `?` is of a part in square brackets. Theorem `productions_in_order` holds them to the table.
-- Assumes nothing.
use Rattle.std.specs.Prelude.{ℕ, ◌+◌, ◌*◌}

abbrev pub <source> : ℕ
<source> = 0

-- the forms after the first
abbrev pub <form>* : ℕ
<form>* = 1

abbrev pub <guid> : ℕ
<guid> = 2

-- a GUID's eight H2 with what is round them
abbrev pub <guid_end> : ℕ
<guid_end> = 3

-- eight H2 with commas between
abbrev pub <eight> : ℕ
<eight> = 4

-- GUID parts, of at most 8, 4 and 2 digits (refusal 5)
abbrev pub <H8> : ℕ
<H8> = 5

abbrev pub <H4> : ℕ
<H4> = 6

abbrev pub <H2> : ℕ
<H2> = 7

abbrev pub <str> : ℕ
<str> = 8

-- N, by the range that refusal 5 gives it: form, goto, written question and `questionref` numbers, 1 to 65,535
abbrev pub <id> : ℕ
<id> = 9

-- string and label numbers, 0 to 65,535
abbrev pub <small> : ℕ
<small> = 10

-- others, to 2^64 - 1
abbrev pub <large> : ℕ
<large> = 11

-- option flags, 0
abbrev pub <zero> : ℕ
<zero> = 12

abbrev pub <form> : ℕ
<form> = 13

abbrev pub <item_or_rule>* : ℕ
<item_or_rule>* = 14

abbrev pub <rule> : ℕ
<rule> = 15

abbrev pub <item> : ℕ
<item> = 16

-- of a goto: [`, flags =` FL]
abbrev pub <goto_flags>? : ℕ
<goto_flags>? = 17

-- of a checkbox and a oneof: [`flags =` FL `,`]
abbrev pub <flags>? : ℕ
<flags>? = 18

-- of a checkbox: [`default =` `TRUE` or `FALSE`, `,`]
abbrev pub <truth_default>? : ℕ
<truth_default>? = 19

-- `TRUE` or `FALSE`
abbrev pub <truth> : ℕ
<truth> = 20

-- of a numeric: [`step =` N `,`]
abbrev pub <step>? : ℕ
<step>? = 21

-- of a numeric: [`default =` N `,`]
abbrev pub <number_default>? : ℕ
<number_default>? = 22

-- the options after the first
abbrev pub <option>* : ℕ
<option>* = 23

abbrev pub <item>* : ℕ
<item>* = 24

abbrev pub <option> : ℕ
<option> = 25

-- N or `DEFAULT`
abbrev pub <option_flags> : ℕ
<option_flags> = 26

abbrev pub <head> : ℕ
<head> = 27

-- [`name =` NAME `,`]
abbrev pub <name>? : ℕ
<name>? = 28

-- [`questionid =` N `,`]
abbrev pub <questionid>? : ℕ
<questionid>? = 29

abbrev pub <fl> : ℕ
<fl> = 30

-- the flags after the first, each with its `|`
abbrev pub <flag>* : ℕ
<flag>* = 31

abbrev pub <flag> : ℕ
<flag> = 32

-- ---- expressions

-- level n of the nine, from the loosest, 0, on; after the tightest comes the atom, as level 9
abbrev pub level_rule : ℕ → ℕ
level_rule n = 33 + 2 * n

-- what comes after the first operand of level n: none or more times an operator and an operand
abbrev pub tail_rule : ℕ → ℕ
tail_rule n = 34 + 2 * n

-- an expression is of the loosest level
abbrev pub <expression> : ℕ
<expression> = level_rule 0

-- `OR`
abbrev pub <or> : ℕ
<or> = level_rule 0

abbrev pub <or>* : ℕ
<or>* = tail_rule 0

-- `AND`
abbrev pub <and> : ℕ
<and> = level_rule 1

abbrev pub <and>* : ℕ
<and>* = tail_rule 1

-- `|`
abbrev pub <bit_or> : ℕ
<bit_or> = level_rule 2

abbrev pub <bit_or>* : ℕ
<bit_or>* = tail_rule 2

-- `&`
abbrev pub <bit_and> : ℕ
<bit_and> = level_rule 3

abbrev pub <bit_and>* : ℕ
<bit_and>* = tail_rule 3

-- `==` `!=`
abbrev pub <equality> : ℕ
<equality> = level_rule 4

abbrev pub <equality>* : ℕ
<equality>* = tail_rule 4

-- `<` `<=` `>` `>=`
abbrev pub <order> : ℕ
<order> = level_rule 5

abbrev pub <order>* : ℕ
<order>* = tail_rule 5

-- `<<` `>>`
abbrev pub <shift> : ℕ
<shift> = level_rule 6

abbrev pub <shift>* : ℕ
<shift>* = tail_rule 6

-- `+` `-`
abbrev pub <sum> : ℕ
<sum> = level_rule 7

abbrev pub <sum>* : ℕ
<sum>* = tail_rule 7

-- `*` `/` `%`
abbrev pub <product> : ℕ
<product> = level_rule 8

abbrev pub <product>* : ℕ
<product>* = tail_rule 8

abbrev pub <atom> : ℕ
<atom> = level_rule 9

-- of a questionref: NAME or N
abbrev pub <name_or_number> : ℕ
<name_or_number> = 52

-- ---- a numeric's flags and numbers, by rules of their own

-- [`flags =` FL `,`]
abbrev pub <numeric_flags>? : ℕ
<numeric_flags>? = 53

abbrev pub <numeric_fl> : ℕ
<numeric_fl> = 54

-- the flags after the first, each with its `|`
abbrev pub <numeric_flag>* : ℕ
<numeric_flag>* = 55

abbrev pub <numeric_flag> : ℕ
<numeric_flag> = 56

-- its minimum, maximum, step and default
abbrev pub <numeric_value> : ℕ
<numeric_value> = 57
