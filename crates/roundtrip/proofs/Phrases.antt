-- The shape of each statement of a resolved text, from the cells of its row.
-- Assumes nothing.
use mathlib.Core.List.{List, [], ◌∷◌}
use mathlib.Core.Bool.{Bool, true, false, not}
use Prim.Native.Nat.{ℕ, ◌/◌, ◌%◌, ◌^◌}
use lib.Dec.{eqb}
use lib.ListN.{get_or}
use Rattle.lexemes.specs.Classes as class
use Rattle.rows.specs.Columns as column
use Rattle.rows.specs.Flags as flag
use Rattle.grammar.specs.Rules.{<guid>, <guid_end>, <eight>, <H8>, <H4>, <H2>, <str>, <id>, <small>, <large>, <zero>, <goto_flags>?, <flags>?, <truth_default>?, <truth>, <step>?, <number_default>?, <option_flags>, <head>, <name>?, <questionid>?, <fl>, <flag>*, <flag>, <numeric_flags>?, <numeric_fl>, <numeric_flag>*, <numeric_flag>, <numeric_value>}
use Rattle.grammar.specs.Flags.{FlagWord, flag_words, numeric_words, classes_of, set_in}
use Rattle.grammar.proofs.Choices.{place_in}
use Rattle.answers.specs.Text.{has_flag, numeric_list}
use Rattle.formulas.specs.Shapes.{sign, hex, rule_name, Shape, s_nil, s_leaf, s_node}
use Rattle.formulas.specs.Formula.{Formula}
use Rattle.formulas.specs.Tree.{numeral_shape, tree}

abbrev pub cell : ℕ → List ℕ → ℕ
cell c r = get_or r c 0

-- a sign or reserved word
abbrev pub say : ℕ → Shape → Shape
say k f = s_leaf (sign k) f

-- the last word of a statement, and `;`
abbrev pub ending : ℕ → Shape
ending k = say k (say class.semicolon s_nil)

-- STR: STRING_TOKEN ( N )
abbrev pub string_under : ℕ → Shape
string_under n = say class.STRING_TOKEN (say class.open_paren (numeral_shape <small> n (say class.close_paren s_nil)))

abbrev pub string_shape : ℕ → Shape → Shape
string_shape n f = s_node <str> 0 (string_under n) f

-- HEAD: no name, and always a number
abbrev pub head_under : List ℕ → Shape
head_under r =
    s_node <name>? 0 s_nil (s_node <questionid>? 1 (say class.«questionid» (say class.«=» (numeral_shape <id> (cell column.OWN r) (say class.comma s_nil))))
    (say class.«prompt» (say class.«=» (string_shape (cell column.FIRST r) (say class.comma (say class.«help» (say class.«=» (string_shape (cell column.SECOND r) s_nil))))))))

abbrev pub head_shape : List ℕ → Shape → Shape
head_shape r f = s_node <head> 0 (head_under r) f

-- ---- FL

-- the words that a row sets
abbrev pub row_flags : List ℕ → List FlagWord
row_flags r = set_in (cell column.FLAGS r) flag_words

-- the rules of an FL: the list, the words after its first, each with its `|`, and a word; and the classes of its words
pub record FlagRules : Type 0 where
  pub list : ℕ
  pub more : ℕ
  pub word : ℕ
  pub classes : List ℕ

abbrev pub flag_rules : FlagRules
flag_rules = record { list = <fl>; more = <flag>*; word = <flag>; classes = classes_of flag_words }

-- a numeric's
abbrev pub numeric_flag_rules : FlagRules
numeric_flag_rules = record { list = <numeric_fl>; more = <numeric_flag>*; word = <numeric_flag>; classes = classes_of numeric_words }

module _ (R : FlagRules) where
  abbrev pub flag_shape : FlagWord → Shape → Shape
  flag_shape w f = s_node R.word (place_in R.classes w.class) (say w.class s_nil) f

  abbrev pub more_flags : List FlagWord → Shape
  more_flags [] = s_node R.more 0 s_nil s_nil
  more_flags (w ∷ ws) = s_node R.more 1 (say class.«|» (flag_shape w (more_flags ws))) s_nil

  -- one word or more
  abbrev pub flags_under : List FlagWord → Shape
  flags_under [] = s_nil
  flags_under (w ∷ ws) = flag_shape w (more_flags ws)

  abbrev pub flags_shape : List FlagWord → Shape → Shape
  flags_shape ws f = s_node R.list 0 (flags_under ws) f

  -- [flags = FL ,]
  abbrev pub flags_part : List FlagWord → Shape
  flags_part [] = s_nil
  flags_part (w ∷ ws) = say class.«flags» (say class.«=» (flags_shape (w ∷ ws) (say class.comma s_nil)))

-- [, flags = FL]
abbrev pub goto_flags_part : List FlagWord → Shape
goto_flags_part [] = s_nil
goto_flags_part (w ∷ ws) = say class.comma (say class.«flags» (say class.«=» (flags_shape flag_rules (w ∷ ws) s_nil)))

-- the alternative of a part that may be absent: a list's, and any other's
abbrev pub present_flags : List FlagWord → ℕ
present_flags [] = 0
present_flags (w ∷ ws) = 1

abbrev pub present : Bool → ℕ
present true = 1
present false = 0

-- of a goto, of a checkbox and a oneof, of a numeric
abbrev pub goto_flags : List FlagWord → Shape → Shape
goto_flags ws f = s_node <goto_flags>? (present_flags ws) (goto_flags_part ws) f

abbrev pub other_flags : List FlagWord → Shape → Shape
other_flags ws f = s_node <flags>? (present_flags ws) (flags_part flag_rules ws) f

abbrev pub numeric_flags : List FlagWord → Shape → Shape
numeric_flags ws f = s_node <numeric_flags>? (present_flags ws) (flags_part numeric_flag_rules ws) f

-- ---- defaults

abbrev pub truth_under : Bool → Shape
truth_under true = say class.«TRUE» s_nil
truth_under false = say class.«FALSE» s_nil

abbrev pub truth_shape : Bool → Shape → Shape
truth_shape v f = s_node <truth> (present (not v)) (truth_under v) f

abbrev pub truth_default_under : Bool → Bool → Shape
truth_default_under true v = say class.«default» (say class.«=» (truth_shape v (say class.comma s_nil)))
truth_default_under false v = s_nil

abbrev pub truth_default : Bool → Bool → Shape → Shape
truth_default d v f = s_node <truth_default>? (present d) (truth_default_under d v) f

abbrev pub number_default_under : Bool → ℕ → Shape
number_default_under true v = say class.«default» (say class.«=» (numeral_shape <numeric_value> v (say class.comma s_nil)))
number_default_under false v = s_nil

abbrev pub number_default : Bool → ℕ → Shape → Shape
number_default d v f = s_node <number_default>? (present d) (number_default_under d v) f

abbrev pub option_flags_under : Bool → Shape
option_flags_under true = say class.«DEFAULT» s_nil
option_flags_under false = numeral_shape <zero> 0 s_nil

abbrev pub option_flags : Bool → Shape → Shape
option_flags d f = s_node <option_flags> (present d) (option_flags_under d) f

abbrev pub step_under : ℕ → Shape
step_under v = say class.«step» (say class.«=» (numeral_shape <numeric_value> v (say class.comma s_nil)))

abbrev pub step_shape : ℕ → Shape → Shape
step_shape v f = s_node <step>? 1 (step_under v) f

-- ---- items

-- subtitle text = STR ;
abbrev pub subtitle_under : List ℕ → Shape
subtitle_under r = say class.«subtitle» (say class.«text» (say class.«=» (string_shape (cell column.FIRST r) (say class.semicolon s_nil))))

-- text help = STR , text = STR ;
abbrev pub text_under : List ℕ → Shape
text_under r = say class.«text» (say class.«help» (say class.«=» (string_shape (cell column.SECOND r) (say class.comma (say class.«text» (say class.«=» (string_shape (cell column.FIRST r) (say class.semicolon s_nil))))))))

-- label N ;
abbrev pub label_under : List ℕ → Shape
label_under r = say class.«label» (numeral_shape <small> (cell column.OWN r) (say class.semicolon s_nil))

-- goto N , HEAD [, flags = FL] ;
abbrev pub goto_under : List ℕ → Shape
goto_under r = say class.«goto» (numeral_shape <id> (cell column.A r) (say class.comma (head_shape r (goto_flags (row_flags r) (say class.semicolon s_nil)))))

-- checkbox HEAD , [flags = FL ,] [default = TRUE or FALSE ,] endcheckbox ;
abbrev pub checkbox_under : List ℕ → Shape
checkbox_under r = say class.«checkbox» (head_shape r (say class.comma (other_flags (row_flags r) (truth_default (has_flag flag.HAS_DEFAULT r) (eqb (cell column.D r) 1) (ending class.«endcheckbox»)))))

-- minimum = N , maximum = N , step = N , [default = N ,] endnumeric ;
abbrev pub numbers_shape : Bool → List ℕ → Shape
numbers_shape d r = say class.«minimum» (say class.«=» (numeral_shape <numeric_value> (cell column.A r) (say class.comma (say class.«maximum» (say class.«=» (numeral_shape <numeric_value> (cell column.B r) (say class.comma (step_shape (cell column.C r) (number_default d (cell column.D r) (ending class.«endnumeric»))))))))))

-- numeric HEAD , flags = FL , and its numbers
abbrev pub numeric_under : List ℕ → Shape
numeric_under r = say class.«numeric» (head_shape r (say class.comma (numeric_flags (numeric_list r) (numbers_shape (has_flag flag.HAS_DEFAULT r) r))))

-- oneof HEAD , [flags = FL ,] and what follows
abbrev pub one_of_under : List ℕ → Shape → Shape
one_of_under r x = say class.«oneof» (head_shape r (say class.comma (other_flags (row_flags r) x)))

-- suppressif, grayoutif or disableif, expression ; and what follows
abbrev pub condition_under : ℕ → Formula → Shape → Shape
condition_under k e x = say k (tree e 9 (say class.semicolon x))

-- ---- the other statements

-- option text = STR , value = N , flags = (N or DEFAULT) ;
abbrev pub option_under : List ℕ → Shape
option_under r = say class.«option» (say class.«text» (say class.«=» (string_shape (cell column.FIRST r) (say class.comma (say class.«value» (say class.«=» (numeral_shape <large> (cell column.A r) (say class.comma (say class.«flags» (say class.«=» (option_flags (has_flag flag.OPTION_DEFAULT r) (say class.semicolon s_nil))))))))))))

-- rule NAME , expression endrule ;
abbrev pub rule_under : List ℕ → Formula → Shape
rule_under r e = say class.«rule» (s_leaf (rule_name (cell column.OWN r)) (say class.comma (tree e 9 (ending class.«endrule»))))

-- form formid = N , title = STR ; and what follows
abbrev pub form_under : List ℕ → Shape → Shape
form_under r x = say class.«form» (say class.«formid» (say class.«=» (numeral_shape <id> (cell column.OWN r) (say class.comma (say class.«title» (say class.«=» (string_shape (cell column.FIRST r) (say class.semicolon x))))))))

-- a GUID part of so many digits
abbrev pub hex_shape : ℕ → ℕ → ℕ → Shape → Shape
hex_shape A width v f = s_node A 0 (s_leaf (hex width v) s_nil) f

abbrev pub byte_shape : ℕ → List ℕ → Shape → Shape
byte_shape i r f = hex_shape <H2> 2 (cell column.B r / 256 ^ i % 256) f

abbrev pub eight_under : List ℕ → Shape
eight_under r = byte_shape 7 r (say class.comma (byte_shape 6 r (say class.comma (byte_shape 5 r (say class.comma (byte_shape 4 r (say class.comma (byte_shape 3 r (say class.comma (byte_shape 2 r (say class.comma (byte_shape 1 r (say class.comma (byte_shape 0 r s_nil))))))))))))))

abbrev pub guid_under : List ℕ → Shape
guid_under r =
    say class.open_brace (hex_shape <H8> 8 (cell column.A r / 2 ^ 32) (say class.comma (hex_shape <H4> 4 (cell column.A r / 2 ^ 16 % 2 ^ 16) (say class.comma (hex_shape <H4> 4 (cell column.A r % 2 ^ 16) (say class.comma (
    s_node <guid_end> 0 (say class.open_brace (s_node <eight> 0 (eight_under r) (say class.close_brace (say class.close_brace s_nil)))) s_nil)))))))

-- formset guid = GUID , title = STR , help = STR , and what follows
abbrev pub form_set_under : List ℕ → Shape → Shape
form_set_under r x = say class.«formset» (say class.«guid» (say class.«=» (s_node <guid> 0 (guid_under r) (say class.comma (say class.«title» (say class.«=» (string_shape (cell column.FIRST r) (say class.comma (say class.«help» (say class.«=» (string_shape (cell column.SECOND r) (say class.comma x))))))))))))
