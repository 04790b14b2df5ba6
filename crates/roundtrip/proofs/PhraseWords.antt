-- The shape of each statement spells the statement's phrase.
-- Assumes nothing.
use mathlib.Core.Path.{◌≡◌, refl, ap, sym, ◌∙◌}
use mathlib.Core.List.{List, [], ◌∷◌, ◌++◌, map, map-append, append_assoc}
use mathlib.Core.Bool.{Bool, true, false}
use Prim.Native.Nat.{ℕ}
use native.Mathlib.Omega.{arith}
use lib.Dec.{eqb}
use Rattle.lexemes.specs.Lexemes.{signs, reserved, lexemes}
use Rattle.lexemes.specs.Classes as class
use Rattle.rows.specs.Columns as column
use Rattle.rows.specs.Flags as flag
use Rattle.answers.specs.Text.{Word, words, decimal_digits, decimal, rule_name, string, head, flag_list, has_flag, framed, flags, numeric_list, subtitle, text, label, goto, checkbox, numeric, one_of, option, form, form_set}
use Rattle.grammar.specs.Flags.{FlagWord}
use Rattle.formulas.specs.Shapes.{Lexed, sign, word, Shape, s_nil, lexed, spelling}
use Rattle.formulas.specs.Formula.{Formula}
use Rattle.formulas.specs.Words.{print}
use Rattle.formulas.specs.Tree.{tree}
use Rattle.formulas.proofs.Good.{good}
use Rattle.roundtrip.proofs.Phrases.{cell, say, ending, row_flags, FlagRules, flag_rules, numeric_flag_rules, flags_under, flags_part, goto_flags_part, truth_default, option_flags, numbers_shape, subtitle_under, text_under, label_under, goto_under, checkbox_under, numeric_under, one_of_under, condition_under, option_under, rule_under, form_under, form_set_under}
use Rattle.roundtrip.proofs.FlagLists.{list_words}

-- ---- FL, with other words after it

flags_words : (R : FlagRules) (ws : List FlagWord) (ls : List Lexed) → map word (lexed (flags_part R ws) ++ ls) ≡ framed (words "flags =") (flag_list ws) (words ",") ++ map word ls
unfolding lexemes signs reserved
flags_words R [] ls = refl
flags_words R (w ∷ ws) ls = ap (λ l. words "flags =" ++ l) (
    ap (map word) (append_assoc (lexed (flags_under R (w ∷ ws))) (sign class.comma ∷ []) ls) ∙ list_words R (w ∷ ws) (sign class.comma ∷ ls)
    ∙ sym (append_assoc (flag_list (w ∷ ws)) (words ",") (map word ls)))

goto_flags_words : (ws : List FlagWord) (ls : List Lexed) → map word (lexed (goto_flags_part ws) ++ ls) ≡ framed (words ", flags =") (flag_list ws) [] ++ map word ls
unfolding lexemes signs reserved
goto_flags_words [] ls = refl
goto_flags_words (w ∷ ws) ls = ap (λ l. words ", flags =" ++ l) (
    ap (map word) (append_assoc (lexed (flags_under flag_rules (w ∷ ws))) [] ls) ∙ list_words flag_rules (w ∷ ws) ls
    ∙ sym (append_assoc (flag_list (w ∷ ws)) [] (map word ls)))

-- ---- what follows FL, after other words

-- a default that may be absent
abbrev default_words : Bool → List Word → List Word
default_words d v = elim d [ true ↦ words "default =" ++ v ++ words "," | false ↦ [] ]

abbrev truth_words : Bool → List Word
truth_words v = elim v [ true ↦ words "TRUE" | false ↦ words "FALSE" ]

truth_after : (ws : List Word) (d v : Bool) → ws ++ spelling (truth_default d v (ending class.«endcheckbox»)) ≡ ws ++ default_words d (truth_words v) ++ words "endcheckbox ;"
unfolding lexemes signs reserved
truth_after [] true true = refl
truth_after [] true false = refl
truth_after [] false v = refl
truth_after (w ∷ ws) d v = ap (λ l. w ∷ l) (truth_after ws d v)

-- a numeric's numbers, after a comma
abbrev numbers_after : List Word → Bool → List ℕ → List Word
numbers_after ws d r =
    ws ++ words ", minimum =" ++ decimal (cell column.A r) ++ words ", maximum =" ++ decimal (cell column.B r)
    ++ words ", step =" ++ decimal (cell column.C r) ++ words "," ++ default_words d (decimal (cell column.D r)) ++ words "endnumeric ;"

numbers_after_lem : (ws : List Word) (d : Bool) (r : List ℕ) → ws ++ words "," ++ spelling (numbers_shape d r) ≡ numbers_after ws d r
unfolding lexemes signs reserved
numbers_after_lem [] true r = refl
numbers_after_lem [] false r = refl
numbers_after_lem (w ∷ ws) d r = ap (λ l. w ∷ l) (numbers_after_lem ws d r)

-- words that are never absent
framed_some :
    (before after : List Word) (ws : List FlagWord) (v : FlagWord) (vs : List FlagWord)
    → framed before (flag_list (ws ++ (v ∷ vs))) after ≡ before ++ flag_list (ws ++ (v ∷ vs)) ++ after
framed_some before after [] v vs = refl
framed_some before after (w ∷ ws) v vs = refl

-- ---- items

pub subtitle_words : (r : List ℕ) → spelling (subtitle_under r) ≡ subtitle r
unfolding lexemes signs reserved
subtitle_words r = refl

pub text_words : (r : List ℕ) → spelling (text_under r) ≡ text r
unfolding lexemes signs reserved
text_words r = refl

pub label_words : (r : List ℕ) → spelling (label_under r) ≡ label r
unfolding lexemes signs reserved
label_words r = refl

pub goto_words : (r : List ℕ) → spelling (goto_under r) ≡ goto r
unfolding lexemes signs reserved
goto_words r = ap (λ l. words "goto" ++ decimal (cell column.A r) ++ words "," ++ head r ++ l) (goto_flags_words (row_flags r) (sign class.semicolon ∷ []))

pub checkbox_words : (r : List ℕ) → spelling (checkbox_under r) ≡ checkbox r
unfolding lexemes signs reserved
checkbox_words r =
    let d = has_flag flag.HAS_DEFAULT r in
    let v = eqb (cell column.D r) 1 in
    ap (λ l. words "checkbox" ++ head r ++ words "," ++ l) (
    flags_words flag_rules (row_flags r) (lexed (truth_default d v (ending class.«endcheckbox»))) ∙ truth_after (flags (words "flags =") (words ",") r) d v)

pub numeric_words : (r : List ℕ) → spelling (numeric_under r) ≡ numeric r
unfolding lexemes signs reserved
numeric_words r =
    let d = has_flag flag.HAS_DEFAULT r in
    ap (λ l. words "numeric" ++ head r ++ words "," ++ l) (
    flags_words numeric_flag_rules (numeric_list r) (lexed (numbers_shape d r))
    ∙ ap (λ l. l ++ spelling (numbers_shape d r)) (framed_some (words "flags =") (words ",") (row_flags r) _ _)
    ∙ numbers_after_lem (words "flags =" ++ flag_list (numeric_list r)) d r)

pub one_of_words : (r : List ℕ) (x : Shape) → spelling (one_of_under r x) ≡ one_of r ++ spelling x
unfolding lexemes signs reserved
one_of_words r x = ap (λ l. words "oneof" ++ head r ++ words "," ++ l) (flags_words flag_rules (row_flags r) (lexed x))

-- ---- the other statements

option_ending : (d : Bool) → spelling (option_flags d (say class.semicolon s_nil)) ≡ elim d [ true ↦ words "DEFAULT" | false ↦ words "0" ] ++ words ";"
unfolding lexemes signs reserved decimal_digits
option_ending true = refl
option_ending false = refl

pub option_words : (r : List ℕ) → spelling (option_under r) ≡ option r
unfolding lexemes signs reserved
option_words r =
    ap (λ l. words "option text =" ++ string (cell column.FIRST r) ++ words ", value =" ++ decimal (cell column.A r) ++ words ", flags =" ++ l)
    (option_ending (has_flag flag.OPTION_DEFAULT r))

pub form_words : (r : List ℕ) (x : Shape) → spelling (form_under r x) ≡ form r ++ spelling x
unfolding lexemes signs reserved
form_words r x = refl

pub form_set_words : (r : List ℕ) (x : Shape) → spelling (form_set_under r x) ≡ form_set r ++ spelling x
unfolding lexemes signs reserved
form_set_words r x = refl

-- ---- statements with an expression

expression_words : (e : Formula) (x : Shape) → spelling (tree e 9 x) ≡ map word (print 9 e) ++ spelling x
expression_words e x = ap (map word) (((good [] e).whole 9 (omega arith)).spells x) ∙ map-append word (print 9 e) (lexed x)

pub condition_words_lem : (k : ℕ) (e : Formula) (x : Shape) → spelling (condition_under k e x) ≡ word (sign k) ∷ (map word (print 9 e) ++ (words ";" ++ spelling x))
unfolding lexemes signs reserved
condition_words_lem k e x = ap (λ ws. word (sign k) ∷ ws) (expression_words e (say class.semicolon x))

pub rule_words : (r : List ℕ) (e : Formula) → spelling (rule_under r e) ≡ words "rule" ++ rule_name (cell column.OWN r) ++ words "," ++ (map word (print 9 e) ++ words "endrule ;")
unfolding lexemes signs reserved
rule_words r e = ap (λ ws. words "rule" ++ rule_name (cell column.OWN r) ++ words "," ++ ws) (expression_words e (ending class.«endrule»))
