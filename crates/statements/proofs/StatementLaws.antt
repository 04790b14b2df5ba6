-- The phrases of statements, printed from a row, are the words of the resolved text.
-- Assumes nothing.
use Prim.Native.Nat.{ℕ}
use mathlib.Core.Path.{◌≡◌, refl, sym, ap, ◌∙◌}
use mathlib.Core.Logic.{◌⊎◌, inl, inr}
use mathlib.Core.Bool.{Bool, true, false, cond, ◌||◌, false≢true}
use mathlib.Core.List.{List, [], ◌∷◌, ◌++◌, append_assoc, append-nil}
use lib.Dec.{eqb}
use lib.ListN.{get_or, take, drop}
use borrow.Author.Tests.{ne_eqb, eqb-true}
use Rattle.lexemes.specs.Classes.{«DEFAULT»}
use Rattle.lexemes.specs.Lexemes.{lexemes, signs, reserved}
use Rattle.rows.specs.Columns as column
use Rattle.rows.specs.Flags as flag
use Rattle.rows.specs.Codes as code
use Rattle.grammar.specs.Flags.{FlagWord, flag_words, set_in}
use Rattle.elements.specs.Kinds.{LARGE}
use Rattle.answers.specs.Text as text
use Rattle.rows.specs.Codes.{member, questions, is_question}
use Rattle.answers.specs.Text.{Word, words, decimal, decimal_digits, head, flag_list, framed, Phrase, ◌prints◌, opening, phrase_among}
use Rattle.print.specs.Phrase.{set_words, numeric_flags, option_flags, element_words, shown_by, filled, any_flag, has_flags, has_default, value_from}
use Rattle.print.specs.Phrase.{added, skip_after, passed_after, phrase_from, element_of, element_in, phrase_words}
use Rattle.statements.specs.Statements.{condition_words, closing, operand_words}
use Rattle.elements.specs.Symbols as phrase
use Rattle.statements.proofs.Sources as source

-- ---- phrases with nothing that may be absent

module _ (r : List ℕ) where
  pub form_words : phrase_words phrase.form_open_elements source.form_sources r ≡ text.form r
  unfolding phrase_words phrase_from added skip_after passed_after element_of element_words value_from lexemes signs reserved
  form_words = refl

  pub rule_words : phrase_words phrase.rule_open_elements source.rule_sources r ≡ text.rule r
  unfolding phrase_words phrase_from added skip_after passed_after element_of element_words value_from lexemes signs reserved
  rule_words = refl

  pub subtitle_words : phrase_words phrase.subtitle_elements source.subtitle_sources r ≡ text.subtitle r
  unfolding phrase_words phrase_from added skip_after passed_after element_of element_words value_from lexemes signs reserved
  subtitle_words = refl

  pub text_words : phrase_words phrase.text_elements source.text_sources r ≡ text.text r
  unfolding phrase_words phrase_from added skip_after passed_after element_of element_words value_from lexemes signs reserved
  text_words = refl

  pub label_words : phrase_words phrase.label_elements source.label_sources r ≡ text.label r
  unfolding phrase_words phrase_from added skip_after passed_after element_of element_words value_from lexemes signs reserved
  label_words = refl

  pub question_ref_words :
      phrase_words phrase.question_ref_elements source.operand_sources r ≡ words "questionref (" ++ decimal (get_or r column.A 0) ++ words ")"
  unfolding phrase_words phrase_from added skip_after passed_after element_of element_words value_from lexemes signs reserved
  question_ref_words = refl

  pub rule_ref_words :
      phrase_words phrase.rule_ref_elements source.operand_sources r ≡ words "ruleref (" ++ text.rule_name (get_or r column.A 0) ++ words ")"
  unfolding phrase_words phrase_from added skip_after passed_after element_of element_words value_from lexemes signs reserved
  rule_ref_words = refl

  pub form_set_words :
      phrase_words phrase.form_set_open_elements source.form_set_open_sources r ++ phrase_words phrase.form_set_braced_elements source.form_set_braced_sources r
      ≡ text.form_set r
  unfolding phrase_words phrase_from added skip_after passed_after element_of element_words value_from lexemes signs reserved
  form_set_words = refl

  option_flags_lem : (b : Bool) → cond b (text.lexeme «DEFAULT») (decimal 0) ≡ elim b [ true ↦ words "DEFAULT" | false ↦ words "0" ]
  unfolding lexemes signs reserved decimal_digits
  option_flags_lem true = refl
  option_flags_lem false = refl

  abbrev option_with : List Word → List Word
  option_with f =
      words "option text =" ++ text.string (get_or r column.FIRST 0) ++ words ", value =" ++ decimal (get_or r column.A 0) ++ words ", flags =" ++ f ++ words ";"

  pub option_words : phrase_words phrase.option_elements source.option_sources r ≡ text.option r
  unfolding phrase_words phrase_from added skip_after passed_after element_of element_words value_from lexemes signs reserved option_flags
  option_words = ap option_with (option_flags_lem (flag.is_set flag.OPTION_DEFAULT (get_or r column.FLAGS 0)))

-- ---- questions: flags where there are any, a numeric's always, a default where it is written

framed_list : (before after : List Word) (ws : List FlagWord) → cond (filled ws) (before ++ flag_list ws ++ after) [] ≡ framed before (flag_list ws) after
framed_list before after [] = refl
framed_list before after (w ∷ ws) = refl

-- a part that may be absent, and what follows it
abbrev part_then : Bool → List Word → List Word → List Word → List Word → List Word
part_then shown before inner after later = cond shown (before ++ (inner ++ (after ++ later))) later

part_then_lem : (shown : Bool) (before inner after later : List Word) → part_then shown before inner after later ≡ cond shown (before ++ inner ++ after) [] ++ later
part_then_lem true before inner after later = simp append_assoc
part_then_lem false before inner after later = refl

default_list : (b : Bool) (v : List Word)
    → cond b (words "default =" ++ v ++ words ",") [] ≡ elim b [ true ↦ words "default =" ++ v ++ words "," | false ↦ [] ]
default_list true v = refl
default_list false v = refl

-- many lists, grouped to the left and to the right
three_right : (x f y : List Word) → x ++ (f ++ y) ≡ x ++ f ++ y
three_right x f y = sym (append_assoc x f y)

four_right : (x f d y : List Word) → x ++ (f ++ (d ++ y)) ≡ x ++ f ++ d ++ y
four_right x f d y = simp append_assoc

eleven_right : (x f a b c d e g h i y : List Word)
    → x ++ (f ++ (a ++ (b ++ (c ++ (d ++ (e ++ (g ++ (h ++ (i ++ y))))))))) ≡ x ++ f ++ a ++ b ++ c ++ d ++ e ++ g ++ h ++ i ++ y
eleven_right x f a b c d e g h i y = simp append_assoc

module _ (r : List ℕ) where
  abbrev kind : ℕ
  kind = get_or r column.CODE 0

  abbrev set : ℕ
  set = get_or r column.FLAGS 0

  -- the flags of a question that is no numeric
  flags_are : (before after later : List Word) → eqb kind code.NUMERIC ≡ false
      → part_then (has_flags kind set) before (set_words set) after later ≡ text.flags before after r ++ later
  unfolding set_words
  flags_are before after later e =
      rw e (part_then_lem (any_flag set) before (set_words set) after later ∙ ap (λ (l : List Word). l ++ later) (framed_list before after (set_in set flag_words)))

  default_is : (v later : List Word) → part_then (has_default set) (words "default =") v (words ",") later ≡ text.default v r ++ later
  default_is v later =
      part_then_lem (has_default set) (words "default =") v (words ",") later ∙ ap (λ (l : List Word). l ++ later) (default_list (has_default set) v)

  -- goto
  abbrev goto_start : List Word
  goto_start = words "goto" ++ decimal (get_or r column.A 0) ++ words "," ++ head r

  goto_shape : (f d : Bool)
      → phrase_from (shown_by f d) (element_in source.goto_sources r) phrase.goto_elements 0 0
      ≡ goto_start ++ part_then f (words ", flags =") (set_words set) [] (words ";")
  unfolding phrase_from added skip_after passed_after element_of element_words value_from lexemes signs reserved
  goto_shape true d = refl
  goto_shape false d = refl

  pub goto_words : kind ≡ code.GOTO → phrase_words phrase.goto_elements source.goto_sources r ≡ text.goto r
  unfolding phrase_words
  goto_words e =
      goto_shape (has_flags kind set) (has_default set) ∙ ap (◌++◌ goto_start) (flags_are (words ", flags =") [] (words ";") (rw e))
      ∙ three_right goto_start (text.flags (words ", flags =") [] r) (words ";")

  -- checkbox
  abbrev checkbox_start : List Word
  checkbox_start = words "checkbox" ++ head r ++ words ","

  abbrev checkbox_default : Bool → List Word
  checkbox_default d = part_then d (words "default =") (text.truth (get_or r column.D 0)) (words ",") (words "endcheckbox ;")

  checkbox_shape : (f d : Bool)
      → phrase_from (shown_by f d) (element_in source.checkbox_sources r) phrase.checkbox_elements 0 0
      ≡ checkbox_start ++ part_then f (words "flags =") (set_words set) (words ",") (checkbox_default d)
  unfolding phrase_from added skip_after passed_after element_of element_words value_from lexemes signs reserved
  checkbox_shape true true = refl
  checkbox_shape true false = refl
  checkbox_shape false true = refl
  checkbox_shape false false = refl

  pub checkbox_words : kind ≡ code.CHECKBOX → phrase_words phrase.checkbox_elements source.checkbox_sources r ≡ text.checkbox r
  unfolding phrase_words
  checkbox_words e =
      let f = text.flags (words "flags =") (words ",") r in
      let d = text.truth (get_or r column.D 0) in
      checkbox_shape (has_flags kind set) (has_default set)
      ∙ ap (◌++◌ checkbox_start)
      (flags_are (words "flags =") (words ",") (checkbox_default (has_default set)) (rw e) ∙ ap (◌++◌ f) (default_is d (words "endcheckbox ;")))
      ∙ four_right checkbox_start f (text.default d r) (words "endcheckbox ;")

  -- numeric
  abbrev numeric_start : List Word
  numeric_start = words "numeric" ++ head r ++ words ", flags ="

  abbrev numeric_default : Bool → List Word
  numeric_default d = part_then d (words "default =") (decimal (get_or r column.D 0)) (words ",") (words "endnumeric ;")

  abbrev numeric_limits : List Word → List Word
  numeric_limits later =
      words ", minimum =" ++ (decimal (get_or r column.A 0)
      ++ (words ", maximum =" ++ (decimal (get_or r column.B 0) ++ (words ", step =" ++ (decimal (get_or r column.C 0) ++ (words "," ++ later))))))

  abbrev numeric_fl : List Word
  numeric_fl = numeric_flags set (get_or r column.SIZE 0)

  numeric_shape : (d : Bool)
      → phrase_from (shown_by true d) (element_in source.numeric_sources r) phrase.numeric_elements 0 0
      ≡ numeric_start ++ (numeric_fl ++ numeric_limits (numeric_default d))
  unfolding phrase_from added skip_after passed_after element_of element_words value_from lexemes signs reserved
  numeric_shape true = refl
  numeric_shape false = refl

  pub numeric_words : kind ≡ code.NUMERIC → phrase_words phrase.numeric_elements source.numeric_sources r ≡ text.numeric r
  unfolding phrase_words numeric_flags
  numeric_words e =
      let d = decimal (get_or r column.D 0) in
      ap (λ (k : ℕ). phrase_from (shown_by (has_flags k set) (has_default set)) (element_in source.numeric_sources r) phrase.numeric_elements 0 0) e
      ∙ numeric_shape (has_default set)
      ∙ ap (λ (l : List Word). numeric_start ++ (numeric_fl ++ numeric_limits l)) (default_is d (words "endnumeric ;"))
      ∙ eleven_right numeric_start numeric_fl (words ", minimum =") (decimal (get_or r column.A 0)) (words ", maximum =") (decimal (get_or r column.B 0))
      (words ", step =") (decimal (get_or r column.C 0)) (words ",") (text.default d r) (words "endnumeric ;")

  -- oneof
  abbrev one_of_start : List Word
  one_of_start = words "oneof" ++ head r ++ words ","

  one_of_shape : (f d : Bool)
      → phrase_from (shown_by f d) (element_in source.one_of_sources r) phrase.one_of_open_elements 0 0
      ≡ one_of_start ++ part_then f (words "flags =") (set_words set) (words ",") []
  unfolding phrase_from added skip_after passed_after element_of element_words value_from lexemes signs reserved
  one_of_shape true d = refl
  one_of_shape false d = refl

  pub one_of_words : kind ≡ code.ONE_OF → phrase_words phrase.one_of_open_elements source.one_of_sources r ≡ text.one_of r
  unfolding phrase_words
  one_of_words e =
      one_of_shape (has_flags kind set) (has_default set)
      ∙ ap (◌++◌ one_of_start) (flags_are (words "flags =") (words ",") [] (rw e) ∙ append-nil (text.flags (words "flags =") (words ",") r))

-- ---- by codes

-- the phrase of a code
abbrev phrase_at : List Phrase → ℕ → List ℕ → List Word
phrase_at [] k r = []
phrase_at (j prints f ∷ l) k r = elim (eqb k j) [ true ↦ f r | false ↦ phrase_at l k r ]

chosen : (b : Bool) (x : List Word) {y z : List Word} → y ≡ z → ◌≡◌ {A = List Word} (elim b [ true ↦ x | false ↦ y ]) (elim b [ true ↦ x | false ↦ z ])
chosen true x e = refl
chosen false x e = e

module _ (r : List ℕ) where
  phrase_at_lem : (l : List Phrase) → phrase_at l (kind r) r ≡ phrase_among l r
  phrase_at_lem [] = refl
  phrase_at_lem (j prints f ∷ l) = chosen (eqb (kind r) j) (f r) (phrase_at_lem l)

  pub opens : (k : ℕ) → kind r ≡ k → phrase_at text.statements k r ≡ opening r
  opens k e = ap (λ (j : ℕ). phrase_at text.statements j r) (sym e) ∙ phrase_at_lem text.statements

  -- questions
  pub goto_opens : kind r ≡ code.GOTO → phrase_words phrase.goto_elements source.goto_sources r ≡ opening r
  goto_opens e = goto_words r e ∙ opens code.GOTO e

  pub checkbox_opens : kind r ≡ code.CHECKBOX → phrase_words phrase.checkbox_elements source.checkbox_sources r ≡ opening r
  checkbox_opens e = checkbox_words r e ∙ opens code.CHECKBOX e

  pub numeric_opens : kind r ≡ code.NUMERIC → phrase_words phrase.numeric_elements source.numeric_sources r ≡ opening r
  numeric_opens e = numeric_words r e ∙ opens code.NUMERIC e

  pub one_of_opens : kind r ≡ code.ONE_OF → phrase_words phrase.one_of_open_elements source.one_of_sources r ≡ opening r
  one_of_opens e = one_of_words r e ∙ opens code.ONE_OF e

-- ---- the ends of statements and of expressions

module _ (r : List ℕ) where
  pub form_set_close_words : phrase_words phrase.form_set_close_elements [] r ≡ words "endformset ;"
  unfolding phrase_words phrase_from added skip_after passed_after lexemes signs reserved
  form_set_close_words = refl

  pub form_close_words : phrase_words phrase.form_close_elements [] r ≡ words "endform ;"
  unfolding phrase_words phrase_from added skip_after passed_after lexemes signs reserved
  form_close_words = refl

  pub one_of_close_words : phrase_words phrase.one_of_close_elements [] r ≡ words "endoneof ;"
  unfolding phrase_words phrase_from added skip_after passed_after lexemes signs reserved
  one_of_close_words = refl

  pub condition_close_words : phrase_words phrase.condition_close_elements [] r ≡ words "endif ;"
  unfolding phrase_words phrase_from added skip_after passed_after lexemes signs reserved
  condition_close_words = refl

  pub rule_close_words : phrase_words phrase.rule_close_elements [] r ≡ words "endrule ;"
  unfolding phrase_words phrase_from added skip_after passed_after lexemes signs reserved
  rule_close_words = refl

  pub expression_close_words : phrase_words phrase.expression_close_elements [] r ≡ words ";"
  unfolding phrase_words phrase_from added skip_after passed_after lexemes signs reserved
  expression_close_words = refl

pub condition_closes : (r : List ℕ) {k : ℕ} → (k ≡ 10) ⊎ ((k ≡ 25) ⊎ (k ≡ 30)) → phrase_words phrase.condition_close_elements [] r ≡ closing k
unfolding closing
condition_closes r (inl e) = rw e (condition_close_words r)
condition_closes r (inr (inl e)) = rw e (condition_close_words r)
condition_closes r (inr (inr e)) = rw e (condition_close_words r)

pub no_closing : (k : ℕ) → (((Unit {0}) × (k ≡ 14 → ⊥)) × (k ≡ 1 → ⊥)) × (k ≡ 5 → ⊥) → ((k ≡ 10) ⊎ ((k ≡ 25) ⊎ (k ≡ 30)) → ⊥) → [] ≡ closing k
unfolding closing
no_closing k h g =
    rw (
      ne_eqb k 14 h.0.0.1,
      ne_eqb k 1 h.0.1,
      ne_eqb k 5 h.1,
      ne_eqb k 10 (λ e. g (inl e)),
      ne_eqb k 25 (λ e. g (inr (inl e))),
      ne_eqb k 30 (λ e. g (inr (inr e))),
    )

pub no_condition : (k : ℕ) → (((Unit {0}) × (k ≡ 10 → ⊥)) × (k ≡ 25 → ⊥)) × (k ≡ 30 → ⊥) → [] ≡ condition_words k
unfolding condition_words
no_condition k h = rw (ne_eqb k 10 h.0.0.1, ne_eqb k 25 h.0.1, ne_eqb k 30 h.1)

-- the phrases of other codes
abbrev Others : List Phrase → ℕ → Type 0
Others [] k = Unit {0}
Others (j prints f ∷ l) k = (eqb k j ≡ false) × Others l k

not_chosen : (b : Bool) (x y : List Word) → b ≡ false → ◌≡◌ {A = List Word} (elim b [ true ↦ x | false ↦ y ]) y
not_chosen true x y e = absurd (false≢true (sym e))
not_chosen false x y e = refl

skips : (l m : List Phrase) (k : ℕ) (r : List ℕ) → Others l k → phrase_at (l ++ m) k r ≡ phrase_at m k r
skips [] m k r o = refl
skips (j prints f ∷ l) m k r o = not_chosen (eqb k j) (f r) (phrase_at (l ++ m) k r) o.0 ∙ skips l m k r o.1

-- a code that is no question's and none of these is a condition's, or opens nothing
condition_at : (a b c : Bool) (x y z : List Word)
    → cond a x (cond b y (cond c z [])) ≡ elim a [ true ↦ x | false ↦ elim b [ true ↦ y | false ↦ elim c [ true ↦ z | false ↦ [] ] ] ]
condition_at true b c x y z = refl
condition_at false true c x y z = refl
condition_at false false true x y z = refl
condition_at false false false x y z = refl

pub opens_condition : (r : List ℕ) (k : ℕ) → kind r ≡ k → is_question k ≡ false
    → ((((((((Unit {0}) × (k ≡ 14 → ⊥)) × (k ≡ 1 → ⊥)) × (k ≡ 24 → ⊥)) × (k ≡ 2 → ⊥)) × (k ≡ 3 → ⊥)) × (k ≡ 95 → ⊥)) × (k ≡ 9 → ⊥))
    → condition_words k ≡ opening r
unfolding condition_words is_question questions member
opens_condition r k e q h =
    let q₁ = or_false (eqb k 15) _ q in
    let q₂ = or_false (eqb k 6) _ q₁.1 in
    let q₃ = or_false (eqb k 7) _ q₂.1 in
    let q₄ = or_false (eqb k 5) _ q₃.1 in
    condition_at (eqb k 10) (eqb k 25) (eqb k 30) (words "suppressif") (words "grayoutif") (words "disableif")
    ∙ sym (skips (take 11 text.statements) (drop 11 text.statements) k r (
      ne_eqb k 14 h.0.0.0.0.0.0.1,
      (
        ne_eqb k 1 h.0.0.0.0.0.1,
        (
          ne_eqb k 24 h.0.0.0.0.1,
          (
            ne_eqb k 2 h.0.0.0.1,
            (ne_eqb k 3 h.0.0.1, (ne_eqb k 95 h.0.1, (q₁.0, (q₂.0, (q₃.0, (q₄.0, (ne_eqb k 9 h.1, tt))))))),
          ),
        ),
      ),
    ))
    ∙ opens r k e
  where
    or_false : (a b : Bool) → a || b ≡ false → (a ≡ false) × (b ≡ false)
    or_false true b e = absurd (false≢true (sym e))
    or_false false b e = (refl, e)

pub question_rest : (k : ℕ) → is_question k ≡ true → (((Unit {0}) × (k ≡ 15 → ⊥)) × (k ≡ 6 → ⊥)) × (k ≡ 7 → ⊥) → k ≡ 5
unfolding is_question questions member
question_rest k q h = eqb-true k 5 (last (eqb k 5) (rw (ne_eqb k 15 h.0.0.1, ne_eqb k 6 h.0.1, ne_eqb k 7 h.1) at q))
  where
    last : (b : Bool) → b || false ≡ true → b ≡ true
    last true e = refl
    last false e = e

-- ---- operands

module _ (r : List ℕ) where
  pub operand_question : kind r ≡ 64 → phrase_words phrase.question_ref_elements source.operand_sources r ≡ operand_words r
  unfolding operand_words
  operand_question e = question_ref_words r ∙ sym (rw e)

  pub operand_rule : kind r ≡ 63 → phrase_words phrase.rule_ref_elements source.operand_sources r ≡ operand_words r
  unfolding operand_words
  operand_rule e = rule_ref_words r ∙ sym (rw e)

  pub operand_number_lem : (kind r ≡ 64 → ⊥) → (kind r ≡ 63 → ⊥) → element_words LARGE (get_or r column.A 0) ≡ operand_words r
  unfolding operand_words element_words
  operand_number_lem h l = sym (rw (ne_eqb (kind r) 64 h, ne_eqb (kind r) 63 l))
