-- A text is short: no row's part of it is longer than EACH_ROW bytes.
-- Assumes nothing.
use Prim.Native.Nat.{ℕ, zero, suc, ◌+◌, ◌-◌, ◌*◌, ◌/◌, ◌%◌, ◌^◌, ◌≤◌, ◌<◌}
use native.Mathlib.Omega.{arith}
use mathlib.Core.Path.{◌≡◌, refl, ap, ◌∙◌}
use mathlib.Core.Bool.{Bool, true, false, cond}
use mathlib.Core.List.{List, [], ◌∷◌, ◌++◌}
use lib.Dec.{eqb, ltb}
use lib.ListN.{length, get_or, length-append}
use borrow.Author.Tests.{eqb-true}
use Rattle.lexemes.specs.Words.{same}
use Rattle.lexemes.specs.Classes.{«DEFAULT», NAME}
use Rattle.lexemes.proofs.Lists.{either}
use Rattle.rows.specs.Columns as column
use Rattle.rows.specs.Flags as flag
use Rattle.rows.specs.Table.{cell_at}
use Rattle.rows.specs.Sizes.{size_of, display_of}
use Rattle.grammar.specs.Flags.{FlagWord, flag_words, set_in, size_word, display_word}
use Rattle.answers.specs.Expression.{Expression, constant_class, operator_class, level}
use Rattle.answers.specs.Text as text
use Rattle.answers.specs.Text.{Word, words, decimal, decimal_digits, hex, hex_digits, rule_name, lexeme, barred, flag_list, truth, grouped, printed}
use Rattle.answers.specs.Text.{opening, text_of, Phrase, ◌prints◌, phrase_among, statements}
use Rattle.print.specs.Phrase.{set_words, numeric_flags, option_flags, element_words, GUID, value_from, element_of}
use Rattle.print.specs.Phrase.{added, skip_after, passed_after, phrase_from, shown_in, element_in, phrase_words}
use Rattle.statements.specs.Statements.{closing, expression_end}
use Rattle.spellings.proofs.Outputs.{text_append}
use Rattle.spellings.proofs.DigitLaws.{digits_few}
use Rattle.spellings.proofs.SpellingLaws.{ROOM, lexeme_short}
use Rattle.elements.specs.Kinds.{OPTION_FLAGS, TRUTH, FLAG_LIST, NUMERIC_FLAGS, H8, H4, H2, MAYBE}
use Rattle.elements.specs.Symbols as phrase
use Rattle.statements.proofs.Sources as source
use Rattle.statements.proofs.StatementLaws.{form_words, rule_words, subtitle_words, text_words, label_words, form_set_words, option_words}
use Rattle.statements.proofs.StatementLaws.{goto_words, checkbox_words, numeric_words, one_of_words}
use Rattle.laid.specs.Spans.{Spans, spans_number, spans_constant, spans_question_named, spans_question_numbered, spans_rule_named}
use Rattle.laid.specs.Spans.{spans_negation, spans_binary}
use Rattle.laid.specs.Items.{Inner, Items}
use Rattle.laid.specs.Laid.{Inside, inside_plain, inside_expressed, Laid, laid_done, laid_item}
use Rattle.text.specs.ItemWords.{code_at, inner_words, item_words}

abbrev pub size : List Word → ℕ
size ws = length (text_of ws)

pub size_append : (a b : List Word) → size (a ++ b) ≡ size a + size b
size_append a b = ap length (text_append a b) ∙ length-append (text_of a) (text_of b)

size_word_lem : (w : Word) → size (w ∷ []) ≡ length w + 1
unfolding text_of
size_word_lem w = length-append w (_ ∷ [])

size_none : size [] ≡ 0
unfolding text_of
size_none = refl

either_short : (m : ℕ) (b : Bool) (x y : List Word) → size x ≤ m → size y ≤ m → size (cond b x y) ≤ m
either_short m true x y h l = h
either_short m false x y h l = l

-- ---- numbers

decimal_short : (v : ℕ) → v < 2 ^ 64 → size (decimal v) ≤ 21
decimal_short v h = omega (arith, size_word_lem (decimal_digits (suc v) v []), digits_few v h)

rule_short : (v : ℕ) → v < 2 ^ 64 → size (rule_name v) ≤ 22
rule_short v h = omega (arith, size_word_lem (82 ∷ decimal_digits (suc v) v []), digits_few v h)

hex_length : (k v : ℕ) → length (hex_digits k v) ≡ k
unfolding hex_digits
hex_length zero v = refl
hex_length (suc k) v = ap suc (hex_length k v)

hex_short : (k v : ℕ) → size (hex k v) ≡ k + 3
hex_short k v = size_word_lem (48 ∷ 120 ∷ hex_digits k v) ∙ omega (arith, hex_length k v)

-- ---- elements

-- no element of a phrase has more bytes; no statement's opening; and no row, its part in expressions and closings with it
abbrev pub ELEMENT : ℕ
ELEMENT = 160

abbrev pub OPENING : ℕ
OPENING = 64 * ELEMENT

abbrev pub EACH_ROW : ℕ
EACH_ROW = 2 * OPENING

-- a list of flag words: each with its gap, and a bar
bar_short : size (words "|") ≤ 2
unfolding text_of same
bar_short = omega arith

barred_short : (ws : List FlagWord) → size (barred ws) ≤ 26 * length ws
barred_short [] = omega (arith, size_none)
barred_short (w ∷ ws) =
    omega (
      arith,
      size_append (words "|") (lexeme w.class ++ barred ws),
      size_append (lexeme w.class) (barred ws),
      bar_short,
      lexeme_short w.class,
      barred_short ws,
    )

list_short : (ws : List FlagWord) → size (flag_list ws) ≤ 26 * length ws
list_short [] = omega (arith, size_none)
list_short (w ∷ ws) = omega (arith, size_append (lexeme w.class) (barred ws), lexeme_short w.class, barred_short ws)

set_few : (set : ℕ) (ws : List FlagWord) → length (set_in set ws) ≤ length ws
set_few set [] = omega arith
set_few set (w ∷ ws) = by (flag.is_set w.value set) (set_few set ws)
  where
    by : (there : Bool) → length (set_in set ws) ≤ length ws → length (cond there (w ∷ set_in set ws) (set_in set ws)) ≤ suc (length ws)
    by true h = omega arith
    by false h = omega arith

flags_short : (set : ℕ) → size (set_words set) ≤ 26 * length flag_words
unfolding set_words
flags_short set = omega (arith, list_short (set_in set flag_words), set_few set flag_words)

-- a numeric's size and display with them
numeric_short : (set n : ℕ) → size (numeric_flags set n) ≤ 26 * (length flag_words + 2)
unfolding numeric_flags
numeric_short set n =
    let set_words_lem = set_in set flag_words in
    let two = size_word (size_of n) ∷ display_word (display_of n) ∷ [] in
    omega (arith, list_short (set_words_lem ++ two), length-append set_words_lem two, set_few set flag_words)

truth_short : (v : ℕ) → size (truth v) ≤ 6
unfolding text_of same
truth_short v = either (eqb v 1) (λ e. rw (e, truth) (omega arith)) (λ e. rw (e, truth) (omega arith))

option_short : (v : ℕ) → size (option_flags v) ≤ ROOM
unfolding option_flags
option_short v = either_short ROOM (flag.is_set flag.OPTION_DEFAULT v) _ _ (lexeme_short «DEFAULT») (omega (arith, decimal_short 0 (omega arith)))

element_short : (e v : ℕ) → v < 2 ^ 64 → size (element_words e v) ≤ ELEMENT
unfolding element_words
element_short e v h =
    either_short ELEMENT (eqb e NAME) _ _ (omega (arith, rule_short v h))
    (either_short ELEMENT (eqb e OPTION_FLAGS) _ _ (omega (arith, option_short v))
    (either_short ELEMENT (eqb e TRUTH) _ _ (omega (arith, truth_short v))
    (either_short ELEMENT (eqb e FLAG_LIST) _ _ (omega (arith, flags_short v))
    (either_short ELEMENT (eqb e H8) _ _ (omega (arith, hex_short 8 v))
    (either_short ELEMENT (eqb e H4) _ _ (omega (arith, hex_short 4 v))
    (either_short ELEMENT (eqb e H2) _ _ (omega (arith, hex_short 2 v)) (omega (arith, decimal_short v h))))))))

-- ---- phrases

-- a row of 64-bit numbers
abbrev pub Small : List ℕ → Type 0
Small r = (c : ℕ) → get_or r c 0 < 2 ^ 64

number_if : (b : Bool) (x y : ℕ) → x < 2 ^ 64 → y < 2 ^ 64 → cond b x y < 2 ^ 64
number_if true x y h l = h
number_if false x y h l = l

value_small : (r : List ℕ) → Small r → (s : ℕ) → value_from r s < 2 ^ 64
unfolding value_from
value_small r h s = number_if (ltb s GUID) _ _ (h s) (among (s - GUID))
  where
    among : (k : ℕ) → get_or (get_or r column.A 0 / 2 ^ 32 ∷ get_or r column.A 0 / 2 ^ 16 % 2 ^ 16 ∷ get_or r column.A 0 % 2 ^ 16
        ∷ get_or r column.B 0 / 256 ^ 7 % 256 ∷ get_or r column.B 0 / 256 ^ 6 % 256 ∷ get_or r column.B 0 / 256 ^ 5 % 256 ∷ get_or r column.B 0 / 256 ^ 4 % 256 ∷ get_or r column.B 0 / 256 ^ 3 % 256 ∷ get_or r column.B 0 / 256 ^ 2 % 256 ∷ get_or r column.B 0 / 256 % 256 ∷ []) k (get_or r column.B 0 / 256 ^ 0 % 256) < 2 ^ 64
    among zero = omega (arith, h column.A)
    among (suc zero) = omega arith
    among (suc (suc zero)) = omega arith
    among (suc (suc (suc zero))) = omega arith
    among (suc (suc (suc (suc zero)))) = omega arith
    among (suc (suc (suc (suc (suc zero))))) = omega arith
    among (suc (suc (suc (suc (suc (suc zero)))))) = omega arith
    among (suc (suc (suc (suc (suc (suc (suc zero))))))) = omega arith
    among (suc (suc (suc (suc (suc (suc (suc (suc zero)))))))) = omega arith
    among (suc (suc (suc (suc (suc (suc (suc (suc (suc zero))))))))) = omega arith
    among (suc (suc (suc (suc (suc (suc (suc (suc (suc (suc k)))))))))) = omega arith

from_row_short : (r : List ℕ) → Small r → (e source : ℕ) → size (element_of r e source) ≤ ELEMENT
unfolding element_of
from_row_short r h e source =
    either_short ELEMENT (eqb e NUMERIC_FLAGS) _ _ (omega (arith, numeric_short (get_or r column.FLAGS 0) (get_or r column.SIZE 0)))
    (element_short e (value_from r source) (value_small r h source))

module _ (shown : ℕ → Bool) (element : ℕ → ℕ → List Word) (each : (e k : ℕ) → size (element e k) ≤ ELEMENT) where
  phrase_short : (p : List ℕ) (skip passed : ℕ) → size (phrase_from shown element p skip passed) ≤ ELEMENT * length p
  unfolding phrase_from added
  phrase_short [] skip passed = omega (arith, size_none)
  phrase_short (e ∷ p) skip passed =
      let one : size (added shown element skip passed e) ≤ ELEMENT = either_short ELEMENT (eqb skip 0) _ _ (either_short ELEMENT (eqb e MAYBE) _ _ (omega (arith, size_none)) (either_short ELEMENT (ltb e NAME) _ _ (omega (arith, lexeme_short e)) (each e passed))) (omega (arith, size_none)) in
      let more = phrase_short p (skip_after shown element skip e (get_or p 0 0)) (passed_after shown element skip passed e (get_or p 0 0)) in
      omega (arith, size_append (added shown element skip passed e) (phrase_from shown element p (skip_after shown element skip e (get_or p 0 0)) (passed_after shown element skip passed e (get_or p 0 0))))

pub words_short : (p sources r : List ℕ) → Small r → size (phrase_words p sources r) ≤ ELEMENT * length p
unfolding phrase_words
words_short p sources r h = phrase_short (shown_in r) (element_in sources r) (λ e k. from_row_short r h e (get_or sources k 0)) p 0 0

-- ---- statements

-- each phrase of a list is short for a row of its code
abbrev Shorts : List Phrase → List ℕ → Type 0
Shorts [] r = Unit {0}
Shorts (k prints f ∷ l) r = (get_or r column.CODE 0 ≡ k → size (f r) ≤ OPENING) × Shorts l r

among_short : (l : List Phrase) (r : List ℕ) → Shorts l r → size (phrase_among l r) ≤ OPENING
among_short [] r h = omega (arith, size_none)
among_short (k prints f ∷ l) r h =
    either (eqb (get_or r column.CODE 0) k)
    (λ e. rw (e, phrase_among) (h.0 (eqb-true (get_or r column.CODE 0) k e)))
    (λ e. rw (e, phrase_among) (among_short l r h.1))

phrase_small : (r elements sources : List ℕ) → Small r → length elements ≤ 64
    → (ws : List Word) → phrase_words elements sources r ≡ ws → size ws ≤ OPENING
phrase_small r elements sources h l ws e = omega (arith, words_short elements sources r h, ap size e)

form_set_short : (r : List ℕ) → Small r → size (text.form_set r) ≤ OPENING
form_set_short r h =
    omega (
      arith,
      ap size (form_set_words r),
      size_append (phrase_words phrase.form_set_open_elements source.form_set_open_sources r) (phrase_words phrase.form_set_braced_elements source.form_set_braced_sources r),
      words_short phrase.form_set_open_elements source.form_set_open_sources r h,
      words_short phrase.form_set_braced_elements source.form_set_braced_sources r h,
    )

condition_words_short : (size (words "suppressif") ≤ 16) × (size (words "grayoutif") ≤ 16) × (size (words "disableif") ≤ 16)
unfolding text_of same
condition_words_short = (omega arith, omega arith, omega arith)

pub opening_short : (r : List ℕ) → Small r → size (opening r) ≤ OPENING
opening_short r h =
    among_short statements r (
      λ e. form_set_short r h,
      (
        λ e. phrase_small r phrase.form_open_elements source.form_sources h (omega arith) (text.form r) (form_words r),
        (
          λ e. phrase_small r phrase.rule_open_elements source.rule_sources h (omega arith) (text.rule r) (rule_words r),
          (
            λ e. phrase_small r phrase.subtitle_elements source.subtitle_sources h (omega arith) (text.subtitle r) (subtitle_words r),
            (
              λ e. phrase_small r phrase.text_elements source.text_sources h (omega arith) (text.text r) (text_words r),
              (
                λ e. phrase_small r phrase.label_elements source.label_sources h (omega arith) (text.label r) (label_words r),
                (
                  λ e. phrase_small r phrase.goto_elements source.goto_sources h (omega arith) (text.goto r) (goto_words r e),
                  (
                    λ e. phrase_small r phrase.checkbox_elements source.checkbox_sources h (omega arith) (text.checkbox r) (checkbox_words r e),
                    (
                      λ e. phrase_small r phrase.numeric_elements source.numeric_sources h (omega arith) (text.numeric r) (numeric_words r e),
                      (
                        λ e. phrase_small r phrase.one_of_open_elements source.one_of_sources h (omega arith) (text.one_of r) (one_of_words r e),
                        (
                          λ e. phrase_small r phrase.option_elements source.option_sources h (omega arith) (text.option r) (option_words r),
                          (
                            λ e. omega (arith, condition_words_short.0),
                            (
                              λ e. omega (arith, condition_words_short.1),
                              (
                                λ e. omega (arith, condition_words_short.2),
                                tt,
                              ),
                            ),
                          ),
                        ),
                      ),
                    ),
                  ),
                ),
              ),
            ),
          ),
        ),
      ),
    )

pub closing_short : (k : ℕ) → size (closing k) ≤ 16
unfolding closing text_of same
closing_short k =
    either_short 16 (eqb k 14) _ _ (omega arith)
    (either_short 16 (eqb k 1) _ _ (omega arith)
    (either_short 16 (eqb k 5) _ _ (omega arith)
    (either_short 16 (eqb k 10) _ _ (omega arith)
    (either_short 16 (eqb k 25) _ _ (omega arith)
    (either_short 16 (eqb k 30) _ _ (omega arith) (omega arith))))))

end_short : (k : ℕ) → size (expression_end k) ≤ 16
unfolding expression_end text_of same
end_short k = either_short 16 (eqb k 24) _ _ (omega arith) (omega arith)

-- ---- expressions

fixed_short : (size (words "questionref (") ≤ 16) × (size (words "ruleref (") ≤ 16) × (size (words ")") ≤ 2) × (size (words "(") ≤ 2) × (size (words "NOT") ≤ 4)
unfolding text_of same
fixed_short = (omega arith, omega arith, omega arith, omega arith, omega arith)

three_short : (a b c : List Word) (x y z : ℕ) → size a ≤ x → size b ≤ y → size c ≤ z → size (a ++ b ++ c) ≤ x + y + z
three_short a b c x y z h l m = omega (arith, size_append (a ++ b) c, size_append a b)

grouped_short : (b : Bool) (ws : List Word) → size (grouped b ws) ≤ size ws + 4
grouped_short true ws = omega (arith, three_short (words "(") ws (words ")") 2 (size ws) 2 fixed_short.3 (omega arith) fixed_short.2)
grouped_short false ws = omega arith

module _ (found : ℕ → List ℕ) (t : List ℕ) (small : (i c : ℕ) → cell_at t i c < 2 ^ 64) where
  expression_short : {i j : ℕ} {e : Expression} → Spans found t i e j → (n : ℕ) → size (printed found n e) + 128 * i ≤ 128 * j
  expression_short (spans_number {i = i} {p = p} c v) n = omega (arith, decimal_short (get_or (found p) column.A 0) (rw v at (small i column.A)))
  expression_short (spans_constant k c) n = omega (arith, lexeme_short (constant_class k))
  expression_short (spans_question_named {i = i} {p = p} c v) n =
      omega (arith, three_short (words "questionref (") (decimal (get_or (found p) column.A 0)) (words ")") 16 21 2 fixed_short.0 (decimal_short (get_or (found p) column.A 0) (rw v at (small i column.A))) fixed_short.2)
  expression_short (spans_question_numbered {i = i} {p = p} c v) n =
      omega (arith, three_short (words "questionref (") (decimal (get_or (found p) column.A 0)) (words ")") 16 21 2 fixed_short.0 (decimal_short (get_or (found p) column.A 0) (rw v at (small i column.A))) fixed_short.2)
  expression_short (spans_rule_named {i = i} {p = p} c v) n =
      omega (arith, three_short (words "ruleref (") (rule_name (get_or (found p) column.A 0)) (words ")") 16 22 2 fixed_short.1 (rule_short (get_or (found p) column.A 0) (rw v at (small i column.A))) fixed_short.2)
  expression_short (spans_negation {e = e} s c) n = omega (arith, size_append (words "NOT") (printed found 9 e), fixed_short.4, expression_short s 9)
  expression_short (spans_binary {l = l} {r = r} o s u c) n =
      let x = printed found (level o) l in
      let y = printed found (suc (level o)) r in
      omega (arith, grouped_short (ltb (level o) n) (x ++ lexeme (operator_class o) ++ y), size_append (x ++ lexeme (operator_class o)) y, size_append x (lexeme (operator_class o)), lexeme_short (operator_class o), expression_short s (level o), expression_short u (suc (level o)))

  -- ---- items

  inner_short : {count i j : ℕ} {x : Inner} → Inside t count found i x j → (k : ℕ) → size (inner_words found k x) + 128 * i ≤ 128 * j + 16
  unfolding inner_words
  inner_short inside_plain k = omega (arith, size_none)
  inner_short (inside_expressed {e = e} s) k = omega (arith, size_append (printed found 0 e) (expression_end k), expression_short s 0, end_short k)

  pub items_short : {count parent i m : ℕ} {items : Items} → Laid t count found parent i items m → size (item_words found items) + EACH_ROW * i ≤ EACH_ROW * m
  unfolding item_words
  items_short laid_done = omega (arith, size_none)
  items_short (laid_item {i = i} {j = j} {k = k} {m = m} {p = q} {inner = x} {within = within} {later = later} e g h s n a b d) =
      let first = opening_short (found q) (λ c. rw e at (small i c)) in
      let a₁ = opening (found q) ++ inner_words found (code_at found q) x in
      let a₂ = closing (code_at found q) ++ item_words found later in
      omega (
        arith,
        s.up,
        first,
        inner_short n (code_at found q),
        items_short a,
        items_short d,
        closing_short (code_at found q),
        size_append a₁ (item_words found within ++ a₂),
        size_append (opening (found q)) (inner_words found (code_at found q) x),
        size_append (item_words found within) a₂,
        size_append (closing (code_at found q)) (item_words found later),
      )
