-- The row of a tree over a statement's shape has the cells that the shape was made from.
-- Assumes nothing.
use mathlib.Core.Path.{◌≡◌, refl, ap, ◌∙◌}
use mathlib.Core.List.{List, [], ◌∷◌}
use mathlib.Core.Bool.{Bool, true, false, cond}
use Prim.Native.Nat.{ℕ, suc, ◌+◌, ◌*◌, ◌/◌, ◌%◌, ◌^◌}
use native.Mathlib.Omega.{arith}
use lib.Dec.{eqb, ltb}
use lib.ListN.{drop}
use borrow.Author.Tests.{lt-ltb}
use Rattle.std.specs.Prelude.{Some}
use Rattle.values.specs.Numbers.{value_at}
use Rattle.lexemes.specs.Words as words
use Rattle.rows.specs.Codes as code
use Rattle.rows.specs.Columns as column
use Rattle.rows.specs.Cells.{Entry, ◌≔◌}
use Rattle.rows.specs.Flags as flag
use Rattle.rows.specs.Sizes.{NO_SIZE, UINT_DEC, size_and_display}
use Rattle.ll1.specs.Trees.{Trees}
use Rattle.grammar.specs.Source.{number_at}
use Rattle.grammar.specs.Parts.{child, chosen, place_at}
use Rattle.answers.specs.Rows.{Draft, ABSENT_STEP, row_with, numeral_at, value, string, written_number, written_mark, name_mark, item, option, form, guid_high, guid_low, guid_bytes, form_set}
use Rattle.grammar.specs.Parts.{mark, when}
use Rattle.grammar.specs.Flags.{FlagWord, flag_words, size_words, display_words, classes_of, classes, total, flags, first_of}
use Rattle.grammar.proofs.FlagTotals.{PassesOver, none_of, total_passes, first_passes}
use Rattle.answers.specs.Text.{has_flag, numeric_list}
use Rattle.formulas.specs.Shapes.{decimal, hex, rule_word, Shape, s_nil, s_leaf, taken, read_sign, read_decimal, read_rule, read_hex, Over, over_nil, over_leaf}
use Rattle.formulas.proofs.Shapes.{over_part, over_taken, over_classes}
use Rattle.formulas.specs.Formula.{Formula}
use Rattle.roundtrip.proofs.Phrases.{cell, row_flags, FlagRules, flag_rules, numeric_flag_rules, flags_part, present, truth_default_under, number_default_under, string_under, head_under, subtitle_under, text_under, label_under, goto_under, checkbox_under, numeric_under, one_of_under, option_under, rule_under, form_under, eight_under, guid_under, form_set_under}
use Rattle.roundtrip.proofs.FlagLists.{frame, part_read, goto_read}
use Rattle.roundtrip.proofs.NumericLists.{size_among, display_among, numeric_total}

-- ---- flags

-- of words
abbrev pub flag_total : List FlagWord → ℕ
flag_total ws = total flag_words (classes_of ws)

-- the row of a question by its HEAD's number, prompt, help and name, with what else it holds
abbrev pub question_row : (k parent place own first second name : ℕ) → List Entry → List ℕ
question_row k parent place own first second name entries =
    row_with k parent place (column.OWN ≔ own ∷ column.FIRST ≔ first ∷ column.SECOND ≔ second ∷ column.NAME ≔ name ∷ entries)

-- and what else the row of a question in the text holds, by the row that it was printed from
abbrev flags_with_default : List ℕ → ℕ
flags_with_default r = flag_total (row_flags r) + when (has_flag flag.HAS_DEFAULT r) flag.HAS_DEFAULT

abbrev pub goto_holds : List ℕ → List Entry
goto_holds r = column.FLAGS ≔ flag_total (row_flags r) ∷ column.A ≔ cell column.A r ∷ []

abbrev pub checkbox_holds : List ℕ → List Entry
checkbox_holds r = column.FLAGS ≔ flags_with_default r ∷ column.D ≔ when (has_flag flag.HAS_DEFAULT r) (when (eqb (cell column.D r) 1) 1) ∷ []

abbrev pub numeric_holds : List ℕ → List Entry
numeric_holds r =
    column.FLAGS ≔ flags_with_default r
    ∷ column.A ≔ cell column.A r
    ∷ column.B ≔ cell column.B r
    ∷ column.C ≔ cell column.C r
    ∷ column.D ≔ when (has_flag flag.HAS_DEFAULT r) (cell column.D r)
    ∷ column.SIZE ≔ size_and_display (size_among (numeric_list r)) (display_among (numeric_list r))
    ∷ []

abbrev pub one_of_holds : List ℕ → List Entry
one_of_holds r = column.FLAGS ≔ flag_total (row_flags r) ∷ []

pub marked : (p : ℕ) → ltb 0 (mark p) ≡ true
marked p = lt-ltb 0 (suc p) (omega arith)

module _ (t : List ℕ) where
  abbrev N : ℕ → ℕ
  N = number_at t

  pub value_of : (p : ℕ) {v : ℕ} → value_at t p ≡ Some v → N p ≡ v
  unfolding number_at
  value_of p h = rw h

  -- ---- parts

  -- what is read of the classes of FL is told by its words
  said : {X : Type 0} (R : FlagRules) (ws vs : List FlagWord) (read : List ℕ → X) → PassesOver vs read → none_of vs frame ≡ true
      → {T : Trees} → Over t T (flags_part R ws) → read (classes T) ≡ read (classes_of ws)
  said R ws vs read over h o = ap read (over_classes o) ∙ part_read R vs h read over ws

  flags_said : (R : FlagRules) (ws : List FlagWord) {T : Trees} → Over t T (flags_part R ws) → flags T ≡ flag_total ws
  flags_said R ws o = said R ws flag_words (total flag_words) (total_passes flag_words) refl o

  number_is : {v : ℕ} {T : Trees} → Over t T (s_leaf (decimal v) s_nil) → N (place_at 0 T) ≡ v
  number_is (over_leaf {p = p} (read_decimal h) over_nil) = value_of p h

  hex_is : {w v : ℕ} {T : Trees} → Over t T (s_leaf (hex w v) s_nil) → N (place_at 0 T) ≡ v
  hex_is (over_leaf {p = p} (read_hex h k) over_nil) = value_of p h

  string_is : (n : ℕ) {T : Trees} → Over t T (string_under n) → value N 2 T ≡ n
  string_is n o = number_is (over_part 2 o)

  pub record HeadIs (h : Trees) (r : List ℕ) : Type 0 where
    pub own : written_number N h ≡ cell column.OWN r
    pub first : string N 4 h ≡ cell column.FIRST r
    pub second : string N 8 h ≡ cell column.SECOND r
    pub unnamed : name_mark N h ≡ 0
    pub written : ltb 0 (written_mark N h) ≡ true

  head_is : (r : List ℕ) {T : Trees} → Over t T (head_under r) → HeadIs T r
  head_is r {T} o =
      let n = number_is {v = cell column.OWN r} (over_part 2 (over_part 1 o)) in
      record {
        own = λ i. when (eqb (over_taken 1 o i) 1) (n i);
        first = string_is (cell column.FIRST r) (over_part 4 o);
        second = string_is (cell column.SECOND r) (over_part 8 o);
        unnamed = λ i. when (eqb (over_taken 0 o i) 1) (mark (place_at 2 (child 0 T)));
        written = ap (λ k. ltb 0 (when (eqb k 1) (mark (numeral_at N 2 (child 1 T))))) (over_taken 1 o) ∙ marked (numeral_at N 2 (child 1 T));
      }

  -- a part that may be absent
  present_is : (e : Bool) → eqb (present e) 1 ≡ e
  present_is true = refl
  present_is false = refl

  marked_when : (e : Bool) (p : ℕ) → ltb 0 (when e (mark p)) ≡ e
  marked_when true p = marked p
  marked_when false p = refl

  -- TRUE is the first alternative
  truth_is : (e v : Bool) → when e (when (eqb (taken 2 (truth_default_under e v)) 0) 1) ≡ when e (when v 1)
  truth_is true true = refl
  truth_is true false = refl
  truth_is false v = refl

  default_is : (e : Bool) (v : ℕ) {T : Trees} → Over t T (number_default_under e v) → when e (value N 2 T) ≡ when e v
  default_is true v o = number_is (over_part 2 o)
  default_is false v o = refl

  -- ---- items that ask nothing

  pub subtitle_is : (r : List ℕ) (parent : ℕ) {T : Trees} → Over t T (subtitle_under r) → (item N parent 0 T).row ≡ row_with code.SUBTITLE parent (place_at 0 T) (column.FIRST ≔ cell column.FIRST r ∷ [])
  subtitle_is r parent {T} o =
      let h = string_is (cell column.FIRST r) (over_part 3 o) in
      λ i. row_with code.SUBTITLE parent (place_at 0 T) (column.FIRST ≔ h i ∷ [])

  pub text_is : (r : List ℕ) (parent : ℕ) {T : Trees} → Over t T (text_under r) → (item N parent 1 T).row ≡ row_with code.TEXT parent (place_at 0 T) (column.FIRST ≔ cell column.FIRST r ∷ column.SECOND ≔ cell column.SECOND r ∷ [])
  text_is r parent {T} o =
      let h = string_is (cell column.FIRST r) (over_part 7 o) in
      let k = string_is (cell column.SECOND r) (over_part 3 o) in
      λ i. row_with code.TEXT parent (place_at 0 T) (column.FIRST ≔ h i ∷ column.SECOND ≔ k i ∷ [])

  pub label_is : (r : List ℕ) (parent : ℕ) {T : Trees} → Over t T (label_under r) → (item N parent 2 T).row ≡ row_with code.LABEL parent (place_at 0 T) (column.OWN ≔ cell column.OWN r ∷ [])
  label_is r parent {T} o =
      let h = number_is {v = cell column.OWN r} (over_part 1 o) in
      λ i. row_with code.LABEL parent (place_at 0 T) (column.OWN ≔ h i ∷ [])

  -- ---- questions: the row, and that its number is written

  -- a question's draft
  pub record Question (d : Draft) (k parent place : ℕ) (r : List ℕ) (entries : List Entry) : Type 0 where
    pub row : d.row ≡ question_row k parent place (cell column.OWN r) (cell column.FIRST r) (cell column.SECOND r) 0 entries
    pub written : ltb 0 d.own_at ≡ true

  pub goto_is : (r : List ℕ) (parent : ℕ) {T : Trees} → Over t T (goto_under r) → Question (item N parent 3 T) code.GOTO parent (place_at 0 T) r (goto_holds r)
  goto_is r parent {T} o =
      let h = head_is r (over_part 3 o) in
      let g = number_is {v = cell column.A r} (over_part 1 o) in
      let fl = ap (total flag_words) (over_classes (over_part 4 o)) ∙ goto_read flag_words refl (total flag_words) (total_passes flag_words) (row_flags r) in
      record { row = λ i. question_row code.GOTO parent (place_at 0 T) (h.own i) (h.first i) (h.second i) (h.unnamed i) (column.FLAGS ≔ fl i ∷ column.A ≔ g i ∷ []); written = h.written }

  pub checkbox_is : (r : List ℕ) (parent : ℕ) {T : Trees} → Over t T (checkbox_under r) → Question (item N parent 4 T) code.CHECKBOX parent (place_at 0 T) r (checkbox_holds r)
  checkbox_is r parent {T} o =
      let h = head_is r (over_part 1 o) in
      let fl = flags_said flag_rules (row_flags r) (over_part 3 o) in
      let de = ap (λ k. eqb k 1) (over_taken 4 o) ∙ present_is (has_flag flag.HAS_DEFAULT r) in
      let dv = (λ i. when (de i) (when (eqb (over_taken 2 (over_part 4 o) i) 0) 1)) ∙ truth_is (has_flag flag.HAS_DEFAULT r) (eqb (cell column.D r) 1) in
      record {
        row = λ i. question_row code.CHECKBOX parent (place_at 0 T) (h.own i) (h.first i) (h.second i) (h.unnamed i) (column.FLAGS ≔ (fl i + when (de i) flag.HAS_DEFAULT) ∷ column.D ≔ dv i ∷ []);
        written = h.written;
      }

  pub numeric_is : (r : List ℕ) (parent : ℕ) {T : Trees} → Over t T (numeric_under r)
      → Question (item N parent 5 T) code.NUMERIC parent (place_at 0 T) r (numeric_holds r) × (ltb 0 (item N parent 5 T).default_at ≡ has_flag flag.HAS_DEFAULT r)
  numeric_is r parent {T} o =
      let h = head_is r (over_part 1 o) in
      let fl = flags_said numeric_flag_rules (numeric_list r) (over_part 3 o) ∙ numeric_total r in
      let hz = said numeric_flag_rules (numeric_list r) size_words (first_of size_words NO_SIZE) (first_passes size_words NO_SIZE) refl (over_part 3 o) in
      let hy = said numeric_flag_rules (numeric_list r) display_words (first_of display_words UINT_DEC) (first_passes display_words UINT_DEC) refl (over_part 3 o) in
      let ha = number_is {v = cell column.A r} (over_part 6 o) in
      let hb = number_is {v = cell column.B r} (over_part 10 o) in
      let hs = number_is {v = cell column.C r} (over_part 2 (over_part 12 o)) in
      let de = ap (λ k. eqb k 1) (over_taken 13 o) ∙ present_is (has_flag flag.HAS_DEFAULT r) in
      let dv = ap (λ z. when z (value N 2 (child 13 T))) de ∙ default_is (has_flag flag.HAS_DEFAULT r) (cell column.D r) (over_part 13 o) in
      let hc : cond (eqb (chosen 12 T) 1) (value N 2 (child 12 T)) ABSENT_STEP ≡ cell column.C r = λ i. cond (eqb (over_taken 12 o i) 1) (hs i) ABSENT_STEP in (
        record {
          row = λ i. question_row code.NUMERIC parent (place_at 0 T) (h.own i) (h.first i) (h.second i) (h.unnamed i) (column.FLAGS ≔ (fl i + when (de i) flag.HAS_DEFAULT) ∷ column.A ≔ ha i ∷ column.B ≔ hb i ∷ column.C ≔ hc i ∷ column.D ≔ dv i ∷ column.SIZE ≔ size_and_display (hz i) (hy i) ∷ []);
          written = h.written;
        },
        ap (λ z. ltb 0 (when z (mark (numeral_at N 2 (child 13 T))))) de ∙ marked_when (has_flag flag.HAS_DEFAULT r) (numeral_at N 2 (child 13 T)),
      )

  pub one_of_is : (r : List ℕ) (x : Shape) (parent : ℕ) {T : Trees} → Over t T (one_of_under r x) → Question (item N parent 6 T) code.ONE_OF parent (place_at 0 T) r (one_of_holds r)
  one_of_is r x parent {T} o =
      let h = head_is r (over_part 1 o) in
      let fl = flags_said flag_rules (row_flags r) (over_part 3 o) in
      record { row = λ i. question_row code.ONE_OF parent (place_at 0 T) (h.own i) (h.first i) (h.second i) (h.unnamed i) (column.FLAGS ≔ fl i ∷ []); written = h.written }

  -- ---- the other statements

  pub option_is : (r : List ℕ) (parent : ℕ) {T : Trees} → Over t T (option_under r)
      → ((option N parent T).row ≡ row_with code.OPTION parent (place_at 0 T) (column.FIRST ≔ cell column.FIRST r ∷ column.FLAGS ≔ when (has_flag flag.OPTION_DEFAULT r) flag.OPTION_DEFAULT ∷ column.A ≔ cell column.A r ∷ [])) × (ltb 0 (option N parent T).default_at ≡ has_flag flag.OPTION_DEFAULT r)
  option_is r parent {T} o =
      let h = string_is (cell column.FIRST r) (over_part 3 o) in
      let ha = number_is {v = cell column.A r} (over_part 7 o) in
      let de = ap (λ k. eqb k 1) (over_taken 11 o) ∙ present_is (has_flag flag.OPTION_DEFAULT r) in (
        λ i. row_with code.OPTION parent (place_at 0 T) (column.FIRST ≔ h i ∷ column.FLAGS ≔ when (de i) flag.OPTION_DEFAULT ∷ column.A ≔ ha i ∷ []),
        ap (λ z. ltb 0 (when z (mark (place_at 0 (child 11 T))))) de ∙ marked_when (has_flag flag.OPTION_DEFAULT r) (place_at 0 (child 11 T)),
      )

  -- its name is R and its number
  pub rule_is : (r : List ℕ) (e : Formula) (parent n : ℕ) {T : Trees} → Over t T (rule_under r e) → words.word (drop (place_at 1 T) t) ≡ rule_word (cell column.OWN r)
  rule_is r e parent n (over_leaf read_sign (over_leaf (read_rule h w) o)) = w

  pub form_is : (r : List ℕ) (x : Shape) (parent : ℕ) {T : Trees} → Over t T (form_under r x) → (form N parent T).row ≡ row_with code.FORM parent (place_at 0 T) (column.OWN ≔ cell column.OWN r ∷ column.FIRST ≔ cell column.FIRST r ∷ [])
  form_is r x parent {T} o =
      let h = number_is {v = cell column.OWN r} (over_part 3 o) in
      let k = string_is (cell column.FIRST r) (over_part 7 o) in
      λ i. row_with code.FORM parent (place_at 0 T) (column.OWN ≔ h i ∷ column.FIRST ≔ k i ∷ [])

  -- ---- GUID

  abbrev pub high_of : ℕ → ℕ
  high_of x = x / 2 ^ 32 % 2 ^ 32 * 2 ^ 32 + x / 2 ^ 16 % 2 ^ 16 % 2 ^ 16 * 2 ^ 16 + x % 2 ^ 16 % 2 ^ 16

  abbrev byte_of : ℕ → ℕ → ℕ
  byte_of i x = x / 256 ^ i % 256 % 2 ^ 8

  abbrev pub low_of : ℕ → ℕ
  low_of x = byte_of 7 x * 2 ^ 56 + byte_of 6 x * 2 ^ 48 + byte_of 5 x * 2 ^ 40 + byte_of 4 x * 2 ^ 32 + byte_of 3 x * 2 ^ 24 + byte_of 2 x * 2 ^ 16 + byte_of 1 x * 2 ^ 8 + byte_of 0 x

  low_is : (r : List ℕ) {T : Trees} → Over t T (eight_under r) → guid_low N T ≡ low_of (cell column.B r)
  low_is r o =
      let x = cell column.B r in
      let h₇ = hex_is {v = x / 256 ^ 7 % 256} (over_part 0 o) in
      let h₆ = hex_is {v = x / 256 ^ 6 % 256} (over_part 2 o) in
      let h₅ = hex_is {v = x / 256 ^ 5 % 256} (over_part 4 o) in
      let h₄ = hex_is {v = x / 256 ^ 4 % 256} (over_part 6 o) in
      let h₃ = hex_is {v = x / 256 ^ 3 % 256} (over_part 8 o) in
      let h₂ = hex_is {v = x / 256 ^ 2 % 256} (over_part 10 o) in
      let h₁ = hex_is {v = x / 256 ^ 1 % 256} (over_part 12 o) in
      let h₀ = hex_is {v = x / 256 ^ 0 % 256} (over_part 14 o) in
      λ i. h₇ i % 2 ^ 8 * 2 ^ 56 + h₆ i % 2 ^ 8 * 2 ^ 48 + h₅ i % 2 ^ 8 * 2 ^ 40 + h₄ i % 2 ^ 8 * 2 ^ 32 + h₃ i % 2 ^ 8 * 2 ^ 24 + h₂ i % 2 ^ 8 * 2 ^ 16 + h₁ i % 2 ^ 8 * 2 ^ 8 + h₀ i % 2 ^ 8

  guid_is : (r : List ℕ) {T : Trees} → Over t T (guid_under r) → (guid_high N T ≡ high_of (cell column.A r)) × (guid_low N (guid_bytes N T) ≡ low_of (cell column.B r))
  guid_is r {T} o =
      let x = cell column.A r in
      let h₁ = hex_is {v = x / 2 ^ 32} (over_part 1 o) in
      let h₂ = hex_is {v = x / 2 ^ 16 % 2 ^ 16} (over_part 3 o) in
      let h₃ = hex_is {v = x % 2 ^ 16} (over_part 5 o) in
      let inner : guid_bytes N T ≡ child 1 (child 7 T) = rw (over_taken 7 o, guid_bytes) in
      (λ i. h₁ i % 2 ^ 32 * 2 ^ 32 + h₂ i % 2 ^ 16 * 2 ^ 16 + h₃ i % 2 ^ 16, ap (guid_low N) inner ∙ low_is r (over_part 1 (over_part 7 o)))

  pub form_set_is : (r : List ℕ) (x : Shape) {T : Trees} → Over t T (form_set_under r x) → (form_set N T).row ≡ row_with code.FORM_SET 0 (place_at 0 T) (column.FIRST ≔ cell column.FIRST r ∷ column.SECOND ≔ cell column.SECOND r ∷ column.A ≔ high_of (cell column.A r) ∷ column.B ≔ low_of (cell column.B r) ∷ [])
  form_set_is r x {T} o =
      let h = string_is (cell column.FIRST r) (over_part 7 o) in
      let k = string_is (cell column.SECOND r) (over_part 11 o) in
      let g = guid_is r (over_part 3 o) in
      λ i. row_with code.FORM_SET 0 (place_at 0 T) (column.FIRST ≔ h i ∷ column.SECOND ≔ k i ∷ column.A ≔ g.0 i ∷ column.B ≔ g.1 i ∷ [])
