-- The row of each statement of the text matches the statement's row in the source.
-- Assumes nothing.
use mathlib.Core.Path.{◌≡◌, refl, ap, ap₂, sym, ◌∙◌, subst}
use mathlib.Core.List.{List, [], ◌∷◌}
use mathlib.Core.Bool.{Bool, true, false}
use Prim.Native.Nat.{ℕ, ◌+◌, ◌-◌, ◌^◌, ◌<◌}
use native.Mathlib.Omega.{arith}
use lib.Dec.{eqb, ltb}
use lib.ListN.{set, drop}
use Rattle.lexemes.specs.Words as words
use Rattle.rows.specs.Codes as code
use Rattle.rows.specs.Codes.{member, questions, is_question}
use Rattle.rows.specs.Columns as column
use Rattle.rows.specs.Cells.{Entry, ◌≔◌, without_places}
use Rattle.rows.specs.Flags as flag
use Rattle.rows.specs.Sizes.{size_and_display}
use Rattle.ll1.specs.Trees.{Trees}
use Rattle.ll1.proofs.Basics.{clash}
use Rattle.grammar.specs.Source.{number_at}
use Rattle.grammar.specs.Parts.{child, chosen, place_at}
use Rattle.grammar.specs.Parts.{mark, when}
use Rattle.answers.specs.Rows.{row_with, value, item, option, rule_draft, form, guid_high, guid_low, guid_bytes, form_set}
use Rattle.grammar.specs.Flags.{classes, flags, size_in, display_in}
use Rattle.answers.specs.Text.{has_flag, numeric_list}
use Rattle.formulas.specs.Shapes.{rule_word, Shape, Over}
use Rattle.formulas.specs.Formula.{Formula}
use Rattle.roundtrip.proofs.Phrases.{cell, subtitle_under, text_under, label_under, goto_under, checkbox_under, numeric_under, one_of_under, option_under, rule_under, form_under, form_set_under}
use Rattle.roundtrip.proofs.PhraseRows.{question_row, goto_holds, checkbox_holds, numeric_holds, one_of_holds, marked, subtitle_is, text_is, label_is, goto_is, checkbox_is, numeric_is, one_of_is, option_is, rule_is, form_is, high_of, low_of, form_set_is}
use Rattle.roundtrip.proofs.FlagsAgain.{again, flags_default_again, flags_again, default_again}
use Rattle.roundtrip.proofs.NumericLists.{size_among, display_among, size_again_lem, display_again_lem}
use Rattle.again.specs.Matches.{Settled, Match}
use Rattle.again.proofs.Likeness.{numbered_row, draft_row}

truth_again : (e v : Bool) → when e (when (eqb (when e (when v 1)) 1) 1) ≡ when e (when v 1)
truth_again true true = refl
truth_again true false = refl
truth_again false v = refl

when_again : (e : Bool) (v : ℕ) → when e (when e v) ≡ when e v
when_again true v = refl
when_again false v = refl

when_mark : (e : Bool) (p : ℕ) → e ≡ ltb 0 (when e (mark p))
when_mark true p = sym (marked p)
when_mark false p = refl

option_again : (e : Bool) → flag.is_set flag.OPTION_DEFAULT (when e flag.OPTION_DEFAULT) ≡ e
option_again true = refl
option_again false = refl

never : {P : Type 0} → false ≡ true → P
never e = clash cc

-- ---- GUID

high_again : (x : ℕ) → x < 2 ^ 64 → high_of [] x ≡ x
high_again x h = omega arith

module _ (t : List ℕ) (look : ℕ → List ℕ) (source : ℕ → ℕ) (parent : ℕ) (c T : Trees) where
  abbrev r : List ℕ
  r = look (place_at 0 c)

  abbrev N : ℕ → ℕ
  N = number_at t

  -- the row of a question with the HEAD of the row x
  abbrev asked : ℕ → List ℕ → List Entry → List ℕ
  asked k x entries = question_row k parent 0 (cell column.OWN x) (cell column.FIRST x) (cell column.SECOND x) 0 entries

  pub subtitle_match : Settled look (item source parent 0 c) → Over t T (subtitle_under r) → Match t look (item N parent 0 T) (item source parent 0 c)
  unfolding is_question member questions
  subtitle_match s o =
      let e = draft_row look s refl refl in
      record {
        whole = refl;
        same = ap without_places (subtitle_is t r parent o) ∙ subst (λ q. without_places (row_with code.SUBTITLE parent 0 (column.FIRST ≔ cell column.FIRST q ∷ [])) ≡ without_places q) (sym e) refl;
        code_same = refl;
        default = refl;
        question = never;
        rule = never;
        reference = never;
      }

  pub text_match : Settled look (item source parent 1 c) → Over t T (text_under r) → Match t look (item N parent 1 T) (item source parent 1 c)
  unfolding is_question member questions
  text_match s o =
      let e = draft_row look s refl refl in
      record {
        whole = refl;
        same = ap without_places (text_is t r parent o) ∙ subst (λ q. without_places (row_with code.TEXT parent 0 (column.FIRST ≔ cell column.FIRST q ∷ column.SECOND ≔ cell column.SECOND q ∷ [])) ≡ without_places q) (sym e) refl;
        code_same = refl;
        default = refl;
        question = never;
        rule = never;
        reference = never;
      }

  pub label_match : Settled look (item source parent 2 c) → Over t T (label_under r) → Match t look (item N parent 2 T) (item source parent 2 c)
  unfolding is_question member questions
  label_match s o =
      let e = draft_row look s refl refl in
      record {
        whole = refl;
        same = ap without_places (label_is t r parent o) ∙ subst (λ q. without_places (row_with code.LABEL parent 0 (column.OWN ≔ cell column.OWN q ∷ [])) ≡ without_places q) (sym e) refl;
        code_same = refl;
        default = refl;
        question = never;
        rule = never;
        reference = never;
      }

  pub suppress_match : Settled look (item source parent 7 c) → Match t look (item N parent 7 T) (item source parent 7 c)
  unfolding is_question member questions
  suppress_match s =
      record { whole = refl; same = ap without_places (sym (draft_row look s refl refl)); code_same = refl; default = refl; question = never; rule = never; reference = never }

  pub gray_out_match : Settled look (item source parent 8 c) → Match t look (item N parent 8 T) (item source parent 8 c)
  unfolding is_question member questions
  gray_out_match s =
      record { whole = refl; same = ap without_places (sym (draft_row look s refl refl)); code_same = refl; default = refl; question = never; rule = never; reference = never }

  pub disable_match : Settled look (item source parent 9 c) → Match t look (item N parent 9 T) (item source parent 9 c)
  unfolding is_question member questions
  disable_match s =
      record { whole = refl; same = ap without_places (sym (draft_row look s refl refl)); code_same = refl; default = refl; question = never; rule = never; reference = never }

  -- ---- questions

  pub goto_match : Settled look (item source parent 3 c) → Over t T (goto_under r) → Match t look (item N parent 3 T) (item source parent 3 c)
  unfolding is_question member questions
  goto_match s o =
      let q = goto_is t r parent o in
      let found = set (item source parent 3 c).row column.OWN s.own in
      let e : r ≡ found = numbered_row look s refl in
      let fl = flags_again (classes (child 4 c)) in
      record {
        whole = refl;
        same =
            ap without_places q.row
            ∙ subst (λ x. without_places (asked code.GOTO x (goto_holds x)) ≡ without_places x) (sym e)
            (λ j. without_places (set found column.FLAGS (fl j)));
        code_same = refl;
        default = refl;
        question = λ z. (q.written, ap (cell column.NAME) q.row);
        rule = never;
        reference = never;
      }

  pub one_of_match : (x : Shape) → Settled look (item source parent 6 c) → Over t T (one_of_under r x) → Match t look (item N parent 6 T) (item source parent 6 c)
  unfolding is_question member questions
  one_of_match x s o =
      let q = one_of_is t r x parent o in
      let found = set (item source parent 6 c).row column.OWN s.own in
      let e : r ≡ found = numbered_row look s refl in
      let fl = flags_again (classes (child 3 c)) in
      record {
        whole = refl;
        same =
            ap without_places q.row
            ∙ subst (λ x. without_places (asked code.ONE_OF x (one_of_holds x)) ≡ without_places x) (sym e)
            (λ j. without_places (set found column.FLAGS (fl j)));
        code_same = refl;
        default = refl;
        question = λ z. (q.written, ap (cell column.NAME) q.row);
        rule = never;
        reference = never;
      }

  pub checkbox_match : Settled look (item source parent 4 c) → Over t T (checkbox_under r) → Match t look (item N parent 4 T) (item source parent 4 c)
  unfolding is_question member questions
  checkbox_match s o =
      let d = eqb (chosen 4 c) 1 in
      let v = eqb (chosen 2 (child 4 c)) 0 in
      let ks = classes (child 3 c) in
      let x = flags (child 3 c) + when d flag.HAS_DEFAULT in
      let q = checkbox_is t r parent o in
      let found = set (item source parent 4 c).row column.OWN s.own in
      let e : r ≡ found = numbered_row look s refl in
      let de = default_again ks d in
      let fl : again x + when (flag.is_set flag.HAS_DEFAULT x) flag.HAS_DEFAULT ≡ x = λ i. flags_default_again ks d i + when (de i) flag.HAS_DEFAULT in
      let dv : when (flag.is_set flag.HAS_DEFAULT x) (when (eqb (when d (when v 1)) 1) 1) ≡ when d (when v 1) = ap (λ z. when z (when (eqb (when d (when v 1)) 1) 1)) de ∙ truth_again d v in
      record {
        whole = refl;
        same =
            ap without_places q.row
            ∙ subst (λ y. without_places (asked code.CHECKBOX y (checkbox_holds y)) ≡ without_places y) (sym e)
            (λ j. without_places (set (set found column.FLAGS (fl j)) column.D (dv j)));
        code_same = refl;
        default = refl;
        question = λ z. (q.written, ap (cell column.NAME) q.row);
        rule = never;
        reference = never;
      }

  pub numeric_match : Settled look (item source parent 5 c) → Over t T (numeric_under r) → Match t look (item N parent 5 T) (item source parent 5 c)
  unfolding is_question member questions
  numeric_match s o =
      let d = eqb (chosen 13 c) 1 in
      let v = value source 2 (child 13 c) in
      let ks = classes (child 3 c) in
      let x = flags (child 3 c) + when d flag.HAS_DEFAULT in
      let m = numeric_is t r parent o in
      let q = m.0 in
      let found = set (item source parent 5 c).row column.OWN s.own in
      let e : r ≡ found = numbered_row look s refl in
      let de = default_again ks d in
      let fl : again x + when (flag.is_set flag.HAS_DEFAULT x) flag.HAS_DEFAULT ≡ x = λ i. flags_default_again ks d i + when (de i) flag.HAS_DEFAULT in
      let dv : when (flag.is_set flag.HAS_DEFAULT x) (when d v) ≡ when d v = ap (λ z. when z (when d v)) de ∙ when_again d v in
      let sized : size_and_display (size_among (numeric_list found)) (display_among (numeric_list found)) ≡ size_and_display (size_in (child 3 c)) (display_in (child 3 c)) =
      ap₂ size_and_display (size_again_lem found ks refl) (display_again_lem found ks refl) in
      let default_bit : has_flag flag.HAS_DEFAULT r ≡ d = ap (λ y. flag.is_set flag.HAS_DEFAULT (cell column.FLAGS y)) e ∙ de in
      record {
        whole = refl;
        same =
            ap without_places q.row
            ∙ subst (λ y. without_places (asked code.NUMERIC y (numeric_holds y)) ≡ without_places y) (sym e)
            (λ j. without_places (set (set (set found column.FLAGS (fl j)) column.D (dv j)) column.SIZE (sized j)));
        code_same = refl;
        default = m.1 ∙ default_bit ∙ when_mark d (place_at 0 (child 2 (child 13 c)));
        question = λ z. (q.written, ap (cell column.NAME) q.row);
        rule = never;
        reference = never;
      }

  -- ---- the other statements

  pub option_match : Settled look (option source parent c) → Over t T (option_under r) → Match t look (option N parent T) (option source parent c)
  unfolding is_question member questions
  option_match s o =
      let d = eqb (chosen 11 c) 1 in
      let q = option_is t r parent o in
      let e = draft_row look s refl refl in
      let de = option_again d in
      record {
        whole = refl;
        same =
            ap without_places q.0
            ∙ subst (λ y. without_places (row_with code.OPTION parent 0 (column.FIRST ≔ cell column.FIRST y ∷ column.FLAGS ≔ when (flag.is_set flag.OPTION_DEFAULT (cell column.FLAGS y)) flag.OPTION_DEFAULT ∷ column.A ≔ cell column.A y ∷ [])) ≡ without_places y) (sym e)
            (λ j. without_places (set (option source parent c).row column.FLAGS (when (de j) flag.OPTION_DEFAULT)));
        code_same = refl;
        default = q.1 ∙ ap (λ y. flag.is_set flag.OPTION_DEFAULT (cell column.FLAGS y)) e ∙ de ∙ when_mark d (place_at 0 (child 11 c));
        question = never;
        rule = never;
        reference = never;
      }

  pub form_match : (x : Shape) → Settled look (form source parent c) → Over t T (form_under r x) → Match t look (form N parent T) (form source parent c)
  unfolding is_question member questions
  form_match x s o =
      let e = draft_row look s refl refl in
      record {
        whole = refl;
        same = ap without_places (form_is t r x parent o) ∙ subst (λ y. without_places (row_with code.FORM parent 0 (column.OWN ≔ cell column.OWN y ∷ column.FIRST ≔ cell column.FIRST y ∷ [])) ≡ without_places y) (sym e) refl;
        code_same = refl;
        default = refl;
        question = never;
        rule = never;
        reference = never;
      }

  pub rule_match : (n : ℕ) (x : Formula) → Settled look (rule_draft source parent n c) → Over t T (rule_under r x) → Match t look (rule_draft N parent n T) (rule_draft source parent n c)
  unfolding is_question member questions
  rule_match n x s o =
      let e = draft_row look s refl refl in
      let back : mark (place_at 1 T) - 1 ≡ place_at 1 T = omega arith in
      record {
        whole = refl;
        same = ap without_places (sym e);
        code_same = refl;
        default = refl;
        question = never;
        rule = λ z. (marked (place_at 1 T), ap (λ p. words.word (drop p t)) back ∙ rule_is t r x parent n o ∙ ap (λ y. rule_word (cell column.OWN y)) e);
        reference = never;
      }

  pub form_set_match : (x : Shape) → guid_high source (child 3 c) < 2 ^ 64 → low_of [] (guid_low source (guid_bytes source (child 3 c))) ≡ guid_low source (guid_bytes source (child 3 c)) → Settled look (form_set source c) → Over t T (form_set_under r x) → Match t look (form_set N T) (form_set source c)
  unfolding is_question member questions
  form_set_match x hb lb s o =
      let hi = guid_high source (child 3 c) in
      let lo = guid_low source (guid_bytes source (child 3 c)) in
      let e = draft_row look s refl refl in
      let he = high_again hi hb in
      record {
        whole = refl;
        same =
            ap without_places (form_set_is t r x o)
            ∙ subst (λ y. without_places (row_with code.FORM_SET 0 0 (column.FIRST ≔ cell column.FIRST y ∷ column.SECOND ≔ cell column.SECOND y ∷ column.A ≔ high_of t (cell column.A y) ∷ column.B ≔ low_of t (cell column.B y) ∷ [])) ≡ without_places y) (sym e)
            (λ j. without_places (set (set (form_set source c).row column.A (he j)) column.B (lb j)));
        code_same = refl;
        default = refl;
        question = never;
        rule = never;
        reference = never;
      }
