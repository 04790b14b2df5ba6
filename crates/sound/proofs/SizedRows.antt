-- Every row of an accepted source is as document 02's W-204 has it.
-- Assumes nothing.
use mathlib.Core.Path.{◌≡◌, refl}
use mathlib.Core.List.{List, []}
use mathlib.Core.Bool.{Bool, true, false, cond, ◌&&◌, ◌||◌}
use mathlib.Core.Logic.{◌≢◌}
use Prim.Native.Nat.{ℕ, zero, suc, ◌+◌, ◌/◌, ◌%◌, ◌≤◌, ◌<◌}
use native.Mathlib.Omega.{arith}
use lib.Dec.{eqb, leb, ltb}
use lib.ListN.{length, get_or, set}
use lib.Seq.{get_or-set_other}
use borrow.Author.Tests.{eqb-true, eqb-false, leb-true, lt-ltb}
use Rattle.lexemes.proofs.Lists.{either}
use Rattle.rows.specs.Codes as code
use Rattle.rows.specs.Codes.{questions, is_question}
use Rattle.rows.specs.Columns as column
use Rattle.rows.specs.Flags.{HAS_DEFAULT, is_set}
use Rattle.rows.specs.Sizes.{NO_SIZE, UINT_DEC}
use Rattle.rows.proofs.SizeLaws.{size_of_lem, display_of_lem}
use Rattle.ll1.specs.Trees.{Trees}
use Rattle.ll1.specs.ParseTable.{member}
use Rattle.ll1.proofs.Basics.{clash, append_empty, all_member}
use Rattle.sizes.specs.Sizes as sizes
use Rattle.sizes.proofs.Signed.{half_some, modulus_some, two_halves}
use Rattle.grammar.specs.Rules.{<source>, <form>, <rule>, <item>, <option>}
use Rattle.grammar.specs.Source.{number_at}
use Rattle.grammar.specs.Parts.{when, mark, child, written, place_at}
use Rattle.grammar.specs.Positions.{item_numeric, numeric_flags, numeric_step, numeric_default, step_value, default_value}
use Rattle.grammar.specs.Positions.{condition_expression, rule_expression}
use Rattle.grammar.specs.Flags.{size_words, display_words, classes, flags, size_in, display_in}
use Rattle.grammar.proofs.FlagTotals.{flags_le, first_tested}
use Rattle.answers.specs.Expression.{Expression, number, constant, question_named, question_numbered, rule_named, negation, binary}
use Rattle.answers.specs.Expression.{constant_code, operator_code, expression}
use Rattle.answers.specs.Rows.{Draft, ABSENT_STEP, value, item, operand, expression_rows, condition, otherwise, own_rows}
use Rattle.answers.specs.Stages as Stages
use Rattle.answers.specs.Stages.{cell, is, refers, fault_if, outside, numeric_faults, bad_choices, finished}
use Rattle.answers.specs.Answer.{LONGEST, drafts}
use Rattle.answers.specs.Demand3.{Sound}
use Rattle.answers.proofs.Faults.{no_fault_lem}
use Rattle.sound.specs.SizedRows.{sizes_named, size, display, below, SizedRow, ColumnTwelve}
use Rattle.sound.proofs.Lists.{All, none, more, all_append, all_get_or, all_map, apart}
use Rattle.sound.proofs.Places.{source_bounded}
use Rattle.sound.proofs.Kept.{kept, Node, sized}
use Rattle.sound.proofs.SoundRow.{is_bare}
use Rattle.sound.proofs.Expressions.{operator_bare, constant_bare}
use Rattle.sound.proofs.AllRows.{all_drafts, all_clean, settling_keeps}

-- ---- other rows

-- a row of another code, with 0 in column 12
plain : (r : List ℕ) → eqb (get_or r column.CODE 0) code.NUMERIC ≡ false → get_or r column.SIZE 0 ≡ 0 → ColumnTwelve r
plain r n z = record { numeric = λ e. absurd (eqb-false (get_or r column.CODE 0) code.NUMERIC n e); other = λ m. z }

-- ---- a numeric's row

-- one of the four sizes is as many bytes
width_named : (n : ℕ) → member n sizes_named ≡ true → sizes.width n ≡ n
unfolding sizes.width
width_named n h = eqb-true (sizes.width n) n (all_member (λ n. eqb (sizes.width n) n) sizes_named n refl h)

-- so that stage 12 compares in the row's own order
below_row : (d : Draft) (x y : ℕ) → member (size d.row) sizes_named ≡ true → Stages.below d x y ≡ below d.row x y
unfolding Stages.below
below_row d x y h = rw (width_named (size d.row) h)

-- the flag of a default is set only where one is written
default_written : (t : Bool) (n : ℕ) → n < HAS_DEFAULT → is_set HAS_DEFAULT (n + when t HAS_DEFAULT) ≡ true → t ≡ true
default_written true n l h = refl
default_written false n l h = absurd (omega (arith, eqb-true ((n + 0) / HAS_DEFAULT % 2) 1 h))

-- what stands only where it is written
pub when_below : (t : Bool) (n m : ℕ) → 0 < m → (t ≡ true → n < m) → when t n < m
when_below true n m z h = h refl
when_below false n m z h = z

-- 1 fits every size, and so does an absent step
pub one_below : (w : ℕ) → 1 ≤ w → 1 < sizes.modulus w
one_below w some = omega (arith, two_halves w some, half_some w)

pub step_below : (t : Bool) (n m : ℕ) → 1 < m → (t ≡ true → n < m) → cond t n ABSENT_STEP < m
step_below true n m z h = h refl
step_below false n m z h = z

pub named_some : (f : Trees) → 1 ≤ size_in f
named_some f = leb-true 1 (size_in f) (first_tested (λ n. leb 1 n) size_words NO_SIZE (classes f) refl refl)

-- what is found of a default that is written
written_test : (t o : Bool) (p : ℕ) → ltb 0 (when t (mark p)) && o ≡ false → t ≡ true → o ≡ false
written_test true o p h e = rw (lt-ltb 0 (mark p) (omega arith)) at h
written_test false o p h e = clash cc

neither : (a b : Bool) → a || b ≡ false → (a ≡ false) × (b ≡ false)
neither true b h = clash cc
neither false b h = (refl, h)

module _ (s : List ℕ) where
  abbrev number_at_lem : ℕ → ℕ
  number_at_lem = number_at s

  numeric_row :
      (parent : ℕ) (c : Trees)
      → Node s <item> item_numeric c → numeric_faults (item number_at_lem parent item_numeric c) ≡ [] → SizedRow (item number_at_lem parent item_numeric c).row
  numeric_row parent c t clean =
      let d = item number_at_lem parent item_numeric c in
      let r = d.row in
      let f = child numeric_flags c in
      let default = written numeric_default c in
      let shown : display_in f ≤ 2 = leb-true (display_in f) 2 (first_tested (λ n. leb n 2) display_words UINT_DEC (classes f) refl refl) in
      let is_size : size r ≡ size_in f = size_of_lem (size_in f) (display_in f) (omega arith) in
      let is_display : display r ≡ display_in f = display_of_lem (size_in f) (display_in f) (omega arith) in
      let named : member (size r) sizes_named ≡ true = rw is_size (first_tested (λ n. member n sizes_named) size_words NO_SIZE (classes f) refl refl) in
      let fit = sized s t in
      let some = modulus_some (size_in f) in
      let faults = append_empty (fault_if (Stages.below d (cell column.B d) (cell column.A d)) d.limit_at) _ clean in
      let default_at_lem = place_at 0 (child default_value (child numeric_default c)) in
      let below_minimum = Stages.below d (cell column.D d) (cell column.A d) in
      let above_maximum = Stages.below d (cell column.B d) (cell column.D d) in
      let inside : is_set HAS_DEFAULT (cell column.FLAGS d) ≡ true → (below_minimum ≡ false) × (above_maximum ≡ false) = λ e.
      let is_written = default_written default (flags f) (omega (arith, flags_le f)) e in
      neither below_minimum above_maximum (written_test default (outside d) default_at_lem (no_fault_lem _ _ faults.1) is_written) in
      record {
        one_of_sizes = named;
        one_of_displays = rw is_display shown;
        minimum = rw is_size fit.minimum;
        maximum = rw is_size fit.maximum;
        step = rw is_size (step_below (written numeric_step c) (value number_at_lem step_value (child numeric_step c)) _ (one_below _ (named_some f)) fit.step);
        default = rw is_size (when_below default (value number_at_lem default_value (child numeric_default c)) _ some fit.default);
        ordered = rw (← below_row d (cell column.B d) (cell column.A d) named) (no_fault_lem _ _ faults.0);
        from_minimum = λ e. rw (← below_row d (cell column.D d) (cell column.A d) named) (inside e).0;
        to_maximum = λ e. rw (← below_row d (cell column.B d) (cell column.D d) named) (inside e).1;
      }

-- ---- the rows of a derivation

-- where stage 12 finds no fault in it, the draft's row is as W-204 has it
abbrev Passed : Draft → Type 0
Passed d = (is code.NUMERIC d ≡ true → numeric_faults d ≡ []) → ColumnTwelve d.row

module _ (value : ℕ → ℕ) (parent : ℕ) where
  -- part of an expression
  operand_passed : (k a p at : ℕ) → eqb k code.NUMERIC ≡ false → Passed (operand value parent k a p at)
  operand_passed k a p at h clean = plain (operand value parent k a p at).row h refl

  expression_passed : (e : Expression) → All Passed (expression_rows value parent e)
  unfolding is_question questions code.member
  expression_passed (number p) = more (operand_passed code.NUMBER (value p) p 0 refl) none
  expression_passed (constant c p) =
      more (operand_passed (constant_code c) 0 p 0 (apart is_bare (constant_code c) code.NUMERIC (constant_bare c) refl)) none
  expression_passed (question_named p q) = more (operand_passed code.QUESTION_REF 0 p (mark q) refl) none
  expression_passed (question_numbered p q) = more (operand_passed code.QUESTION_REF (value q) p (mark q) refl) none
  expression_passed (rule_named p q) = more (operand_passed code.RULE_REF 0 p (mark q) refl) none
  expression_passed (negation p e) = all_append (expression_passed e) (more (operand_passed code.NOT 0 p 0 refl) none)
  expression_passed (binary o p l r) =
      all_append (expression_passed l)
      (all_append (expression_passed r)
      (more (operand_passed (operator_code o) 0 p 0 (apart is_bare (operator_code o) code.NUMERIC (operator_bare o) refl)) none))

module _ (s : List ℕ) where
  item_passed : (parent i : ℕ) (c : Trees) → Node s <item> i c → Passed (item (number_at s) parent i c)
  item_passed parent zero c t clean = plain _ refl refl
  item_passed parent (suc zero) c t clean = plain _ refl refl
  item_passed parent (suc (suc zero)) c t clean = plain _ refl refl
  item_passed parent (suc (suc (suc zero))) c t clean = plain _ refl refl
  item_passed parent (suc (suc (suc (suc zero)))) c t clean = plain _ refl refl
  item_passed parent (suc (suc (suc (suc (suc zero))))) c t clean =
      record { numeric = λ e. numeric_row s parent c t (clean refl); other = λ n. absurd (n refl) }
  item_passed parent (suc (suc (suc (suc (suc (suc zero)))))) c t clean = plain _ refl refl
  item_passed parent (suc (suc (suc (suc (suc (suc (suc zero))))))) c t clean = plain _ refl refl
  item_passed parent (suc (suc (suc (suc (suc (suc (suc (suc zero)))))))) c t clean = plain _ refl refl
  item_passed parent (suc (suc (suc (suc (suc (suc (suc (suc (suc zero))))))))) c t clean = plain _ refl refl
  item_passed parent (suc (suc (suc (suc (suc (suc (suc (suc (suc (suc i)))))))))) c t clean = plain [] refl refl

  condition_passed : (at i : ℕ) (c : Trees) → All Passed (condition (number_at s) at i c)
  condition_passed at i c =
      either (ltb 6 i)
      (λ e. rw (e, condition) (expression_passed (number_at s) at (expression (child condition_expression c))))
      (λ e. rw (e, condition) none)

  own_passed : (A i : ℕ) (c : Trees) → Node s A i c → (parent at n : ℕ) → All Passed (own_rows (number_at s) parent at n A i c)
  own_passed A i c t parent at n =
      either (eqb A <item>)
      (λ e. rw (e, otherwise) (more (item_passed parent i c (rw (eqb-true A <item> e) at t)) (condition_passed at i c)))
      (λ e. rw (e, otherwise)
      (either (eqb A <option>) (λ e. rw (e, otherwise) (more (λ clean. plain _ refl refl) none))
      (λ e. rw (e, otherwise)
      (either (eqb A <rule>)
      (λ e. rw (e, otherwise) (more (λ clean. plain _ refl refl) (expression_passed (number_at s) at (expression (child rule_expression c)))))
      (λ e. rw (e, otherwise)
      (either (eqb A <form>) (λ e. rw (e, otherwise) (more (λ clean. plain _ refl refl) none))
      (λ e. rw (e, otherwise)
      (either (eqb A <source>) (λ e. rw (e, otherwise) (more (λ clean. plain _ refl refl) none))
      (λ e. rw (e, otherwise) none)))))))))

-- ---- finished rows

-- a row and another that differs from it in its own number alone, or, where it is no numeric's, in column A
column_twelve_kept :
    (q r : List ℕ)
    → ((c : ℕ) → c ≢ column.OWN → c ≢ column.A → get_or q c 0 ≡ get_or r c 0)
    → (get_or r column.CODE 0 ≡ code.NUMERIC → get_or q column.A 0 ≡ get_or r column.A 0)
    → ColumnTwelve r → ColumnTwelve q
column_twelve_kept q r same a z =
    let same_code = same column.CODE (λ e. omega arith) (λ e. omega arith) in
    let same_size = same column.SIZE (λ e. omega arith) (λ e. omega arith) in
    let same_flags = same column.FLAGS (λ e. omega arith) (λ e. omega arith) in
    let same_b = same column.B (λ e. omega arith) (λ e. omega arith) in
    let same_c = same column.C (λ e. omega arith) (λ e. omega arith) in
    let same_d = same column.D (λ e. omega arith) (λ e. omega arith) in
    record {
      numeric = λ e.
          let n : get_or r column.CODE 0 ≡ code.NUMERIC = rw same_code at e in
          let w = z.numeric n in
          record {
            one_of_sizes = rw same_size w.one_of_sizes;
            one_of_displays = rw same_size w.one_of_displays;
            minimum = rw (same_size, a n) w.minimum;
            maximum = rw (same_size, same_b) w.maximum;
            step = rw (same_size, same_c) w.step;
            default = rw (same_size, same_d) w.default;
            ordered = rw (same_size, same_b, a n) w.ordered;
            from_minimum = rw (same_size, same_flags, same_d, a n) w.from_minimum;
            to_maximum = rw (same_size, same_flags, same_d, same_b) w.to_maximum;
          };
      other = λ n. rw same_size (z.other (rw same_code at n));
    }

module _ (s : List ℕ) where
  own_kept : (d : Draft) (v : ℕ) → ColumnTwelve d.row → ColumnTwelve (set d.row column.OWN v)
  own_kept d v =
      column_twelve_kept (set d.row column.OWN v) d.row (λ c o a. get_or-set_other d.row column.OWN c v 0 o)
      (λ e. get_or-set_other d.row column.OWN column.A v 0 (λ e. omega arith))

  -- a numeric refers to nothing
  found_kept : (d : Draft) (v : ℕ) → refers s d ≡ true → ColumnTwelve d.row → ColumnTwelve (set d.row column.A v)
  found_kept d v h =
      column_twelve_kept (set d.row column.A v) d.row (λ c o a. get_or-set_other d.row column.A c v 0 a) (λ e. clash (cc (rw e at h)))

  module _ (tree : Trees) (sound : Sound s tree) (short : length s ≤ LONGEST) where
    -- every row of an accepted source: column 12 of a numeric's holds a size and a display that its numbers keep to, and of any other 0
    pub sized_rows : All ColumnTwelve (finished s (drafts s tree))
    unfolding finished drafts bad_choices
    sized_rows =
        let trees = kept s sound.derives.fits (source_bounded s tree short sound.derives.reads) sound.ranges in
        let passed = all_drafts s (own_passed s) trees 0 0 0 in
        let rows : All (λ d. ColumnTwelve d.row) (drafts s tree) =
        all_clean _ (λ before d clean z. z (λ e. rw e at clean)) [] passed sound.choices in
        all_map (λ d. d.row) (settling_keeps s found_kept own_kept rows)

    -- row i
    pub sized_row : (i : ℕ) → ColumnTwelve (get_or (finished s (drafts s tree)) i [])
    sized_row i = all_get_or i sized_rows (plain [] refl refl)
