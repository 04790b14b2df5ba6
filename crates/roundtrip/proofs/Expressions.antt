-- The rows of an expression in the text match those in the source, and it prints again as it was printed.
-- Assumes nothing.
use mathlib.Core.Path.{◌≡◌, refl, ap, ap₂, sym, ◌∙◌, subst}
use mathlib.Core.List.{List, [], ◌∷◌, ◌++◌}
use mathlib.Core.Bool.{Bool, true, false, ◌||◌}
use Prim.Native.Nat.{ℕ, suc, ◌-◌}
use native.Mathlib.Omega.{arith}
use lib.Dec.{eqb}
use lib.ListN.{get_or, drop}
use Rattle.std.specs.Prelude.{Some}
use Rattle.values.specs.Numbers.{value_at}
use Rattle.lexemes.specs.Words as words
use Rattle.rows.specs.Codes as code
use Rattle.rows.specs.Codes.{member, questions, is_question}
use Rattle.rows.specs.Columns as column
use Rattle.rows.specs.Cells.{◌≔◌, without_places}
use Rattle.ll1.proofs.Basics.{clash}
use Rattle.grammar.specs.Source.{number_at}
use Rattle.answers.specs.Expression.{Operator, or, and, bit_or, bit_and, equal, not_equal, less, less_equal, greater, greater_equal, shift_left, shift_right, add, subtract, multiply, divide, modulo, operator_code}
use Rattle.answers.specs.Expression.{Constant, true', false', zero', one', ones', undefined', constant_code}
use Rattle.answers.specs.Expression.{Expression, number, constant, question_named, question_numbered, rule_named, negation, binary}
use Rattle.answers.specs.Rows.{Draft, row_with, operand, expression_rows}
use Rattle.grammar.specs.Parts.{mark}
use Rattle.answers.specs.Text.{operand_number}
use Rattle.sound.proofs.Lists.{All, none, more}
use Rattle.printing.proofs.Numbers.{after_r}
use Rattle.formulas.specs.Shapes.{rule_word}
use Rattle.formulas.specs.Formula.{Formula, f_number, f_question, f_rule, f_not, f_binary, formula}
use Rattle.formulas.specs.Tree.{Rel, rel_number, rel_constant, rel_question, rel_rule, rel_not, rel_binary}
use Rattle.roundtrip.proofs.PhraseRows.{value_of}
use Rattle.again.specs.Matches.{Settled, final, Match, Pairs, no_pairs, pair}
use Rattle.roundtrip.proofs.Canon.{Found, pairs_append}

pub all_parts_lem : {P : Draft → Type 0} (ds es : List Draft) → All P (ds ++ es) → All P ds × All P es
all_parts_lem [] es h = (none, h)
all_parts_lem (d ∷ ds) es (more h k) = let q = all_parts_lem ds es k in (more h q.0, q.1)

-- ---- codes that neither ask, refer nor declare

pub record Dull (k : ℕ) : Type 0 where
  pub asks_not : is_question k ≡ false
  pub no_rule : eqb k code.RULE ≡ false
  pub no_question_ref : eqb k code.QUESTION_REF ≡ false
  pub no_rule_ref : eqb k code.RULE_REF ≡ false

pub operator_dull : (o : Operator) → Dull (operator_code o)
unfolding is_question member questions
operator_dull or = record { asks_not = refl; no_rule = refl; no_question_ref = refl; no_rule_ref = refl }
operator_dull and = record { asks_not = refl; no_rule = refl; no_question_ref = refl; no_rule_ref = refl }
operator_dull bit_or = record { asks_not = refl; no_rule = refl; no_question_ref = refl; no_rule_ref = refl }
operator_dull bit_and = record { asks_not = refl; no_rule = refl; no_question_ref = refl; no_rule_ref = refl }
operator_dull equal = record { asks_not = refl; no_rule = refl; no_question_ref = refl; no_rule_ref = refl }
operator_dull not_equal = record { asks_not = refl; no_rule = refl; no_question_ref = refl; no_rule_ref = refl }
operator_dull less = record { asks_not = refl; no_rule = refl; no_question_ref = refl; no_rule_ref = refl }
operator_dull less_equal = record { asks_not = refl; no_rule = refl; no_question_ref = refl; no_rule_ref = refl }
operator_dull greater = record { asks_not = refl; no_rule = refl; no_question_ref = refl; no_rule_ref = refl }
operator_dull greater_equal = record { asks_not = refl; no_rule = refl; no_question_ref = refl; no_rule_ref = refl }
operator_dull shift_left = record { asks_not = refl; no_rule = refl; no_question_ref = refl; no_rule_ref = refl }
operator_dull shift_right = record { asks_not = refl; no_rule = refl; no_question_ref = refl; no_rule_ref = refl }
operator_dull add = record { asks_not = refl; no_rule = refl; no_question_ref = refl; no_rule_ref = refl }
operator_dull subtract = record { asks_not = refl; no_rule = refl; no_question_ref = refl; no_rule_ref = refl }
operator_dull multiply = record { asks_not = refl; no_rule = refl; no_question_ref = refl; no_rule_ref = refl }
operator_dull divide = record { asks_not = refl; no_rule = refl; no_question_ref = refl; no_rule_ref = refl }
operator_dull modulo = record { asks_not = refl; no_rule = refl; no_question_ref = refl; no_rule_ref = refl }

pub constant_dull : (c : Constant) → Dull (constant_code c)
unfolding is_question member questions
constant_dull true' = record { asks_not = refl; no_rule = refl; no_question_ref = refl; no_rule_ref = refl }
constant_dull false' = record { asks_not = refl; no_rule = refl; no_question_ref = refl; no_rule_ref = refl }
constant_dull zero' = record { asks_not = refl; no_rule = refl; no_question_ref = refl; no_rule_ref = refl }
constant_dull one' = record { asks_not = refl; no_rule = refl; no_question_ref = refl; no_rule_ref = refl }
constant_dull ones' = record { asks_not = refl; no_rule = refl; no_question_ref = refl; no_rule_ref = refl }
constant_dull undefined' = record { asks_not = refl; no_rule = refl; no_question_ref = refl; no_rule_ref = refl }

dull_not : (k : ℕ) → k ≡ code.NOT → Dull k
unfolding is_question member questions
dull_not k e = rw e (record { asks_not = refl; no_rule = refl; no_question_ref = refl; no_rule_ref = refl })

dull_number : (k : ℕ) → k ≡ code.NUMBER → Dull k
unfolding is_question member questions
dull_number k e = rw e (record { asks_not = refl; no_rule = refl; no_question_ref = refl; no_rule_ref = refl })

-- the digits after the R of a rule's name
rule_value : (t : List ℕ) (q : ℕ) {n : ℕ} → value_at t q ≡ Some n → words.word (drop q t) ≡ rule_word n → number_at t (suc q) ≡ n
rule_value t q {n} h w = value_of t (suc q) (after_r t q n w ∙ h)

false_true : {P : Type 0} (b : Bool) → b ≡ false → b ≡ true → P
false_true b e h = clash cc

module _ (t : List ℕ) (look : ℕ → List ℕ) (source : ℕ → ℕ) (at : ℕ) where
  abbrev N : ℕ → ℕ
  N = number_at t

  -- a row that names nothing
  dull_match : (k a' a p' p : ℕ) → Dull k → Settled look (operand source at k a p 0) → a' ≡ operand_number look p → Match t look (operand N at k a' p' 0) (operand source at k a p 0)
  dull_match k a' a p' p d s h =
      let e : look p ≡ row_with k at p (column.A ≔ s.a ∷ []) = s.is_row ∙ (λ j. row_with k at p (column.OWN ≔ s.own_same d.asks_not j ∷ column.A ≔ s.a ∷ [])) in
      let n : final t (operand N at k a' p' 0) ≡ row_with k at p' (column.A ≔ a' ∷ []) = rw d.no_rule_ref in
      record {
        whole = refl;
        same = ap without_places n ∙ (λ j. without_places (row_with k at 0 (column.A ≔ h j ∷ []))) ∙ subst (λ r. without_places (row_with k at 0 (column.A ≔ get_or r column.A 0 ∷ [])) ≡ without_places r) (sym e) refl;
        code_same = refl;
        default = refl;
        question = false_true (is_question k) d.asks_not;
        rule = false_true (eqb k code.RULE) d.no_rule;
        reference = false_true (eqb k code.RULE_REF) d.no_rule_ref;
      }

  -- one that holds 0
  zero_held : (k p : ℕ) → Dull k → Settled look (operand source at k 0 p 0) → 0 ≡ operand_number look p
  zero_held k p d s =
      let z : eqb k code.QUESTION_REF || eqb k code.RULE_REF ≡ false = rw (d.no_question_ref, d.no_rule_ref) in
      sym (ap (λ r. get_or r column.A 0) s.is_row ∙ s.a_same z)

  question_match : (a p q' p' q : ℕ) → Settled look (operand source at code.QUESTION_REF a p (mark q)) → N q' ≡ operand_number look p → Match t look (operand N at code.QUESTION_REF (N q') p' (mark q')) (operand source at code.QUESTION_REF a p (mark q))
  unfolding is_question member questions
  question_match a p q' p' q s h =
      let e : look p ≡ row_with code.QUESTION_REF at p (column.A ≔ s.a ∷ []) = s.is_row ∙ (λ j. row_with code.QUESTION_REF at p (column.OWN ≔ s.own_same refl j ∷ column.A ≔ s.a ∷ [])) in
      record {
        whole = refl;
        same = (λ j. without_places (row_with code.QUESTION_REF at 0 (column.A ≔ h j ∷ []))) ∙ subst (λ r. without_places (row_with code.QUESTION_REF at 0 (column.A ≔ get_or r column.A 0 ∷ [])) ≡ without_places r) (sym e) refl;
        code_same = refl;
        default = refl;
        question = false_true false refl;
        rule = false_true false refl;
        reference = false_true false refl;
      }

  back : (q : ℕ) → mark q - 1 ≡ q
  back q = omega arith

  rule_ref_match : (p q' p' q : ℕ) → Settled look (operand source at code.RULE_REF 0 p (mark q)) → N (suc q') ≡ operand_number look p → words.word (drop q' t) ≡ rule_word (N (suc q')) → Match t look (operand N at code.RULE_REF 0 p' (mark q')) (operand source at code.RULE_REF 0 p (mark q))
  unfolding is_question member questions
  rule_ref_match p q' p' q s h w =
      let e : look p ≡ row_with code.RULE_REF at p (column.A ≔ s.a ∷ []) = s.is_row ∙ (λ j. row_with code.RULE_REF at p (column.OWN ≔ s.own_same refl j ∷ column.A ≔ s.a ∷ [])) in
      record {
        whole = refl;
        same = (λ j. without_places (row_with code.RULE_REF at 0 (column.A ≔ N (suc (back q' j)) ∷ []))) ∙ (λ j. without_places (row_with code.RULE_REF at 0 (column.A ≔ h j ∷ []))) ∙ subst (λ r. without_places (row_with code.RULE_REF at 0 (column.A ≔ get_or r column.A 0 ∷ [])) ≡ without_places r) (sym e) refl;
        code_same = refl;
        default = refl;
        question = false_true false refl;
        rule = false_true false refl;
        reference = λ z. ap (λ x. words.word (drop x t)) (back q') ∙ w ∙ ap (λ x. rule_word (N (suc x))) (sym (back q'));
      }

  -- ---- every expression

  first_of_lem : {d : Draft} {ds : List Draft} → All (Settled look) (d ∷ ds) → Settled look d
  first_of_lem (more h k) = h

  pub rows_match : (e' e : Expression) → Rel t e' (formula look e) → All (Settled look) (expression_rows source at e) → Pairs (Match t look) (expression_rows N at e') (expression_rows source at e)
  rows_match (number p') (number p) (rel_number h) s = pair (dull_match code.NUMBER (N p') (source p) p' p (dull_number code.NUMBER refl) (first_of_lem s) (value_of t p' h)) no_pairs
  rows_match (constant c' p') (constant c p) rel_constant s = pair (dull_match (constant_code c) 0 0 p' p (constant_dull c) (first_of_lem s) (zero_held (constant_code c) p (constant_dull c) (first_of_lem s))) no_pairs
  rows_match (question_numbered p' q') (question_named p q) (rel_question h) s = pair (question_match 0 p q' p' q (first_of_lem s) (value_of t q' h)) no_pairs
  rows_match (question_numbered p' q') (question_numbered p q) (rel_question h) s = pair (question_match (source q) p q' p' q (first_of_lem s) (value_of t q' h)) no_pairs
  rows_match (rule_named p' q') (rule_named p q) (rel_rule h w) s = let v = rule_value t q' h w in pair (rule_ref_match p q' p' q (first_of_lem s) v (w ∙ ap rule_word (sym v))) no_pairs
  rows_match (negation p' x') (negation p x) (rel_not h) s =
      let u = all_parts_lem (expression_rows source at x) _ s in
      let d = dull_not code.NOT refl in
      pairs_append (rows_match x' x h u.0) (pair (dull_match code.NOT 0 0 p' p d (first_of_lem u.1) (zero_held code.NOT p d (first_of_lem u.1))) no_pairs)
  rows_match (binary o' p' l' r') (binary o p l r) (rel_binary h k) s =
      let u = all_parts_lem (expression_rows source at l) _ s in
      let v = all_parts_lem (expression_rows source at r) _ u.1 in
      let d = operator_dull o in
      pairs_append (rows_match l' l h u.0) (pairs_append (rows_match r' r k v.0) (pair (dull_match (operator_code o) 0 0 p' p d (first_of_lem v.1) (zero_held (operator_code o) p d (first_of_lem v.1))) no_pairs))
  rows_match (number p') (constant c p) x4 s = elim x4 [ ]
  rows_match (number p') (question_named p q) x5 s = elim x5 [ ]
  rows_match (number p') (question_numbered p q) x6 s = elim x6 [ ]
  rows_match (number p') (rule_named p q) x7 s = elim x7 [ ]
  rows_match (number p') (negation p x) x9 s = elim x9 [ ]
  rows_match (number p') (binary o p l r) x9 s = elim x9 [ ]
  rows_match (constant c' p') (number p) x4 s = elim x4 [ ]
  rows_match (constant c' p') (question_named p q) x5 s = elim x5 [ ]
  rows_match (constant c' p') (question_numbered p q) x6 s = elim x6 [ ]
  rows_match (constant c' p') (rule_named p q) x7 s = elim x7 [ ]
  rows_match (constant c' p') (negation p x) x9 s = elim x9 [ ]
  rows_match (constant c' p') (binary o p l r) x9 s = elim x9 [ ]
  rows_match (question_named _ _) e x6 s = elim x6 [ ]
  rows_match (question_numbered p' q') (number p) x6 s = elim x6 [ ]
  rows_match (question_numbered p' q') (constant c p) x7 s = elim x7 [ ]
  rows_match (question_numbered p' q') (rule_named p q) x8 s = elim x8 [ ]
  rows_match (question_numbered p' q') (negation p x) x10 s = elim x10 [ ]
  rows_match (question_numbered p' q') (binary o p l r) x10 s = elim x10 [ ]
  rows_match (rule_named p' q') (number p) x7 s = elim x7 [ ]
  rows_match (rule_named p' q') (constant c p) x8 s = elim x8 [ ]
  rows_match (rule_named p' q') (question_named p q) x9 s = elim x9 [ ]
  rows_match (rule_named p' q') (question_numbered p q) x10 s = elim x10 [ ]
  rows_match (rule_named p' q') (negation p x) x12 s = elim x12 [ ]
  rows_match (rule_named p' q') (binary o p l r) x12 s = elim x12 [ ]
  rows_match (negation p' x') (number p) x9 s = elim x9 [ ]
  rows_match (negation p' x') (constant c p) x10 s = elim x10 [ ]
  rows_match (negation p' x') (question_named p q) x11 s = elim x11 [ ]
  rows_match (negation p' x') (question_numbered p q) x12 s = elim x12 [ ]
  rows_match (negation p' x') (rule_named p q) x13 s = elim x13 [ ]
  rows_match (negation p' x') (binary o p l r) x14 s = elim x14 [ ]
  rows_match (binary o' p' l' r') (number p) x9 s = elim x9 [ ]
  rows_match (binary o' p' l' r') (constant c p) x10 s = elim x10 [ ]
  rows_match (binary o' p' l' r') (question_named p q) x11 s = elim x11 [ ]
  rows_match (binary o' p' l' r') (question_numbered p q) x12 s = elim x12 [ ]
  rows_match (binary o' p' l' r') (rule_named p q) x13 s = elim x13 [ ]
  rows_match (binary o' p' l' r') (negation p x) x15 s = elim x15 [ ]

-- ---- printed again

module _ (t : List ℕ) (look : ℕ → List ℕ) (at : ℕ) where
  found_of_lem : {d : Draft} {ds : List Draft} → All (Found t look) (d ∷ ds) → Found t look d
  found_of_lem (more h k) = h

  pub formula_again : {e : Expression} {x : Formula} → Rel t e x → All (Found t look) (expression_rows (number_at t) at e) → formula look e ≡ x
  formula_again (rel_number {p = p} h) f = ap f_number (ap (λ r. get_or r column.A 0) (found_of_lem f) ∙ value_of t p h)
  formula_again rel_constant f = refl
  formula_again (rel_question {q = q} h) f = ap f_question (ap (λ r. get_or r column.A 0) (found_of_lem f) ∙ value_of t q h)
  formula_again (rel_rule {q = q} h w) f = let back : mark q - 1 ≡ q = omega arith in ap f_rule (ap (λ r. get_or r column.A 0) (found_of_lem f) ∙ ap (λ x. number_at t (suc x)) back ∙ rule_value t q h w)
  formula_again (rel_not {e = e} h) f = ap f_not (formula_again h (all_parts_lem (expression_rows (number_at t) at e) _ f).0)
  formula_again (rel_binary {o = o} {l = l} {r = r} h k) f =
      let u = all_parts_lem (expression_rows (number_at t) at l) _ f in
      let v = all_parts_lem (expression_rows (number_at t) at r) _ u.1 in
      ap₂ (f_binary o) (formula_again h u.0) (formula_again k v.0)
