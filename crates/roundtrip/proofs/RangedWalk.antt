-- The shape of a derivation's resolved text is ranged: one walk over the derivation.
-- Assumes nothing.
use mathlib.Core.Path.{◌≡◌, refl, ap, sym, ◌∙◌, subst}
use mathlib.Core.List.{List, [], ◌∷◌, ◌++◌}
use mathlib.Core.Option.{some}
use mathlib.Core.Bool.{true}
use Prim.Native.Nat.{ℕ, zero, suc, ◌+◌, ◌^◌, ◌<◌}
use native.Mathlib.Omega.{arith}
use lib.Dec.{eqb, ltb}
use lib.ListN.{length, get_or, drop}
use borrow.Author.Tests.{eqb-true, ltb-true}
use Rattle.lexemes.specs.Classes as class
use Rattle.values.specs.Numbers.{numeral, value_at, fitted}
use Rattle.lexemes.specs.Words.{word}
use Rattle.lexemes.proofs.Lists.{either}
use Rattle.rows.specs.Codes as code
use Rattle.rows.specs.Codes.{member, questions, is_question}
use Rattle.rows.specs.Columns as column
use Rattle.sizes.specs.Sizes.{modulus}
use Rattle.sizes.proofs.Signed.{modulus_some}
use Rattle.ll1.specs.Trees.{token, Trees, nil, leaf, node, Symbol, terminal, nonterminal, Alternative, alternative_of, Fits, fits_nil, fits_leaf, fits_node}
use Rattle.ll1.proofs.Basics.{clash}
use Rattle.grammar.specs.Rules.{<source>, <form>*, <form>, <item_or_rule>*, <rule>, <item>, <option>*, <item>*, <option>, <head>}
use Rattle.grammar.specs.Grammar.{rules}
use Rattle.grammar.specs.Ranges.{ranges, range_of}
use Rattle.grammar.specs.Source.{held_value, number_at}
use Rattle.grammar.specs.Parts.{child, chosen, place_at}
use Rattle.grammar.specs.Flags.{classes, size_in}
use Rattle.answers.specs.Expression.{Expression, number, constant, question_named, question_numbered, rule_named, negation, binary, expression}
use Rattle.answers.specs.Rows.{Draft, rules_in, drafts_of, expression_rows, item, rule_draft}
use Rattle.answers.specs.Stages.{cell, is, asks}
use Rattle.answers.specs.Text.{numeric_list}
use Rattle.sound.proofs.Lists.{All, none, more}
use Rattle.sound.proofs.SizedRows.{when_below, one_below, step_below, named_some}
use Rattle.sound.proofs.Kept.{Kept, kept_nil, kept_leaf, kept_node, Node, part, id_range, small_range, string_range, sized}
use Rattle.formulas.specs.Expressions.{rule_at}
use Rattle.formulas.specs.Formula.{formula}
use Rattle.roundtrip.proofs.Expressions.{all_parts_lem}
use Rattle.grammar.proofs.Statements.{states}
use Rattle.roundtrip.proofs.Core.{core, within, Told, told}
use Rattle.roundtrip.proofs.Rebuilt.{anew, by_parts_lem}
use Rattle.roundtrip.proofs.Stating.{form_set_symbols, form_symbols, rule_symbols, one_of_symbols, condition_symbols, Stating, is_form_set, is_no_forms, is_more_forms, is_form, is_no_items_or_rules, is_item_first, is_rule_first, is_rule_lem, is_subtitle, is_text, is_label, is_goto_lem, is_checkbox_lem, is_numeric_lem, is_one_of_lem, is_suppress, is_gray_out, is_disable, is_no_options, is_more_options, is_no_items, is_more_items, is_option, stating}
use Rattle.again.specs.Matches.{Settled}
use Rattle.again.proofs.Likeness.{own_cell}
use Rattle.roundtrip.proofs.Phrases.{ending, condition_under}
use Rattle.roundtrip.proofs.Canon.{under, canon, listed}
use Rattle.roundtrip.proofs.CanonItems.{head_of, tail_of_lem, row_of}
use Rattle.roundtrip.proofs.GuidAgain.{high_small}
use Rattle.roundtrip.proofs.NumericLists.{size_among, size_again_lem}
use Rattle.roundtrip.proofs.Ranged.{Ranged, NodeRanged, Fine}
use Rattle.roundtrip.proofs.PhraseRanged.{Id, ending_ranged, subtitle_ranged, text_ranged, label_ranged, goto_ranged, checkbox_ranged, numeric_ranged, numbers_fit, one_of_ranged, option_ranged, form_ranged, form_set_ranged, condition_ranged, rule_ranged}

kept_fits : {s : List ℕ} {σ : List Symbol} {f : Trees} → Kept s σ f → Fits rules σ f
kept_fits kept_nil = fits_nil
kept_fits (kept_leaf h k) = fits_leaf (kept_fits k)
kept_fits (kept_node e h k₁ k₂) = fits_node e (kept_fits k₁) (kept_fits k₂)

-- a number of a source has 64 bits at most
number_small : (s : List ℕ) (p : ℕ) → number_at s p < 2 ^ 64
unfolding number_at value_at
number_small s p = by (numeral (word (drop p s)))
  where
    by : (v : ℕ) → held_value (fitted v) < 2 ^ 64
    by v = either (ltb v (2 ^ 64)) (λ e. rw (e, fitted) (ltb-true v (2 ^ 64) e)) (λ e. rw (e, fitted) (omega arith))

module _ (s : List ℕ) (look : ℕ → List ℕ) where
  abbrev source : ℕ → ℕ
  source = number_at s

  -- a finished row, and a rule's number
  abbrev pub Fit : Draft → Type 0
  Fit d = Settled look d × (is code.RULE d ≡ true → cell column.OWN d < 256)

  -- ---- expressions

  fine : (at : ℕ) (e : Expression) → All Fit (expression_rows source at e) → Fine (formula look e)
  fine at (number p) (more h none) = let z = h.0 in omega (arith, ap (λ r. get_or r column.A 0) z.is_row, z.a_same refl, number_small s p)
  fine at (constant c p) h = tt
  fine at (question_named p q) (more h none) = let z = h.0 in omega (arith, ap (λ r. get_or r column.A 0) z.is_row, z.a_range refl)
  fine at (question_numbered p q) (more h none) = let z = h.0 in omega (arith, ap (λ r. get_or r column.A 0) z.is_row, z.a_range refl)
  fine at (rule_named p q) (more h none) = let z = h.0 in omega (arith, ap (λ r. get_or r column.A 0) z.is_row, z.a_range refl)
  fine at (negation p e) h = fine at e (all_parts_lem (expression_rows source at e) _ h).0
  fine at (binary o p l r) h =
      let u = all_parts_lem (expression_rows source at l) _ h in
      let v = all_parts_lem (expression_rows source at r) _ u.1 in
      (fine at l u.0, fine at r v.0)

  -- ---- the walk

  abbrev Stated : ℕ → ℕ → Trees → Type 0
  Stated A i c = (parent at n : ℕ) → All Fit (within source look A i c parent at n) → NodeRanged A i (under look A i c (canon look c))

  abbrev NodeGood : ℕ → ℕ → Trees → Type 0
  NodeGood A i c = states A ≡ true → Stated A i c

  data Each : List Symbol → Trees → Type 0 where
    each_nil : Each [] nil
    each_leaf : {k p : ℕ} {σ : List Symbol} {f : Trees} → Each σ f → Each (terminal k ∷ σ) (leaf (token k p) f)
    each_node : {A i : ℕ} {σ : List Symbol} {c f : Trees} → NodeGood A i c → Each σ f → Each (nonterminal A ∷ σ) (node A i c f)

  abbrev Rows : List Draft → Type 0
  Rows ds = All Fit ds

  of_core : {c : Trees} → Told source look c → (parent at n : ℕ) → Rows (drafts_of source c parent at n) → Rows (drafts_of source (core c) parent at n)
  of_core u parent at n h = subst Rows (u.rows parent at n) h

  one_part : (A i : ℕ) (c : Trees) (parent at n : ℕ) → Rows (drafts_of source (node A i c nil) parent at n) → Rows (within source look A i c parent at n)
  one_part A i c parent at n h = (all_parts_lem (within source look A i c parent at n) [] h).0

  two_parts :
      (A i B j : ℕ) (c e : Trees) (parent at n : ℕ) → Rows (drafts_of source (node A i c (node B j e nil)) parent at n)
      → Rows (within source look A i c parent at n) × Rows (within source look B j e parent (at + length (within source look A i c parent at n)) (n + rules_in (node A i c nil)))
  two_parts A i B j c e parent at n h =
      let W = within source look A i c parent at n in
      let q = all_parts_lem W (drafts_of source (node B j e nil) parent (at + length W) (n + rules_in (node A i c nil))) h in
      (q.0, one_part B j e parent (at + length W) (n + rules_in (node A i c nil)) q.1)

  -- a cell of the row that is found
  cell_is : {d : Draft} (c : ℕ) (z : Settled look d) → get_or (look (cell column.PLACE d)) c 0 ≡ get_or (row_of z) c 0
  cell_is c z = ap (λ r. get_or r c 0) z.is_row

  own_id : {d : Draft} (z : Settled look d) → asks d ≡ true → Id (get_or (look (cell column.PLACE d)) column.OWN 0)
  own_id z e = omega (arith, own_cell look z, z.own_range e)

  -- the n-th tree, a node of the rule A
  node_at : {σ : List Symbol} {c : Trees} (n A : ℕ) → Each σ c → rule_at n A σ ≡ true → NodeGood A (chosen n c) (child n c)
  node_at n A each_nil h = clash cc
  node_at zero A (each_leaf e) h = clash cc
  node_at (suc n) A (each_leaf e) h = node_at n A e h
  node_at zero A (each_node {A = B} q e) h = rw (← eqb-true B A h) q
  node_at (suc n) A (each_node q e) h = node_at n A e h

  -- ---- the statements, by their alternatives

  -- the row that is found
  abbrev found : Trees → List ℕ
  found c = look (place_at 0 c)

  subtitle_case : {c : Trees} → Node s <item> 0 c → Stated <item> 0 c
  unfolding rules is_question member questions range_of ranges
  subtitle_case {c} x parent at n all =
      let z = (head_of all).0 in
      (tt, subtitle_ranged (found c) (omega (arith, cell_is column.FIRST z, string_range s x 3 refl)))

  text_case : {c : Trees} → Node s <item> 1 c → Stated <item> 1 c
  unfolding rules is_question member questions range_of ranges
  text_case {c} x parent at n all =
      let z = (head_of all).0 in
      (tt, text_ranged (found c) (omega (arith, cell_is column.FIRST z, string_range s x 7 refl)) (omega (arith, cell_is column.SECOND z, string_range s x 3 refl)))

  label_case : {c : Trees} → Node s <item> 2 c → Stated <item> 2 c
  unfolding rules is_question member questions range_of ranges
  label_case {c} x parent at n all =
      let z = (head_of all).0 in
      (tt, label_ranged (found c) (omega (arith, cell_is column.OWN z, z.own_same refl, small_range s x 1 refl)))

  goto_case : {c : Trees} → Node s <item> 3 c → Stated <item> 3 c
  unfolding rules is_question member questions range_of ranges
  goto_case {c} x parent at n all =
      let z = (head_of all).0 in
      let h = part s x 3 <head> refl in (
        tt,
        goto_ranged (found c) (own_id z refl)
            (omega (arith, cell_is column.FIRST z, string_range s h 4 refl))
            (omega (arith, cell_is column.SECOND z, string_range s h 8 refl))
            (omega (arith, cell_is column.A z, z.a_same refl, id_range s x 1 refl)),
      )

  checkbox_case : {c : Trees} → Node s <item> 4 c → Stated <item> 4 c
  unfolding rules is_question member questions range_of ranges
  checkbox_case {c} x parent at n all =
      let z = (head_of all).0 in
      let h = part s x 1 <head> refl in (
        tt,
        checkbox_ranged (found c) (own_id z refl)
            (omega (arith, cell_is column.FIRST z, string_range s h 4 refl))
            (omega (arith, cell_is column.SECOND z, string_range s h 8 refl)),
      )

  numeric_case : {c : Trees} → Node s <item> 5 c → Stated <item> 5 c
  unfolding rules is_question member questions range_of ranges
  numeric_case {c} x parent at n all =
      let z = (head_of all).0 in
      let h = part s x 1 <head> refl in
      let n = size_in (child 3 c) in
      let Written_step = eqb (chosen 12 c) 1 in
      let written_default = eqb (chosen 13 c) 1 in
      let step = source (place_at 0 (child 2 (child 12 c))) in
      let default = source (place_at 0 (child 2 (child 13 c))) in
      let fit = sized s x in
      let named : size_among (numeric_list (found c)) ≡ n = size_again_lem (found c) (classes (child 3 c)) (cell_is column.SIZE z) in
      let below : (v w : ℕ) → v ≡ w → w < modulus n → v < modulus (size_among (numeric_list (found c))) = λ v w e h.
      subst (λ m. v < modulus m) (sym named) (subst (λ u. u < modulus n) (sym e) h) in (
        (
          tt,
          numbers_fit (found c)
              (below _ _ (cell_is column.A z ∙ z.a_same refl) fit.minimum)
              (below _ _ (cell_is column.B z) fit.maximum)
              (below _ _ (cell_is column.C z) (step_below Written_step step (modulus n) (one_below n (named_some (child 3 c))) fit.step))
              (below _ _ (cell_is column.D z) (when_below written_default default (modulus n) (modulus_some n) fit.default)),
        ),
        numeric_ranged (found c) (own_id z refl)
            (omega (arith, cell_is column.FIRST z, string_range s h 4 refl))
            (omega (arith, cell_is column.SECOND z, string_range s h 8 refl))
            (omega (arith, cell_is column.A z, z.a_same refl, number_small s (place_at 0 (child 6 c))))
            (omega (arith, cell_is column.B z, number_small s (place_at 0 (child 10 c))))
            (omega (arith, cell_is column.C z, step_below Written_step step (2 ^ 64) (omega arith) (λ e. number_small s (place_at 0 (child 2 (child 12 c))))))
            (omega (arith, cell_is column.D z, when_below written_default default (2 ^ 64) (omega arith) (λ e. number_small s (place_at 0 (child 2 (child 13 c)))))),
      )

  option_case : {c : Trees} → Node s <option> 0 c → Stated <option> 0 c
  unfolding rules is_question member questions range_of ranges
  option_case {c} x parent at n all =
      let z = (head_of all).0 in (
        tt,
        option_ranged (found c) (omega (arith, cell_is column.FIRST z, string_range s x 3 refl))
            (omega (arith, cell_is column.A z, z.a_same refl, number_small s (place_at 0 (child 7 c)))),
      )

  -- ---- those with statements or an expression under them

  one_of_case : {c : Trees} → Told source look c → Node s <item> 6 c → Fits rules one_of_symbols c → Each one_of_symbols c → Stated <item> 6 c
  unfolding rules is_question member questions range_of ranges
  one_of_case {c} v x h e =
      by_parts_lem (λ c. Told source look c → Node s <item> 6 c → Stated <item> 6 c) h (λ v x parent at n all.
      let z = (head_of all).0 in
      let h = part s x 1 <head> refl in
      let y = two_parts <option> (chosen 4 c) <option>* (chosen 5 c) (child 4 c) (child 5 c) at (at + 1) n (of_core v at (at + 1) n (tail_of_lem all)) in
      let a = node_at 4 <option> e refl refl at (at + 1) n y.0 in
      let b = node_at 5 <option>* e refl refl at _ _ y.1 in (
        tt,
        one_of_ranged (found c) (listed look <option> 4 c (listed look <option>* 5 c (ending class.«endoneof»))) (own_id z refl)
            (omega (arith, cell_is column.FIRST z, string_range s h 4 refl))
            (omega (arith, cell_is column.SECOND z, string_range s h 8 refl))
            (a.0, a.1, (b.0, b.1, ending_ranged class.«endoneof» (omega arith))),
      )) v x

  -- suppressif, grayoutif or disableif, which is the class k, with the row D
  condition_case :
      (k : ℕ) {c : Trees} (D : Draft) (at n : ℕ) → k < class.NAME → Told source look (anew (condition_symbols k) c) → Each (condition_symbols k) c
      → Rows ((D ∷ expression_rows source at (expression (child 1 c))) ++ drafts_of source (anew (condition_symbols k) c) at (at + suc (length (expression_rows source at (expression (child 1 c))))) n)
      → Ranged (condition_under k (formula look (expression (child 1 c))) (listed look <item>* 3 c (ending class.«endif»)))
  unfolding range_of ranges
  condition_case k {c} D at n b v e all =
      let E = D ∷ expression_rows source at (expression (child 1 c)) in
      let y = all_parts_lem E (drafts_of source (anew (condition_symbols k) c) at (at + length E) n) all in
      let items = one_part <item>* (chosen 3 c) (child 3 c) at (at + length E) n (of_core v at (at + length E) n y.1) in
      let a = node_at 3 <item>* e refl refl at (at + length E) n items in
      condition_ranged k (formula look (expression (child 1 c))) (listed look <item>* 3 c (ending class.«endif»)) b (fine at (expression (child 1 c)) (tail_of_lem y.0))
      (a.0, a.1, ending_ranged class.«endif» (omega arith))

  rule_case : {c : Trees} → Fits rules rule_symbols c → Stated <rule> 0 c
  unfolding is_question member questions range_of ranges
  rule_case {c} h =
      by_parts_lem (λ c. Stated <rule> 0 c) h (λ parent at n all.
      let E = rule_draft source parent n (anew rule_symbols c) ∷ expression_rows source at (expression (child 3 c)) in
      let y = all_parts_lem E _ all in
      let z = head_of y.0 in (
        tt,
        rule_ranged (found c) (formula look (expression (child 3 c))) (omega (arith, cell_is column.OWN z.0, z.0.own_same refl, z.1 refl))
            (fine at (expression (child 3 c)) (tail_of_lem y.0)),
      ))

  form_case : {c : Trees} → Told source look c → Node s <form> 0 c → Fits rules form_symbols c → Each form_symbols c → Stated <form> 0 c
  unfolding rules is_question member questions range_of ranges
  form_case {c} v x h e =
      by_parts_lem (λ c. Told source look c → Node s <form> 0 c → Stated <form> 0 c) h (λ v x parent at n all.
      let z = (head_of all).0 in
      let items = one_part <item_or_rule>* (chosen 9 c) (child 9 c) at (at + 1) n (of_core v at (at + 1) n (tail_of_lem all)) in
      let a = node_at 9 <item_or_rule>* e refl refl at (at + 1) n items in (
        tt,
        form_ranged (found c) (listed look <item_or_rule>* 9 c (ending class.«endform»))
            (omega (arith, cell_is column.OWN z, z.own_same refl, id_range s x 3 refl))
            (omega (arith, cell_is column.FIRST z, string_range s x 7 refl))
            (a.0, a.1, ending_ranged class.«endform» (omega arith)),
      )) v x

  form_set_case : {c : Trees} → Told source look c → Node s <source> 0 c → Fits rules form_set_symbols c → Each form_set_symbols c → Stated <source> 0 c
  unfolding rules is_question member questions range_of ranges
  form_set_case {c} v x h e =
      by_parts_lem (λ c. Told source look c → Node s <source> 0 c → Stated <source> 0 c) h (λ v x parent at n all.
      let z = (head_of all).0 in
      let y = two_parts <form> (chosen 13 c) <form>* (chosen 14 c) (child 13 c) (child 14 c) at (at + 1) n (of_core v at (at + 1) n (tail_of_lem all)) in
      let a = node_at 13 <form> e refl refl at (at + 1) n y.0 in
      let b = node_at 14 <form>* e refl refl at _ _ y.1 in (
        tt,
        form_set_ranged (found c) (listed look <form> 13 c (listed look <form>* 14 c (ending class.«endformset»)))
            (omega (arith, cell_is column.FIRST z, string_range s x 7 refl))
            (omega (arith, cell_is column.SECOND z, string_range s x 11 refl))
            (subst (λ v. v < 2 ^ 64) (sym (cell_is column.A z ∙ z.a_same refl)) (high_small source (child 3 c)))
            (a.0, a.1, (b.0, b.1, ending_ranged class.«endformset» (omega arith))),
      )) v x

  -- ---- every statement

  stated_as : {A i : ℕ} {a : Alternative} {c : Trees} → Stating A i a → Node s A i c → Fits rules a.symbols c → Each a.symbols c → Stated A i c
  unfolding range_of ranges
  stated_as is_subtitle x h e = subtitle_case x
  stated_as is_text x h e = text_case x
  stated_as is_label x h e = label_case x
  stated_as is_goto_lem x h e = goto_case x
  stated_as is_checkbox_lem x h e = checkbox_case x
  stated_as is_numeric_lem x h e = numeric_case x
  stated_as is_option x h e = option_case x
  stated_as is_one_of_lem x h e = one_of_case (told source look h) x h e
  stated_as {c = c} is_suppress x h e =
      by_parts_lem (λ c. Told source look c → Stated <item> 7 c) h (λ v parent at n all.
      (tt, condition_case class.«suppressif» (item source parent 7 (anew (condition_symbols class.«suppressif») c)) at n (omega arith) v e all)) (told source look h)
  stated_as {c = c} is_gray_out x h e =
      by_parts_lem (λ c. Told source look c → Stated <item> 8 c) h (λ v parent at n all.
      (tt, condition_case class.«grayoutif» (item source parent 8 (anew (condition_symbols class.«grayoutif») c)) at n (omega arith) v e all)) (told source look h)
  stated_as {c = c} is_disable x h e =
      by_parts_lem (λ c. Told source look c → Stated <item> 9 c) h (λ v parent at n all.
      (tt, condition_case class.«disableif» (item source parent 9 (anew (condition_symbols class.«disableif») c)) at n (omega arith) v e all)) (told source look h)
  stated_as is_rule_lem x h e = rule_case h
  stated_as is_form x h e = form_case (told source look h) x h e
  stated_as is_form_set x h e = form_set_case (told source look h) x h e
  stated_as is_no_forms x h each_nil = λ parent at n all. (tt, tt)
  stated_as is_more_forms x h (each_node {i = j} {c = b} q (each_node {i = k} {c = a} e each_nil)) = λ parent at n all.
      let z = two_parts <form> j <form>* k b a parent (at + 0) n all in
      let u = q refl parent (at + 0) n z.0 in
      let v = e refl parent _ _ z.1 in
      (tt, (u.0, u.1, (v.0, v.1, tt)))
  stated_as is_no_items_or_rules x h each_nil = λ parent at n all. (tt, tt)
  stated_as is_item_first x h (each_node {i = j} {c = b} q (each_node {i = k} {c = a} e each_nil)) = λ parent at n all.
      let z = two_parts <item> j <item_or_rule>* k b a parent (at + 0) n all in
      let u = q refl parent (at + 0) n z.0 in
      let v = e refl parent _ _ z.1 in
      (tt, (u.0, u.1, (v.0, v.1, tt)))
  stated_as is_rule_first x h (each_node {i = j} {c = b} q (each_node {i = k} {c = a} e each_nil)) = λ parent at n all.
      let z = two_parts <rule> j <item_or_rule>* k b a parent (at + 0) n all in
      let u = q refl parent (at + 0) n z.0 in
      let v = e refl parent _ _ z.1 in
      (tt, (u.0, u.1, (v.0, v.1, tt)))
  stated_as is_no_options x h each_nil = λ parent at n all. (tt, tt)
  stated_as is_more_options x h (each_node {i = j} {c = b} q (each_node {i = k} {c = a} e each_nil)) = λ parent at n all.
      let z = two_parts <option> j <option>* k b a parent (at + 0) n all in
      let u = q refl parent (at + 0) n z.0 in
      let v = e refl parent _ _ z.1 in
      (tt, (u.0, u.1, (v.0, v.1, tt)))
  stated_as is_no_items x h each_nil = λ parent at n all. (tt, tt)
  stated_as is_more_items x h (each_node {i = j} {c = b} q (each_node {i = k} {c = a} e each_nil)) = λ parent at n all.
      let z = two_parts <item> j <item>* k b a parent (at + 0) n all in
      let u = q refl parent (at + 0) n z.0 in
      let v = e refl parent _ _ z.1 in
      (tt, (u.0, u.1, (v.0, v.1, tt)))

  stated : (A i : ℕ) (a : Alternative) (c : Trees) → alternative_of rules A i ≡ some a → Node s A i c → Fits rules a.symbols c → Each a.symbols c → NodeGood A i c
  stated A i a c q x h e g = stated_as (stating A i a q g) x h e

  each : {σ : List Symbol} {f : Trees} → Kept s σ f → Each σ f
  each kept_nil = each_nil
  each (kept_leaf h k) = each_leaf (each k)
  each (kept_node {A = A} {i = i} {a = a} {c = c} e h k₁ k₂) =
      each_node (stated A i a c e (record { alternative = a; is = e; none_out = h; under = k₁ }) (kept_fits k₁) (each k₁)) (each k₂)

  -- the form set of a source
  pub source_ranged : {i : ℕ} {c : Trees} → Node s <source> i c → (parent at n : ℕ) → Rows (within source look <source> i c parent at n) → NodeRanged <source> i (under look <source> i c (canon look c))
  source_ranged {i} {c} x = stated <source> i x.alternative c x.is x (kept_fits x.under) (each x.under) refl
