-- Every statement of a derivation is good: one walk over the derivation.
-- Assumes nothing.
use mathlib.Core.Path.{◌≡◌, refl, sym, subst}
use mathlib.Core.List.{List, [], ◌∷◌}
use mathlib.Core.Option.{some}
use mathlib.Core.Bool.{true, false, not}
use Prim.Native.Nat.{ℕ, zero, suc, ◌+◌, ◌≤◌}
use lib.ListN.{length}
use borrow.Author.Tests.{eqb-true, not-true}
use Rattle.lexemes.specs.Classes as class
use Rattle.ll1.specs.Trees.{token, Trees, nil, leaf, node, Symbol, terminal, nonterminal, Alternative, alternative_of, Fits, Depth, depth, deeper}
use Rattle.ll1.proofs.Basics.{clash, both}
use Rattle.grammar.specs.Rules.{<source>, <form>*, <form>, <item_or_rule>*, <rule>, <item>, <option>*, <item>*, <option>, <expression>}
use Rattle.grammar.specs.Grammar.{rules}
use Rattle.grammar.specs.Derivation.{too_deep}
use Rattle.grammar.specs.Parts.{child, chosen}
use Rattle.answers.specs.Expression.{number, expression}
use Rattle.answers.specs.Rows.{Draft, rules_in, drafts_of, expression_rows, item, rule_draft, guid_bytes}
use Rattle.sound.proofs.Lists.{All}
use Rattle.formulas.specs.Fitted.{Fitted, f_nil, f_leaf, f_node}
use Rattle.formulas.proofs.Fitted.{to_fits}
use Rattle.formulas.specs.Expressions.{rule_at}
use Rattle.formulas.specs.Formula.{formula, nest}
use Rattle.formulas.proofs.Nesting.{expression_node}
use Rattle.roundtrip.proofs.Expressions.{all_parts_lem}
use Rattle.grammar.proofs.Statements.{statements, states, free}
use Rattle.roundtrip.proofs.Core.{core, within, Told, told}
use Rattle.roundtrip.proofs.Rebuilt.{anew, by_parts_lem}
use Rattle.roundtrip.proofs.Stating.{rule_symbols, condition_symbols, Stating, is_form_set, is_no_forms, is_more_forms, is_form, is_no_items_or_rules, is_item_first, is_rule_first, is_rule_lem, is_subtitle, is_text, is_label, is_goto_lem, is_checkbox_lem, is_numeric_lem, is_one_of_lem, is_suppress, is_gray_out, is_disable, is_no_options, is_more_options, is_no_items, is_more_items, is_option, stating}
use Rattle.again.specs.Matches.{Settled}
use Rattle.roundtrip.proofs.CanonSeq.{Ok}
use Rattle.roundtrip.proofs.CanonItems.{head_of, tail_of_lem, subtitle_ok, text_ok, label_ok, goto_ok, checkbox_ok, numeric_ok, option_ok}
use Rattle.roundtrip.proofs.CanonLists.{no_forms, no_items_or_rules, no_options, no_items, more_forms, item_first, rule_first, more_options, more_items}
use Rattle.roundtrip.proofs.CanonStatements.{one_of_ok, suppress_ok, gray_out_ok, disable_ok, rule_ok, form_ok, form_set_ok}
use Rattle.roundtrip.proofs.GuidAgain.{high_small, low_again}

module _ (text : List ℕ) (look look' : ℕ → List ℕ) (source : ℕ → ℕ) where
  -- a statement whose rows are finished is good
  abbrev Stated : Depth → ℕ → ℕ → Trees → Type 0
  Stated d A i c = (parent at n : ℕ) → All (Settled look) (within source look A i c parent at n) → Ok text look look' source d A i c parent at n

  -- an expression is no deeper than allowed
  abbrev Shallow : Depth → Trees → Type 0
  Shallow (depth q g) c = (q ≤ 16) × (g + nest 9 (formula look (expression c)) ≤ 32)

  abbrev NodeGood : Depth → ℕ → ℕ → Trees → Type 0
  NodeGood d A i c = (states A ≡ true → Stated d A i c) × (A ≡ <expression> → Shallow d c)

  data Each : Depth → List Symbol → Trees → Type 0 where
    each_nil : {d : Depth} → Each d [] nil
    each_leaf : {d : Depth} {k p : ℕ} {σ : List Symbol} {f : Trees} → too_deep d ≡ false → Each d σ f → Each d (terminal k ∷ σ) (leaf (token k p) f)
    each_node : {d : Depth} {A i : ℕ} {σ : List Symbol} {c f : Trees} → NodeGood d A i c → Each d σ f → Each d (nonterminal A ∷ σ) (node A i c f)

  abbrev Rows : List Draft → Type 0
  Rows ds = All (Settled look) ds

  -- the rows of the statements among trees
  of_core : {c : Trees} → Told source look c → (parent at n : ℕ) → Rows (drafts_of source c parent at n) → Rows (drafts_of source (core c) parent at n)
  of_core u parent at n h = subst Rows (u.rows parent at n) h

  -- of one node, and of two
  one_part : (A i : ℕ) (c : Trees) (parent at n : ℕ) → Rows (drafts_of source (node A i c nil) parent at n) → Rows (within source look A i c parent at n)
  one_part A i c parent at n h = (all_parts_lem (within source look A i c parent at n) [] h).0

  two_parts :
      (A i B j : ℕ) (c e : Trees) (parent at n : ℕ) → Rows (drafts_of source (node A i c (node B j e nil)) parent at n)
      → Rows (within source look A i c parent at n) × Rows (within source look B j e parent (at + length (within source look A i c parent at n)) (n + rules_in (node A i c nil)))
  two_parts A i B j c e parent at n h =
      let W = within source look A i c parent at n in
      let q = all_parts_lem W (drafts_of source (node B j e nil) parent (at + length W) (n + rules_in (node A i c nil))) h in
      (q.0, one_part B j e parent (at + length W) (n + rules_in (node A i c nil)) q.1)

  -- a word is not too deep
  word_deep : {d : Depth} {k : ℕ} {σ : List Symbol} {c : Trees} → Each d (terminal k ∷ σ) c → too_deep d ≡ false
  word_deep (each_leaf u e) = u

  -- no statement among them
  none_stated : {d : Depth} {σ : List Symbol} {c : Trees} → Each d σ c → free statements σ ≡ true → core c ≡ nil
  none_stated each_nil h = refl
  none_stated (each_leaf u e) h = none_stated e h
  none_stated (each_node {A = A} q e) h = let w = both (not (states A)) _ h in rw (not-true (states A) w.0, core) (none_stated e w.1)

  -- the n-th tree, a node of the rule A
  node_at : {d : Depth} {σ : List Symbol} {c : Trees} (n A : ℕ) → Each d σ c → rule_at n A σ ≡ true → NodeGood d A (chosen n c) (child n c)
  node_at n A each_nil h = clash cc
  node_at zero A (each_leaf u e) h = clash cc
  node_at (suc n) A (each_leaf u e) h = node_at n A e h
  node_at zero A (each_node {A = B} q e) h = rw (← eqb-true B A h) q
  node_at (suc n) A (each_node q e) h = node_at n A e h

  -- ---- the statements, by their alternatives

  stated_as :
      (x y : ℕ) {A i : ℕ} {a : Alternative} {c : Trees} → Stating A i a → Fits rules a.symbols c → Each (deeper (depth x y) a.opens) a.symbols c
      → Stated (depth x y) A i c
  stated_as x y is_subtitle h e = subtitle_ok text look look' source (depth x y) (word_deep e) _ (told source look h) (none_stated e refl)
  stated_as x y is_text h e = text_ok text look look' source (depth x y) (word_deep e) _ (told source look h) (none_stated e refl)
  stated_as x y is_label h e = label_ok text look look' source (depth x y) (word_deep e) _ (told source look h) (none_stated e refl)
  stated_as x y is_goto_lem h e = goto_ok text look look' source (depth x y) (word_deep e) _ (told source look h) (none_stated e refl)
  stated_as x y is_checkbox_lem h e = checkbox_ok text look look' source (depth x y) (word_deep e) _ (told source look h) (none_stated e refl)
  stated_as x y is_numeric_lem h e = numeric_ok text look look' source (depth x y) (word_deep e) _ (told source look h) (none_stated e refl)
  stated_as x y is_option h e = option_ok text look look' source (depth x y) (word_deep e) _ (told source look h) (none_stated e refl)
  stated_as x y {c = c} is_one_of_lem h e =
      by_parts_lem (λ c. Told source look c → Stated (depth x y) <item> 6 c) h (λ v parent at n all.
      let z = two_parts <option> (chosen 4 c) <option>* (chosen 5 c) (child 4 c) (child 5 c) at (at + 1) n (of_core v at (at + 1) n (tail_of_lem all)) in
      one_of_ok text look look' source (depth x y) (word_deep e) c parent at n v (head_of all)
      ((node_at 4 <option> e refl).0 refl at (at + 1) n z.0) ((node_at 5 <option>* e refl).0 refl at _ _ z.1)) (told source look h)
  stated_as x y {c = c} is_suppress h e =
      by_parts_lem (λ c. Told source look c → Stated (depth x y) <item> 7 c) h (λ v parent at n all.
      let E = item source parent 7 (anew (condition_symbols class.«suppressif») c) ∷ expression_rows source at (expression (child 1 c)) in
      let b = (node_at 1 <expression> e refl).1 refl in
      let z = all_parts_lem E _ all in
      let items = one_part <item>* (chosen 3 c) (child 3 c) at (at + length E) n (of_core v at (at + length E) n z.1) in
      suppress_ok text look look' source x y b.0 c b.1 parent at n v (head_of z.0) (tail_of_lem z.0)
      ((node_at 3 <item>* e refl).0 refl at (at + length E) n items)) (told source look h)
  stated_as x y {c = c} is_gray_out h e =
      by_parts_lem (λ c. Told source look c → Stated (depth x y) <item> 8 c) h (λ v parent at n all.
      let E = item source parent 8 (anew (condition_symbols class.«grayoutif») c) ∷ expression_rows source at (expression (child 1 c)) in
      let b = (node_at 1 <expression> e refl).1 refl in
      let z = all_parts_lem E _ all in
      let items = one_part <item>* (chosen 3 c) (child 3 c) at (at + length E) n (of_core v at (at + length E) n z.1) in
      gray_out_ok text look look' source x y b.0 c b.1 parent at n v (head_of z.0) (tail_of_lem z.0)
      ((node_at 3 <item>* e refl).0 refl at (at + length E) n items)) (told source look h)
  stated_as x y {c = c} is_disable h e =
      by_parts_lem (λ c. Told source look c → Stated (depth x y) <item> 9 c) h (λ v parent at n all.
      let E = item source parent 9 (anew (condition_symbols class.«disableif») c) ∷ expression_rows source at (expression (child 1 c)) in
      let b = (node_at 1 <expression> e refl).1 refl in
      let z = all_parts_lem E _ all in
      let items = one_part <item>* (chosen 3 c) (child 3 c) at (at + length E) n (of_core v at (at + length E) n z.1) in
      disable_ok text look look' source x y b.0 c b.1 parent at n v (head_of z.0) (tail_of_lem z.0)
      ((node_at 3 <item>* e refl).0 refl at (at + length E) n items)) (told source look h)
  stated_as x y {c = c} is_rule_lem h e =
      by_parts_lem (λ c. Told source look c → Stated (depth x y) <rule> 0 c) h (λ v parent at n all.
      let E = rule_draft source parent n (anew rule_symbols c) ∷ expression_rows source at (expression (child 3 c)) in
      let b = (node_at 3 <expression> e refl).1 refl in
      let z = all_parts_lem E _ all in
      rule_ok text look look' source x y b.0 c b.1 parent at n v (head_of z.0) (tail_of_lem z.0)) (told source look h)
  stated_as x y {c = c} is_form h e =
      by_parts_lem (λ c. Told source look c → Stated (depth x y) <form> 0 c) h (λ v parent at n all.
      let items = one_part <item_or_rule>* (chosen 9 c) (child 9 c) at (at + 1) n (of_core v at (at + 1) n (tail_of_lem all)) in
      form_ok text look look' source (depth x y) (word_deep e) c parent at n v (head_of all)
      ((node_at 9 <item_or_rule>* e refl).0 refl at (at + 1) n items)) (told source look h)
  stated_as x y {c = c} is_form_set h e =
      by_parts_lem (λ c. Told source look c → Stated (depth x y) <source> 0 c) h (λ v parent at n all.
      let z = two_parts <form> (chosen 13 c) <form>* (chosen 14 c) (child 13 c) (child 14 c) at (at + 1) n (of_core v at (at + 1) n (tail_of_lem all)) in
      form_set_ok text look look' source (depth x y) (word_deep e) c parent at n v (high_small source (child 3 c))
      (low_again source (guid_bytes source (child 3 c))) (head_of all)
      ((node_at 13 <form> e refl).0 refl at (at + 1) n z.0) ((node_at 14 <form>* e refl).0 refl at _ _ z.1)) (told source look h)
  stated_as x y is_no_forms h each_nil = λ parent at n all. no_forms text look look' source (depth x y) parent at n
  stated_as x y is_more_forms h (each_node {i = j} {c = b} q (each_node {i = k} {c = a} s each_nil)) = λ parent at n all.
      let z = two_parts <form> j <form>* k b a parent (at + 0) n all in
      more_forms text look look' source (depth x y) j k b a parent at n (q.0 refl parent (at + 0) n z.0) (s.0 refl parent _ _ z.1)
  stated_as x y is_no_items_or_rules h each_nil = λ parent at n all. no_items_or_rules text look look' source (depth x y) parent at n
  stated_as x y is_item_first h (each_node {i = j} {c = b} q (each_node {i = k} {c = a} s each_nil)) = λ parent at n all.
      let z = two_parts <item> j <item_or_rule>* k b a parent (at + 0) n all in
      item_first text look look' source (depth x y) j k b a parent at n (q.0 refl parent (at + 0) n z.0) (s.0 refl parent _ _ z.1)
  stated_as x y is_rule_first h (each_node {i = j} {c = b} q (each_node {i = k} {c = a} s each_nil)) = λ parent at n all.
      let z = two_parts <rule> j <item_or_rule>* k b a parent (at + 0) n all in
      rule_first text look look' source (depth x y) j k b a parent at n (q.0 refl parent (at + 0) n z.0) (s.0 refl parent _ _ z.1)
  stated_as x y is_no_options h each_nil = λ parent at n all. no_options text look look' source (depth x y) parent at n
  stated_as x y is_more_options h (each_node {i = j} {c = b} q (each_node {i = k} {c = a} s each_nil)) = λ parent at n all.
      let z = two_parts <option> j <option>* k b a parent (at + 0) n all in
      more_options text look look' source (depth x y) j k b a parent at n (q.0 refl parent (at + 0) n z.0) (s.0 refl parent _ _ z.1)
  stated_as x y is_no_items h each_nil = λ parent at n all. no_items text look look' source (depth x y) parent at n
  stated_as x y is_more_items h (each_node {i = j} {c = b} q (each_node {i = k} {c = a} s each_nil)) = λ parent at n all.
      let z = two_parts <item> j <item>* k b a parent (at + 0) n all in
      more_items text look look' source (depth x y) j k b a parent at n (q.0 refl parent (at + 0) n z.0) (s.0 refl parent _ _ z.1)

  stated : (d : Depth) (A i : ℕ) (a : Alternative) (c : Trees) → alternative_of rules A i ≡ some a → Fitted (deeper d a.opens) a.symbols c → Each (deeper d a.opens) a.symbols c → states A ≡ true → Stated d A i c
  stated (depth x y) A i a c q h e s = stated_as x y (stating A i a q s) (to_fits h) e

  shallow : (d : Depth) (i : ℕ) (a : Alternative) (c : Trees) → alternative_of rules <expression> i ≡ some a → Fitted (deeper d a.opens) a.symbols c → Shallow d c
  unfolding expression
  shallow (depth x y) i a c q h =
      let m = expression_node look q h in
      (m.conditions, subst (λ e. y + nest 9 (formula look e) ≤ 32) (sym (m.is (number 0))) m.deep)

  each : {d : Depth} {σ : List Symbol} {f : Trees} → Fitted d σ f → Each d σ f
  each f_nil = each_nil
  each (f_leaf u h) = each_leaf u (each h)
  each (f_node {d = d} {A = A} {i = i} {a = a} {c = c} q h₁ h₂) =
      each_node ((λ s. stated d A i a c q h₁ (each h₁) s), (λ w. shallow d i a c (rw w at q) h₁)) (each h₂)

  -- the form set of a source
  pub source_ok : {d : Depth} {i : ℕ} {a : Alternative} {c : Trees} → alternative_of rules <source> i ≡ some a → Fitted (deeper d a.opens) a.symbols c → (parent at n : ℕ) → Rows (within source look <source> i c parent at n) → Ok text look look' source d <source> i c parent at n
  source_ok {d} {i} {a} {c} q h = stated d <source> i a c q h (each h) refl
