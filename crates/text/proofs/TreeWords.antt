-- The words of a derivation's trees are those of its statements.
-- Assumes nothing.
use Prim.Native.Nat.{ℕ, zero, suc, ◌<◌}
use native.Mathlib.Omega.{arith}
use mathlib.Core.Path.{◌≡◌, refl, sym, ap, ◌∙◌}
use mathlib.Core.Bool.{Bool, true, false, not, ◌&&◌, ◌||◌}
use mathlib.Core.List.{List, [], ◌∷◌, ◌++◌, append-nil, append_assoc}
use lib.Dec.{eqb, ltb}
use lib.ListN.{get_or}
use borrow.Author.Tests.{eqb-true, not-true}
use Rattle.lexemes.proofs.Lists.{either}
use Rattle.rows.specs.Codes as code
use Rattle.rows.specs.Columns as column
use Rattle.ll1.specs.Trees.{Trees, Symbol, nonterminal, Fits, fits_nil, fits_leaf, fits_node}
use Rattle.ll1.proofs.Basics.{both, clash, all_member}
use Rattle.grammar.specs.Rules.{<source>, <form>, <rule>, <item>, <option>}
use Rattle.grammar.specs.Grammar.{rules}
use Rattle.grammar.specs.Parts.{child, place_at}
use Rattle.answers.specs.Rows.{drafts_of}
use Rattle.answers.specs.Text as text
use Rattle.answers.specs.Text.{Word, words, opening, words_of, around}
use Rattle.grammar.proofs.Alternatives.{at_alternative}
use Rattle.grammar.proofs.Statements.{statements, states, free, Under, tested}
use Rattle.statements.specs.Statements.{closing, expression_end}
use Rattle.laid.specs.Items.{Items, done}
use Rattle.laid.specs.Statements.{makes_row, item_codes, code_of, inner_of, items_of}
use Rattle.laid.proofs.Held.{Held}
use Rattle.laid.proofs.OwnRows.{no_statement_lem}
use Rattle.laid.proofs.HeldTrees.{no_source, no_source_under, item_of_ten, StatementHeld, statement_held, plain_held, source_held}
use Rattle.text.specs.ItemWords.{code_at, inner_words, item_words}

-- ---- the words of one statement round those in it

-- other statements may stand in it: in a form, in a oneof and in a condition
abbrev holds : ℕ → ℕ → Bool
holds A i = eqb A <form> || (eqb A <item> && ltb 5 i)

-- over any words
alone : (a w e : List Word) → w ≡ [] → e ≡ [] → a ++ [] ≡ (a ++ []) ++ (w ++ e)
alone a w e f g = sym (rw (f, g) (append-nil (a ++ [])))

option_alone : (a w e : List Word) → w ≡ [] → e ≡ [] → a ≡ (a ++ []) ++ (w ++ e)
option_alone a w e f g = sym (rw (f, g) (append-nil (a ++ []) ∙ append-nil a))

rule_alone : (a x e w : List Word) → w ≡ [] → a ++ x ++ e ≡ (a ++ (x ++ e)) ++ (w ++ [])
rule_alone a x e w f = sym (rw f (append-nil (a ++ (x ++ e)) ∙ sym (append_assoc a x e)))

holding : (a w e : List Word) → a ++ (w ++ e) ≡ (a ++ []) ++ (w ++ e)
holding a w e = ap (λ (l : List Word). l ++ (w ++ e)) (sym (append-nil a))

form_holding : (a w e : List Word) → a ++ w ++ e ≡ (a ++ []) ++ (w ++ e)
form_holding a w e = append_assoc a w e ∙ holding a w e

condition_holding : (a x y w e : List Word) → a ++ (x ++ y ++ w ++ e) ≡ (a ++ (x ++ y)) ++ (w ++ e)
condition_holding a x y w e = simp append_assoc

module _ (found : ℕ → List ℕ) (c : Trees) where
  -- the words of a statement of the rule A and the alternative i over the trees c, whose words are w
  abbrev Around : ℕ → ℕ → Type 0
  Around A i =
      (w : List Word)
      → (holds A i ≡ false → w ≡ [])
      → around found A i c w ≡ (opening (found (place_at 0 c)) ++ inner_words found (code_of A i) (inner_of A i c)) ++ (w ++ closing (code_of A i))

  abbrev a : List Word
  a = text.start found c

  abbrev x : List Word
  x = text.inner found 1 c

  item_around : (i : ℕ) → i < 10 → Around <item> i
  unfolding closing inner_words expression_end code_of item_codes
  item_around zero h w e = alone a w (closing code.SUBTITLE) (e refl) refl
  item_around (suc zero) h w e = alone a w (closing code.TEXT) (e refl) refl
  item_around (suc (suc zero)) h w e = alone a w (closing code.LABEL) (e refl) refl
  item_around (suc (suc (suc zero))) h w e = alone a w (closing code.GOTO) (e refl) refl
  item_around (suc (suc (suc (suc zero)))) h w e = alone a w (closing code.CHECKBOX) (e refl) refl
  item_around (suc (suc (suc (suc (suc zero))))) h w e = alone a w (closing code.NUMERIC) (e refl) refl
  item_around (suc (suc (suc (suc (suc (suc zero)))))) h w e = holding a w (closing code.ONE_OF)
  item_around (suc (suc (suc (suc (suc (suc (suc zero))))))) h w e = condition_holding a x _ w _
  item_around (suc (suc (suc (suc (suc (suc (suc (suc zero)))))))) h w e = condition_holding a x _ w _
  item_around (suc (suc (suc (suc (suc (suc (suc (suc (suc zero))))))))) h w e = condition_holding a x _ w _
  item_around (suc (suc (suc (suc (suc (suc (suc (suc (suc (suc i)))))))))) h w e = absurd (omega arith)

  option_around : (i : ℕ) → Around <option> i
  unfolding closing inner_words code_of
  option_around i w e = option_alone a w (closing code.OPTION) (e refl) refl

  form_around : (i : ℕ) → Around <form> i
  unfolding closing inner_words code_of
  form_around i w e = form_holding a w (closing code.FORM)

  rule_around : (i : ℕ) → Around <rule> i
  unfolding closing inner_words expression_end code_of
  rule_around i w e = rule_alone a (text.inner found 3 c) (expression_end code.RULE) w (e refl)

  statement_around : (A i : ℕ) → makes_row A ≡ true → (A ≡ <item> → i < 10) → Around A i
  statement_around A i m ten =
      either (eqb <item> A) (λ e. let q = sym (eqb-true <item> A e) in let l = ten q in rw q (item_around i l))
      (λ e₁. either (eqb <option> A) (λ e. rw (sym (eqb-true <option> A e)) (option_around i))
      (λ e₂. either (eqb <rule> A) (λ e. rw (sym (eqb-true <rule> A e)) (rule_around i))
      (λ e₃. either (eqb <form> A) (λ e. rw (sym (eqb-true <form> A e)) (form_around i))
      (λ e₄. let z : false ≡ true = rw (e₁, e₂, e₃, e₄) at m in clash cc))))

  -- a tree that is no statement adds none
  none_around : (A i : ℕ) → makes_row A ≡ false → eqb A <source> ≡ false → (w : List Word) → around found A i c w ≡ w
  none_around A i m s w =
      rw (s, text.otherwise, no_statement_lem A <form> m refl, no_statement_lem A <rule> m refl, no_statement_lem A <item> m refl, no_statement_lem A <option> m refl)

-- ---- statements that have none in them

not_made : (A : ℕ) → states A ≡ false → makes_row A ≡ false
not_made A h = by (makes_row A) refl
  where
    by : (b : Bool) → makes_row A ≡ b → makes_row A ≡ false
    by false e = e
    by true e = clash (cc (all_member (λ B. states B) (<item> ∷ <option> ∷ <rule> ∷ <form> ∷ []) A refl e))

over : (A : ℕ) → makes_row A ≡ true → states A ≡ true
over A h = all_member (λ B. states B) (<item> ∷ <option> ∷ <rule> ∷ <form> ∷ []) A refl h

-- a rule that has no statement under it has none in its alternatives; nor has a statement that holds none
bare_under : Under (λ A i. not (states A && (not (makes_row A) || holds A i))) statements
unfolding rules
bare_under = tested _ statements refl

bare_none : {σ : List Symbol} {f : Trees} → Fits rules σ f → free statements σ ≡ true → (z : Items) → items_of f z ≡ z
unfolding items_of
bare_none fits_nil h z = refl
bare_none (fits_leaf r) h z = bare_none r h z
bare_none (fits_node {A = A} {i = i} {a = a} {c = c} {f = f} e r₁ r₂) h z =
    let t = both (not (states A)) _ h in
    let no_above : states A ≡ false = not-true (states A) t.0 in
    let under = bare_under A i a e (rw no_above) in
    rw (not_made A no_above, items_of) (bare_none r₁ under (items_of f z) ∙ bare_none r₂ t.1 z)

-- ---- the words of trees

-- a statement's, over any words: x round w and e, then f and z
statement_words : (x w e f z : List Word) → x ++ ((w ++ []) ++ (e ++ (f ++ z))) ≡ ((x ++ (w ++ e)) ++ f) ++ z
statement_words x w e f z = simp (append-nil, append_assoc)

-- the form set's, over any words
form_set_words : (a w e : List Word) → (a ++ w ++ e) ++ [] ≡ a ++ ((w ++ []) ++ e)
form_set_words a w e = simp (append-nil, append_assoc)

module _ (t : List ℕ) (found : ℕ → List ℕ) (value : ℕ → ℕ) where
  -- the row that is found for a statement has the statement's code
  code_found :
      {parent at n A i : ℕ} {c f : Trees}
      → StatementHeld t found value parent at n A i c f → code_at found (place_at 0 c) ≡ code_of A i
  code_found h = ap (λ (r : List ℕ). get_or r column.CODE 0) (sym h.row_is) ∙ h.code_is

  -- of the trees f, whose rows the table holds
  abbrev Words : Trees → Type 0
  Words f = (z : Items) → item_words found (items_of f z) ≡ words_of found f ++ item_words found z

  pub tree_words :
      {σ : List Symbol} {f : Trees}
      → Fits rules σ f → no_source σ ≡ true
      → (parent at n : ℕ)
      → Held t found (drafts_of value f parent at n) at → Words f
  unfolding items_of item_words
  tree_words fits_nil s parent at n held z = refl
  tree_words (fits_leaf r) s parent at n held z = tree_words r s parent at n held z
  tree_words (fits_node {A = A} {i = i} {a = a} {c = c} {f = f} eq r₁ r₂) s parent at n held z =
      let no_source_lem = both (not (eqb A <source>)) _ s in
      let none_under = at_alternative _ no_source_under eq in
      let w = words_of found c in
      either (makes_row A)
      (λ made.
      let h = statement_held t found value parent at n A i c f eq made held in
      let p = h.parts in
      let within = tree_words r₁ none_under at _ n p.under in
      let later = tree_words r₂ no_source_lem.1 parent p.k p.rules_before p.after z in
      let bare : holds A i ≡ false → items_of c done ≡ done = λ e. bare_none r₁ (bare_under A i a eq (rw (made, e, over A made))) done in
      let none : holds A i ≡ false → w ≡ [] = λ e. sym (append-nil w) ∙ sym (within done) ∙ ap (item_words found) (bare e) in
      let first = opening (found (place_at 0 c)) ++ inner_words found (code_of A i) (inner_of A i c) in
      rw (made, items_of)
      (rw (code_found h, within done, later)
      (statement_words first w (closing (code_of A i)) (words_of found f) (item_words found z)
      ∙ ap (λ (l : List Word). (l ++ words_of found f) ++ item_words found z) (sym (statement_around found c A i made (item_of_ten eq) w none)))))
      (λ made.
      let apart = not-true (eqb A <source>) no_source_lem.0 in
      let p = plain_held t found value parent at n A i c f made apart held in
      let within = tree_words r₁ none_under parent at n p.under in
      let later = tree_words r₂ no_source_lem.1 parent p.k p.rules_before p.after z in
      rw (made, items_of)
      (within (items_of f z)
      ∙ rw (later, none_around found c A i made apart w) (sym (append_assoc w (words_of found f) (item_words found z)))))

  -- ---- the tree of a source

  pub source_words :
      {tree : Trees}
      → Fits rules (nonterminal <source> ∷ []) tree
      → Held t found (drafts_of value tree 0 0 0) 0
      → words_of found tree ≡ opening (found (place_at 0 (child 0 tree))) ++ (item_words found (items_of tree done) ++ closing code.FORM_SET)
  unfolding items_of item_words closing
  source_words (fits_node {i = i} {c = c} e r fits_nil) held =
      let first = opening (found (place_at 0 c)) in
      let inner = tree_words r (at_alternative _ no_source_under e) 0 1 0 (source_held value i c t found held).1 done in
      form_set_words first (words_of found c) (words "endformset ;")
      ∙ ap (λ (l : List Word). first ++ (l ++ words "endformset ;")) (sym inner)
