-- A tree's own rows, place by place: a statement's stands at its first word, and those of its expression where the expression says.
-- Assumes nothing.
use mathlib.Core.Path.{◌≡◌, refl, ap, sym, ◌∙◌}
use mathlib.Core.List.{List, [], ◌∷◌, ◌++◌}
use mathlib.Core.Option.{some}
use mathlib.Core.Bool.{Bool, true, cond, not, ◌||◌}
use Prim.Native.Nat.{ℕ, zero, suc, ◌<◌}
use native.Mathlib.Omega.{arith}
use lib.Dec.{eqb, ltb}
use borrow.Author.Tests.{ltb-true}
use Rattle.lexemes.proofs.Lists.{either}
use Rattle.rows.specs.Columns as column
use Rattle.ll1.specs.Trees.{Trees, Symbol, Alternative, alternative_of, Fits, fits_nil, fits_leaf, fits_node}
use Rattle.ll1.proofs.Basics.{clash, implied}
use Rattle.grammar.specs.Rules.{<rule>, <item>, <option>, <form>, <source>}
use Rattle.grammar.specs.Grammar.{rules}
use Rattle.grammar.specs.Parts.{child, place_at}
use Rattle.answers.specs.Expression.{Expression, number, constant, question_named, question_numbered, rule_named, negation, binary, expression}
use Rattle.answers.specs.Rows.{Draft, item, option, rule_draft, form, form_set, expression_rows, condition, otherwise, own_rows, drafts_of}
use Rattle.answers.specs.Stages.{cell}
use Rattle.grammar.proofs.Alternatives.{everywhere, at_alternative}
use Rattle.answers.specs.RowPlaces.{row_places, expression_places, own_places, tree_places}

pub places_append : (ds es : List Draft) → row_places (ds ++ es) ≡ row_places ds ++ row_places es
places_append [] es = refl
places_append (d ∷ ds) es = ap (◌∷◌ (cell column.PLACE d)) (places_append ds es)

three :
    (a b c : List Draft) {ps qs rs : List ℕ}
    → row_places a ≡ ps → row_places b ≡ qs → row_places c ≡ rs → row_places ((a ++ b) ++ c) ≡ (ps ++ qs) ++ rs
three a b c h k l = rw (places_append (a ++ b) c, places_append a b, h, k, l)

-- ---- the places of a node's own rows

-- the rules whose trees have rows of their own
abbrev pub is_statement : ℕ → Bool
is_statement A = eqb A <item> || (eqb A <option> || (eqb A <rule> || (eqb A <form> || eqb A <source>)))

module _ (A i : ℕ) (c : Trees) where
  own_first : {p : ℕ} {ps : List ℕ} → own_places A i c ≡ p ∷ ps → p ≡ place_at 0 c
  unfolding own_places
  own_first {p} {ps} h =
      either (eqb A <item>) (λ e. first (rw e at h))
      (λ e. let h = rw e at h in either (eqb A <option>) (λ e. first (rw e at h))
      (λ e. let h = rw e at h in either (eqb A <rule>) (λ e. first (rw e at h))
      (λ e. let h = rw e at h in either (eqb A <form>) (λ e. first (rw e at h))
      (λ e. let h = rw e at h in either (eqb A <source>) (λ e. first (rw e at h)) (λ e. let h = rw e at h in clash cc)))))
    where
      first : {q : ℕ} {qs : List ℕ} → q ∷ qs ≡ p ∷ ps → p ≡ q
      first h = cc

  pub own_starts : is_statement A ≡ true → (ps : List ℕ) × (own_places A i c ≡ place_at 0 c ∷ ps)
  unfolding own_places
  own_starts h =
      either (eqb A <item>) (λ e. rw e (_, refl))
      (λ e. let h = rw e at h in rw e (either (eqb A <option>) (λ e. rw e (_, refl))
      (λ e. let h = rw e at h in rw e (either (eqb A <rule>) (λ e. rw e (_, refl))
      (λ e. let h = rw e at h in rw e (either (eqb A <form>) (λ e. rw e (_, refl))
      (λ e. let h = rw e at h in rw e (either (eqb A <source>) (λ e. rw e (_, refl)) (λ e. clash cc)))))))))

-- an item is one of ten
ten_items : everywhere (λ A i a. not (eqb A <item>) || ltb i 10) ≡ true
unfolding rules
ten_items = refl

module _ (value : ℕ → ℕ) where
  -- ---- expressions

  pub expression_places_lem : (parent : ℕ) (e : Expression) → row_places (expression_rows value parent e) ≡ expression_places e
  expression_places_lem parent (number p) = refl
  expression_places_lem parent (constant c p) = refl
  expression_places_lem parent (question_named p q) = refl
  expression_places_lem parent (question_numbered p q) = refl
  expression_places_lem parent (rule_named p q) = refl
  expression_places_lem parent (negation p e) =
      places_append (expression_rows value parent e) _ ∙ ap (λ ps. ps ++ p ∷ []) (expression_places_lem parent e)
  expression_places_lem parent (binary o p l r) =
      places_append (expression_rows value parent l) _
      ∙ rw (places_append (expression_rows value parent r), expression_places_lem parent l, expression_places_lem parent r)

  -- ---- statements

  pub form_set_place : (c : Trees) → cell column.PLACE (form_set value c) ≡ place_at 0 c
  form_set_place c = refl

  pub form_place : (parent : ℕ) (c : Trees) → cell column.PLACE (form value parent c) ≡ place_at 0 c
  form_place parent c = refl

  pub rule_place : (parent n : ℕ) (c : Trees) → cell column.PLACE (rule_draft value parent n c) ≡ place_at 0 c
  rule_place parent n c = refl

  pub option_place : (parent : ℕ) (c : Trees) → cell column.PLACE (option value parent c) ≡ place_at 0 c
  option_place parent c = refl

  -- an item of one of the ten alternatives
  pub item_place : (parent i : ℕ) (c : Trees) → i < 10 → cell column.PLACE (item value parent i c) ≡ place_at 0 c
  item_place parent zero c h = refl
  item_place parent (suc zero) c h = refl
  item_place parent (suc (suc zero)) c h = refl
  item_place parent (suc (suc (suc zero))) c h = refl
  item_place parent (suc (suc (suc (suc zero)))) c h = refl
  item_place parent (suc (suc (suc (suc (suc zero))))) c h = refl
  item_place parent (suc (suc (suc (suc (suc (suc zero)))))) c h = refl
  item_place parent (suc (suc (suc (suc (suc (suc (suc zero))))))) c h = refl
  item_place parent (suc (suc (suc (suc (suc (suc (suc (suc zero)))))))) c h = refl
  item_place parent (suc (suc (suc (suc (suc (suc (suc (suc (suc zero))))))))) c h = refl
  item_place parent (suc (suc (suc (suc (suc (suc (suc (suc (suc (suc i)))))))))) c h = absurd (omega arith)

  condition_places : (at i : ℕ) (c : Trees) → row_places (condition value at i c) ≡ cond (ltb 6 i) (expression_places (expression (child 1 c))) []
  condition_places at i c = either (ltb 6 i) (λ e. rw (e, condition) (expression_places_lem at (expression (child 1 c)))) (λ e. rw (e, condition))

  -- the own rows of a node of rule A and alternative i over the trees c
  pub own_places_lem :
      (A i : ℕ) (a : Alternative) (c : Trees) (parent at n : ℕ)
      → alternative_of rules A i ≡ some a → row_places (own_rows value parent at n A i c) ≡ own_places A i c
  unfolding own_places
  own_places_lem A i a c parent at n s =
      either (eqb A <item>)
      (λ e.
      let row = item_place parent i c (ltb-true i 10 (implied (eqb A <item>) (ltb i 10) (at_alternative _ ten_items s) e)) in
      rw (e, otherwise, row, condition_places at i c))
      (λ e. rw (e, otherwise) (either (eqb A <option>) (λ e. rw (e, otherwise))
      (λ e. rw (e, otherwise) (either (eqb A <rule>) (λ e. rw (e, otherwise, expression_places_lem at (expression (child 3 c))))
      (λ e. rw (e, otherwise) (either (eqb A <form>) (λ e. rw (e, otherwise))
      (λ e. rw (e, otherwise) (either (eqb A <source>) (λ e. rw (e, otherwise)) (λ e. rw (e, otherwise))))))))))

  -- the first of them stands at the node's first word
  pub first_place_lem :
      (A i : ℕ) (a : Alternative) (c : Trees) (parent at n : ℕ) (d : Draft) (ds : List Draft)
      → alternative_of rules A i ≡ some a → own_rows value parent at n A i c ≡ d ∷ ds → cell column.PLACE d ≡ place_at 0 c
  first_place_lem A i a c parent at n d ds s e = own_first A i c (sym (own_places_lem A i a c parent at n s) ∙ ap row_places e)

  -- ---- trees

  -- the rows of trees stand where the trees say, whatever their parent and number
  pub tree_places_lem : {σ : List Symbol} {f : Trees} → Fits rules σ f → (parent at n : ℕ) → row_places (drafts_of value f parent at n) ≡ tree_places f
  unfolding tree_places
  tree_places_lem fits_nil parent at n = refl
  tree_places_lem (fits_leaf r) parent at n = tree_places_lem r parent at n
  tree_places_lem (fits_node {A = A} {i = i} {a = a} {c = c} {f = f} e r₁ r₂) parent at n =
      three (own_rows value parent at n A i c) _ _ (own_places_lem A i a c parent at n e) (tree_places_lem r₁ _ _ _) (tree_places_lem r₂ _ _ _)
