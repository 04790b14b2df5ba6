-- The shape of a derivation's resolved text: each statement made anew from its finished row, the lists of statements kept.
-- Assumes nothing.
use mathlib.Core.Path.{◌≡◌, refl, ap, sym, subst}
use mathlib.Core.List.{List, [], ◌∷◌, ◌++◌}
use mathlib.Core.Bool.{true, false}
use Prim.Native.Nat.{ℕ, suc}
use lib.Dec.{eqb}
use lib.ListN.{length, get_or}
use Rattle.lexemes.specs.Classes as class
use Rattle.rows.specs.Columns as column
use Rattle.rows.specs.Cells.{without_places}
use Rattle.rows.proofs.ColumnLaws.{row_cells}
use Rattle.ll1.specs.Trees.{token, Trees, nil, leaf, node}
use Rattle.grammar.specs.Rules.{<source>, <form>*, <form>, <item_or_rule>*, <rule>, <item>, <option>*, <item>*, <option>}
use Rattle.grammar.specs.Parts.{child, chosen, place_at}
use Rattle.answers.specs.Expression.{expression}
use Rattle.answers.specs.Rows.{Draft}
use Rattle.answers.specs.Stages.{cell}
use Rattle.answers.specs.Text.{opening}
use Rattle.again.specs.Matches.{Pairs, no_pairs, pair, final}
use Rattle.formulas.specs.Shapes.{sign, Shape, s_nil, s_leaf, s_node, part, taken}
use Rattle.formulas.specs.Formula.{formula}
use Rattle.roundtrip.proofs.Phrases.{ending, subtitle_under, text_under, label_under, goto_under, checkbox_under, numeric_under, one_of_under, condition_under, option_under, rule_under, form_under, form_set_under}

-- the n-th tree of a shape, of the rule A
abbrev pub again : ℕ → ℕ → Shape → Shape → Shape
again A n x f = s_node A (taken n x) (part n x) f

-- ---- the shape

module _ (look : ℕ → List ℕ) where
  abbrev pub row_at : Trees → List ℕ
  row_at c = look (place_at 0 c)

  -- of an item of the alternative i over the trees c, of which d is the shape
  abbrev pub item_under : ℕ → Trees → Shape → Shape
  item_under i c d =
      let r = look (place_at 0 c) in
      let e = formula look (expression (child 1 c)) in
      let items = again <item>* 3 d (ending class.«endif») in
      get_or (
      subtitle_under r
      ∷ text_under r
      ∷ label_under r
      ∷ goto_under r
      ∷ checkbox_under r
      ∷ numeric_under r
      ∷ one_of_under r (again <option> 4 d (again <option>* 5 d (ending class.«endoneof»)))
      ∷ condition_under class.«suppressif» e items
      ∷ condition_under class.«grayoutif» e items
      ∷ condition_under class.«disableif» e items
      ∷ [])
      i s_nil

  -- of a node
  abbrev pub under : ℕ → ℕ → Trees → Shape → Shape
  under A i c d =
      elim (eqb A <source>) [
        | true ↦ form_set_under (row_at c) (again <form> 13 d (again <form>* 14 d (ending class.«endformset»)))
        | false ↦
            elim (eqb A <form>) [
              | true ↦ form_under (row_at c) (again <item_or_rule>* 9 d (ending class.«endform»))
              | false ↦
                  elim (eqb A <rule>) [
                    | true ↦ rule_under (row_at c) (formula look (expression (child 3 c)))
                    | false ↦
                        elim (eqb A <item>) [
                          | true ↦ item_under i c d
                          | false ↦
                              elim (eqb A <option>) [ true ↦ option_under (row_at c) | false ↦ d ]
                        ]
                  ]
            ]
      ]

  abbrev pub canon : Trees → Shape
  canon nil = s_nil
  canon (leaf (token k p) f) = s_leaf (sign k) (canon f)
  canon (node A i c f) = s_node A i (under A i c (canon c)) (canon f)

  -- the n-th of the trees c, a statement or a list of statements, made anew; and the shape beside it
  abbrev pub listed : ℕ → ℕ → Trees → Shape → Shape
  listed A n c f = s_node A (chosen n c) (under A (chosen n c) (child n c) (canon (child n c))) f

-- ---- rows

module _ (t : List ℕ) where
  -- the text's finished row is found at its place
  abbrev pub Found : (ℕ → List ℕ) → Draft → Type 0
  Found look d = look (cell column.PLACE d) ≡ final t d

module _ {A B : Type 0} {P : A → B → Type 0} where
  pub pairs_append : {xs zs : List A} {ys ws : List B} → Pairs P xs ys → Pairs P zs ws → Pairs P (xs ++ zs) (ys ++ ws)
  pairs_append no_pairs q = q
  pairs_append (pair h p) q = pair h (pairs_append p q)

  pub pairs_length : {xs : List A} {ys : List B} → Pairs P xs ys → length xs ≡ length ys
  pairs_length no_pairs = refl
  pairs_length (pair h p) = ap suc (pairs_length p)

-- ---- a phrase is told without the places

pub opening_besides : (r : List ℕ) → length r ≡ column.ROW → opening r ≡ opening (without_places r)
opening_besides r z = subst (λ q. opening q ≡ opening (without_places q)) (sym (row_cells r z)) refl
