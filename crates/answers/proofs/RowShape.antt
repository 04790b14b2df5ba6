-- "A row is twelve 64-bit numbers" (document 01, Rows), thirteen since document 02's W-204: each row of a derivation has as many.
-- Assumes nothing.
use mathlib.Core.Path.{◌≡◌, refl, ◌∙◌}
use mathlib.Core.List.{List, [], ◌∷◌, ◌++◌, map}
use mathlib.Core.Bool.{true, not, ◌||◌}
use Prim.Native.Nat.{ℕ, zero, suc, ◌<◌}
use native.Mathlib.Omega.{arith}
use lib.Dec.{eqb, ltb}
use lib.ListN.{length, length-set}
use borrow.Author.Tests.{ltb-true}
use Rattle.lexemes.proofs.Lists.{either}
use Rattle.rows.specs.Columns as column
use Rattle.rows.specs.Columns.{ROW}
use Rattle.rows.specs.Rows.{AreRows, no_rows, add_row}
use Rattle.ll1.specs.Trees.{Trees, Symbol, Fits, fits_nil, fits_leaf, fits_node}
use Rattle.ll1.proofs.Basics.{clash, implied}
use Rattle.grammar.specs.Rules.{<rule>, <item>, <option>, <form>, <source>}
use Rattle.grammar.specs.Grammar.{rules}
use Rattle.grammar.specs.Parts.{child}
use Rattle.answers.specs.Expression.{Expression, number, constant, question_named, question_numbered, rule_named, negation, binary, expression}
use Rattle.answers.specs.Rows.{Draft, item, expression_rows, condition, otherwise, own_rows, drafts_of}
use Rattle.answers.specs.Stages.{settled, finished}
use Rattle.grammar.proofs.Alternatives.{everywhere, at_alternative}
use Rattle.answers.proofs.Settling.{settling_leaves}

-- each has ROW numbers
pub data Wide : List Draft → Type 0 where
  no_wide : Wide []
  add_wide : {d : Draft} {ds : List Draft} → length d.row ≡ ROW → Wide ds → Wide (d ∷ ds)

wide_append : {ds es : List Draft} → Wide ds → Wide es → Wide (ds ++ es)
wide_append no_wide v = v
wide_append (add_wide l w) v = add_wide l (wide_append w v)

-- an item is one of ten
ten_items : everywhere (λ A i a. not (eqb A <item>) || ltb i 10) ≡ true
unfolding rules
ten_items = refl

module _ (value : ℕ → ℕ) where
  item_wide : (parent i : ℕ) (c : Trees) → i < 10 → length (item value parent i c).row ≡ ROW
  item_wide parent zero c h = refl
  item_wide parent (suc zero) c h = refl
  item_wide parent (suc (suc zero)) c h = refl
  item_wide parent (suc (suc (suc zero))) c h = refl
  item_wide parent (suc (suc (suc (suc zero)))) c h = refl
  item_wide parent (suc (suc (suc (suc (suc zero))))) c h = refl
  item_wide parent (suc (suc (suc (suc (suc (suc zero)))))) c h = refl
  item_wide parent (suc (suc (suc (suc (suc (suc (suc zero))))))) c h = refl
  item_wide parent (suc (suc (suc (suc (suc (suc (suc (suc zero)))))))) c h = refl
  item_wide parent (suc (suc (suc (suc (suc (suc (suc (suc (suc zero))))))))) c h = refl
  item_wide parent (suc (suc (suc (suc (suc (suc (suc (suc (suc (suc i)))))))))) c h = absurd (omega arith)

  expression_wide : (parent : ℕ) (e : Expression) → Wide (expression_rows value parent e)
  expression_wide parent (number p) = add_wide refl no_wide
  expression_wide parent (constant c p) = add_wide refl no_wide
  expression_wide parent (question_named p q) = add_wide refl no_wide
  expression_wide parent (question_numbered p q) = add_wide refl no_wide
  expression_wide parent (rule_named p q) = add_wide refl no_wide
  expression_wide parent (negation p e) = wide_append (expression_wide parent e) (add_wide refl no_wide)
  expression_wide parent (binary o p l r) = wide_append (expression_wide parent l) (wide_append (expression_wide parent r) (add_wide refl no_wide))

  own_wide : (A i : ℕ) (c : Trees) (parent at n : ℕ) → not (eqb A <item>) || ltb i 10 ≡ true → Wide (own_rows value parent at n A i c)
  own_wide A i c parent at n t =
      either (eqb A <item>)
      (λ e.
      let row = item_wide parent i c (ltb-true i 10 (implied (eqb A <item>) (ltb i 10) t e)) in
      rw (e, otherwise) (either (ltb 6 i) (λ l. rw (l, condition) (add_wide row (expression_wide at (expression (child 1 c))))) (λ l. rw (l, condition) (add_wide row no_wide))))
      (λ e. rw (e, otherwise) (either (eqb A <option>) (λ e. rw (e, otherwise) (add_wide refl no_wide))
      (λ e. rw (e, otherwise) (either (eqb A <rule>) (λ e. rw (e, otherwise) (add_wide refl (expression_wide at (expression (child 3 c)))))
      (λ e. rw (e, otherwise) (either (eqb A <form>) (λ e. rw (e, otherwise) (add_wide refl no_wide))
      (λ e. rw (e, otherwise) (either (eqb A <source>) (λ e. rw (e, otherwise) (add_wide refl no_wide)) (λ e. rw (e, otherwise) no_wide)))))))))

  pub rows_wide : {σ : List Symbol} {f : Trees} → Fits rules σ f → (parent at n : ℕ) → Wide (drafts_of value f parent at n)
  rows_wide fits_nil parent at n = no_wide
  rows_wide (fits_leaf r) parent at n = rows_wide r parent at n
  rows_wide (fits_node {A = A} {i = i} {c = c} {f = f} e r₁ r₂) parent at n =
      let own = own_wide A i c parent at n (at_alternative _ ten_items e) in
      wide_append (wide_append own (rows_wide r₁ _ _ _)) (rows_wide r₂ _ _ _)

-- ---- the finished rows

-- rows as long as others
wide_like : (es : List Draft) {ds : List Draft} → Wide ds → map (λ d. length d.row) es ≡ map (λ d. length d.row) ds → Wide es
wide_like [] no_wide q = no_wide
wide_like (e ∷ es) no_wide q = clash cc
wide_like [] (add_wide l w) q = clash cc
wide_like (e ∷ es) (add_wide {d = d} l w) q =
    let same : length e.row ≡ length d.row = cc in
    add_wide (same ∙ l) (wide_like es w cc)

are_rows : {ds : List Draft} → Wide ds → AreRows (map (λ d. d.row) ds)
are_rows no_wide = no_rows
are_rows (add_wide l w) = add_row l (are_rows w)

pub finished_wide : (s : List ℕ) {ds : List Draft} → Wide ds → AreRows (finished s ds)
unfolding finished
finished_wide s {ds} w =
    let long = settling_leaves (λ d. length d.row) (λ d v. length-set d.row column.OWN v) (λ d v. length-set d.row column.A v) s ds in
    are_rows (wide_like (settled s ds) w long)
