-- The own draft rows of each statement: one with its code, its parent and its place, and those of the expression that stands in it.
-- Assumes nothing.
use Prim.Native.Nat.{ℕ, zero, suc, ◌<◌}
use native.Mathlib.Omega.{arith}
use mathlib.Core.Path.{◌≡◌, refl, sym}
use mathlib.Core.Bool.{true, false}
use mathlib.Core.List.{List, [], ◌∷◌}
use lib.Dec.{eqb}
use lib.ListN.{get_or}
use borrow.Author.Tests.{eqb-true, ne_eqb}
use Rattle.lexemes.proofs.Lists.{either}
use Rattle.rows.specs.Codes as code
use Rattle.rows.specs.Codes.{is_expression, expressions}
use Rattle.rows.specs.Columns as column
use Rattle.ll1.specs.Trees.{Trees}
use Rattle.ll1.proofs.Basics.{clash}
use Rattle.grammar.specs.Rules.{<source>, <form>, <rule>, <item>, <option>}
use Rattle.grammar.specs.Parts.{place_at}
use Rattle.answers.specs.Expression.{Expression}
use Rattle.answers.specs.Rows.{Draft, expression_rows, own_rows, otherwise}
use Rattle.laid.specs.Items.{Inner, plain, expressed}
use Rattle.laid.specs.Statements.{makes_row, item_codes, code_of, inner_of}

-- the rows of what stands in a statement, whose row is the row `at`
pub data InnerRows (value : ℕ → ℕ) (at : ℕ) : Inner → List Draft → Type 0 where
  plain_rows : InnerRows value at plain []
  expressed_rows : (e : Expression) → InnerRows value at (expressed e) (expression_rows value at e)

-- the rows of a statement of the rule A and the alternative i over the trees c
pub record Own (value : ℕ → ℕ) (parent at n A i : ℕ) (c : Trees) : Type 0 where
  pub first : Draft
  pub others : List Draft
  pub is : own_rows value parent at n A i c ≡ first ∷ others
  pub code_is : get_or first.row column.CODE 0 ≡ code_of A i
  pub part : is_expression (code_of A i) ≡ false
  pub parent_is : get_or first.row column.PARENT 0 ≡ parent
  pub place_is : get_or first.row column.PLACE 0 ≡ place_at 0 c
  pub inner : InnerRows value at (inner_of A i c) others

module _ (value : ℕ → ℕ) (parent at n : ℕ) (c : Trees) where
  own_item : (i : ℕ) → i < 10 → Own value parent at n <item> i c
  unfolding is_expression expressions code.member code_of item_codes
  own_item zero h =
      record { first = _; others = _; is = refl; code_is = refl; part = refl; parent_is = refl; place_is = refl; inner = plain_rows }
  own_item (suc zero) h =
      record { first = _; others = _; is = refl; code_is = refl; part = refl; parent_is = refl; place_is = refl; inner = plain_rows }
  own_item (suc (suc zero)) h =
      record { first = _; others = _; is = refl; code_is = refl; part = refl; parent_is = refl; place_is = refl; inner = plain_rows }
  own_item (suc (suc (suc zero))) h =
      record { first = _; others = _; is = refl; code_is = refl; part = refl; parent_is = refl; place_is = refl; inner = plain_rows }
  own_item (suc (suc (suc (suc zero)))) h =
      record { first = _; others = _; is = refl; code_is = refl; part = refl; parent_is = refl; place_is = refl; inner = plain_rows }
  own_item (suc (suc (suc (suc (suc zero))))) h =
      record { first = _; others = _; is = refl; code_is = refl; part = refl; parent_is = refl; place_is = refl; inner = plain_rows }
  own_item (suc (suc (suc (suc (suc (suc zero)))))) h =
      record { first = _; others = _; is = refl; code_is = refl; part = refl; parent_is = refl; place_is = refl; inner = plain_rows }
  own_item (suc (suc (suc (suc (suc (suc (suc zero))))))) h =
      record { first = _; others = _; is = refl; code_is = refl; part = refl; parent_is = refl; place_is = refl; inner = expressed_rows _ }
  own_item (suc (suc (suc (suc (suc (suc (suc (suc zero)))))))) h =
      record { first = _; others = _; is = refl; code_is = refl; part = refl; parent_is = refl; place_is = refl; inner = expressed_rows _ }
  own_item (suc (suc (suc (suc (suc (suc (suc (suc (suc zero))))))))) h =
      record { first = _; others = _; is = refl; code_is = refl; part = refl; parent_is = refl; place_is = refl; inner = expressed_rows _ }
  own_item (suc (suc (suc (suc (suc (suc (suc (suc (suc (suc i)))))))))) h = absurd (omega arith)

  own_option : (i : ℕ) → Own value parent at n <option> i c
  unfolding is_expression expressions code.member code_of
  own_option i =
      record { first = _; others = _; is = refl; code_is = refl; part = refl; parent_is = refl; place_is = refl; inner = plain_rows }

  own_form : (i : ℕ) → Own value parent at n <form> i c
  unfolding is_expression expressions code.member code_of
  own_form i =
      record { first = _; others = _; is = refl; code_is = refl; part = refl; parent_is = refl; place_is = refl; inner = plain_rows }

  own_rule : (i : ℕ) → Own value parent at n <rule> i c
  unfolding is_expression expressions code.member code_of
  own_rule i =
      record { first = _; others = _; is = refl; code_is = refl; part = refl; parent_is = refl; place_is = refl; inner = expressed_rows _ }

  -- whichever statement it is
  pub own_of : (A i : ℕ) → makes_row A ≡ true → (A ≡ <item> → i < 10) → Own value parent at n A i c
  own_of A i m ten =
      either (eqb <item> A) (λ e. let q = sym (eqb-true <item> A e) in let l = ten q in rw q (own_item i l))
      (λ e₁. either (eqb <option> A) (λ e. rw (sym (eqb-true <option> A e)) (own_option i))
      (λ e₂. either (eqb <rule> A) (λ e. rw (sym (eqb-true <rule> A e)) (own_rule i))
      (λ e₃. either (eqb <form> A) (λ e. rw (sym (eqb-true <form> A e)) (own_form i))
      (λ e₄. let z : false ≡ true = rw (e₁, e₂, e₃, e₄) at m in clash cc))))

-- a rule that makes no row is none of those that do
pub no_statement_lem : (A B : ℕ) → makes_row A ≡ false → makes_row B ≡ true → eqb A B ≡ false
no_statement_lem A B m h = ne_eqb A B (λ q. clash (let z : makes_row A ≡ true = rw q h in cc))

-- a tree that is no statement has no rows of its own
pub none_of_lem : (value : ℕ → ℕ) (parent at n A i : ℕ) (c : Trees) → makes_row A ≡ false → eqb A <source> ≡ false → own_rows value parent at n A i c ≡ []
none_of_lem value parent at n A i c m s =
    rw (no_statement_lem A <item> m refl, otherwise, no_statement_lem A <option> m refl, no_statement_lem A <rule> m refl, no_statement_lem A <form> m refl, s)
