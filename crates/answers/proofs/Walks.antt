-- Where a walk down a derivation has come: the rows of what it has reached are the next ones of the whole.
-- Assumes nothing.
use mathlib.Core.Path.{◌≡◌, refl, sym, ◌∙◌}
use mathlib.Core.List.{List, [], ◌++◌, append_assoc, append-nil}
use Prim.Native.Nat.{ℕ, ◌+◌}
use native.Mathlib.Omega.{arith}
use lib.ListN.{length, length-append}
use Rattle.ll1.specs.Trees.{Token, Trees, leaf, node, Symbol, Fits, fits_leaf, fits_node}
use Rattle.grammar.specs.Grammar.{rules}
use Rattle.answers.specs.Rows.{Draft, own_rows, drafts_of}
use Rattle.answers.specs.Reached.{node_rows, Reached, whole, past, under, beside}

-- rows that stand among others, from row `at` on
pub record Among (all part : List Draft) (at : ℕ) : Type 0 where
  pub before : List Draft
  pub after : List Draft
  pub are : all ≡ before ++ (part ++ after)
  pub number : length before ≡ at

module _ {all : List Draft} {at : ℕ} where
  pub first_among : (ds es : List Draft) → Among all (ds ++ es) at → Among all ds at
  first_among ds es m = record { before = m.before; after = es ++ m.after; are = m.are ∙ simp append_assoc; number = m.number }

  pub rest_among : (ds es : List Draft) → Among all (ds ++ es) at → Among all es (at + length ds)
  rest_among ds es m =
      record {
        before = m.before ++ ds;
        after = m.after;
        are = m.are ∙ simp append_assoc;
        number = omega (arith, m.number, length-append m.before ds);
      }

module _ (value : ℕ → ℕ) {tree : Trees} where
  pub reached_rows : {f : Trees} {parent at n : ℕ} → Reached value tree f parent at n → Among (drafts_of value tree 0 0 0) (drafts_of value f parent at n) at
  reached_rows whole = record { before = []; after = []; are = sym (append-nil (drafts_of value tree 0 0 0)); number = refl }
  reached_rows (past r) = reached_rows r
  reached_rows (under {A = A} {i = i} {c = c} {parent = parent} {at = at} {n = n} r) =
      rest_among (own_rows value parent at n A i c) _ (first_among (node_rows value A i c parent at n) _ (reached_rows r))
  reached_rows (beside {A = A} {i = i} {c = c} {parent = parent} {at = at} {n = n} r) =
      rest_among (node_rows value A i c parent at n) _ (reached_rows r)

  -- the own rows of a node
  pub own_among :
      {A i : ℕ} {c f : Trees} {parent at n : ℕ}
      → Reached value tree (node A i c f) parent at n → Among (drafts_of value tree 0 0 0) (own_rows value parent at n A i c) at
  own_among {A} {i} {c} {f} {parent} {at} {n} r =
      first_among (own_rows value parent at n A i c) _ (first_among (node_rows value A i c parent at n) _ (reached_rows r))

  -- and the trees fit
  pub reached_fits : {σ : List Symbol} {f : Trees} {parent at n : ℕ} → Fits rules σ tree → Reached value tree f parent at n → (τ : List Symbol) × Fits rules τ f
  reached_fits {σ} t whole = (σ, t)
  reached_fits t (past r) = next (reached_fits t r).1
    where
      next : {τ : List Symbol} {u : Token} {f : Trees} → Fits rules τ (leaf u f) → (τ : List Symbol) × Fits rules τ f
      next (fits_leaf {σ = τ} r) = (τ, r)
  reached_fits t (under r) = next (reached_fits t r).1
    where
      next : {τ : List Symbol} {A i : ℕ} {c f : Trees} → Fits rules τ (node A i c f) → (τ : List Symbol) × Fits rules τ c
      next (fits_node {a = a} e r₁ r₂) = (a.symbols, r₁)
  reached_fits t (beside r) = next (reached_fits t r).1
    where
      next : {τ : List Symbol} {A i : ℕ} {c f : Trees} → Fits rules τ (node A i c f) → (τ : List Symbol) × Fits rules τ f
      next (fits_node {σ = τ} e r₁ r₂) = (τ, r₂)
