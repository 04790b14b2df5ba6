-- A derivation that is nowhere too deep, as one family.
-- Assumes nothing.
use Rattle.std.specs.Prelude.{◌≡◌, List, [], ◌∷◌, false, ℕ}
use Rattle.std.proofs.Math.Option.{some}
use Rattle.ll1.specs.Trees.{token, Trees, nil, leaf, node, Symbol, terminal, nonterminal, Alternative, alternative_of, Depth, deeper}
use Rattle.grammar.specs.Grammar.{rules}
use Rattle.grammar.specs.Derivation.{too_deep}

-- trees at depth d that fit the symbols, no leaf of which is too deep
pub data Fitted : Depth → List Symbol → Trees → Type 0 where
  f_nil : {d : Depth} → Fitted d [] nil
  f_leaf : {d : Depth} {k p : ℕ} {σ : List Symbol} {f : Trees} → too_deep d ≡ false → Fitted d σ f → Fitted d (terminal k ∷ σ) (leaf (token k p) f)
  f_node :
      {d : Depth} {A i : ℕ} {a : Alternative} {σ : List Symbol} {c f : Trees}
      → alternative_of rules A i ≡ some a → Fitted (deeper d a.opens) a.symbols c → Fitted d σ f → Fitted d (nonterminal A ∷ σ) (node A i c f)
