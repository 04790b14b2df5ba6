-- The derivation of a list of tokens, as a function.
-- Assumes nothing.
use Rattle.std.specs.Prelude.{List, [], ◌∷◌, true, false, ℕ, zero, suc, ◌+◌, ◌*◌, eqb, length}
use Rattle.std.proofs.Math.Option.{Option, none, some}
use Rattle.ll1.specs.Trees.{Token, token, Trees, nil, leaf, node, Symbol, terminal, nonterminal, Grammar, alternative_of}
use Rattle.ll1.specs.ParseTable.{ParseTable, choose}

-- trees that were read, and the tokens after them
pub data Parsed : Type 0 where
  failed : Parsed
  parsed : Trees → List Token → Parsed

abbrev pub with_leaf : Token → Parsed → Parsed
with_leaf t failed = failed
with_leaf t (parsed f ts) = parsed (leaf t f) ts

abbrev pub with_node : ℕ → ℕ → Trees → Parsed → Parsed
with_node A i c failed = failed
with_node A i c (parsed f ts) = parsed (node A i c f) ts

-- the trees, where no token is left
abbrev pub whole : Parsed → Option Trees
whole failed = none
whole (parsed f []) = some f
whole (parsed f (t ∷ ts)) = none

-- no tree of n tokens has more nodes under one another
abbrev pub max_height : Grammar → ℕ → ℕ
max_height G n = n * length G + suc (length G)

module _ (G : Grammar) (P : ParseTable) where
  -- the trees of the symbols σ; `go` reads the trees under a node
  abbrev pub parse_by : (List Symbol → List Token → Parsed) → List Symbol → List Token → Parsed
  parse_by go [] ts = parsed nil ts
  parse_by go (terminal k ∷ σ) [] = failed
  parse_by go (terminal k ∷ σ) (token j p ∷ ts) = elim (eqb k j) [ true ↦ with_leaf (token j p) (parse_by go σ ts) | false ↦ failed ]
  parse_by go (nonterminal A ∷ σ) ts =
      elim (alternative_of G A (choose P A ts)) [
        | none ↦ failed
        | some a ↦ elim (go a.symbols ts) [ failed ↦ failed | parsed c us ↦ with_node A (choose P A ts) c (parse_by go σ us) ]
      ]

  -- the same with at most n nodes under one another
  abbrev pub parse : ℕ → List Symbol → List Token → Parsed
  parse zero σ ts = failed
  parse (suc n) σ ts = parse_by (parse n) σ ts

  -- the derivation of a whole text
  unfoldable pub derivation : List Token → Option Trees
  derivation ts = whole (parse (suc (max_height G (length ts))) (nonterminal 0 ∷ []) ts)
