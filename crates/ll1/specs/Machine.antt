-- The machine that gives the verdict on a list of tokens: a stack of the symbols still due, and one token of lookahead.
-- Assumes nothing.
use Rattle.std.specs.Prelude.{List, [], ◌∷◌, ◌++◌, Bool, true, false, ◌&&◌, ℕ, zero, suc, eqb, length}
use Rattle.std.proofs.Math.Option.{none, some}
use Rattle.ll1.specs.Trees.{Token, token, Symbol, terminal, nonterminal, Alternative, Grammar, alternative_of, Depth, depth, deeper}
use Rattle.ll1.specs.Verdict.{Verdict, accepted, ends_early, refused}
use Rattle.ll1.specs.ParseTable.{ParseTable, predict, nullable}

-- a symbol that is still due, and the depth at which it stands
pub data Due : Type 0 where
  due : Depth → Symbol → Due

-- symbols due at one depth
abbrev pub due_all : Depth → List Symbol → List Due
due_all d [] = []
due_all d (x ∷ α) = due d x ∷ due_all d α

-- the symbols without their depths
abbrev pub symbols_of : List Due → List Symbol
symbols_of [] = []
symbols_of (due d x ∷ σ) = x ∷ symbols_of σ

-- the symbols of an alternative of a rule that is due at depth d
abbrev pub opened : Depth → Alternative → List Due
opened d a = due_all (deeper d a.opens) a.symbols

-- all these symbols may be absent
abbrev pub all_nullable : Grammar → List Symbol → Bool
all_nullable G [] = true
all_nullable G (terminal k ∷ α) = false
all_nullable G (nonterminal A ∷ α) = nullable G A && all_nullable G α

-- what a token leaves due, and the depth at which it stands
pub data Next : Type 0 where
  stuck : Next
  next : Depth → List Due → Next

module _ (G : Grammar) (P : ParseTable) where
  -- what a token of class k leaves due of σ; `go` tells it of the stack on which a rule has been replaced by an alternative
  abbrev pub advance_by : (List Due → ℕ → Next) → List Due → ℕ → Next
  advance_by go [] k = stuck
  advance_by go (due d (terminal j) ∷ σ) k = elim (eqb j k) [ true ↦ next d σ | false ↦ stuck ]
  advance_by go (due d (nonterminal A) ∷ σ) k =
      elim (predict P A k) [
        | some i ↦ elim (alternative_of G A i) [ some a ↦ go (opened d a ++ σ) k | none ↦ stuck ]
        | none ↦ elim (nullable G A) [ true ↦ advance_by go σ k | false ↦ stuck ]
      ]

  -- the same, with at most n rules replaced one after another
  abbrev pub advance_in : ℕ → List Due → ℕ → Next
  advance_in zero σ k = stuck
  advance_in (suc n) σ k = advance_by (advance_in n) σ k

  -- the same: rules that stand first in one another are no more than there are rules
  abbrev pub advance : List Due → ℕ → Next
  advance σ k = advance_by (advance_in (length G)) σ k

module _ (too_deep : Depth → Bool) (G : Grammar) (P : ParseTable) where
  -- the verdict on the tokens where σ is due
  unfoldable pub run : List Due → List Token → Verdict
  run σ [] = elim (all_nullable G (symbols_of σ)) [ true ↦ accepted | false ↦ ends_early ]
  run σ (token k p ∷ ts) =
      elim (advance G P σ k) [
        | stuck ↦ refused 3 p
        | next d τ ↦ elim (too_deep d) [ true ↦ refused 4 p | false ↦ run τ ts ]
      ]

  -- the verdict on a whole text: rule 0 is due, and nothing is open
  abbrev pub verdict : List Token → Verdict
  verdict ts = run (due (depth 0 0) (nonterminal 0) ∷ []) ts
