-- When a pattern spells symbols of the grammar.
-- Assumes nothing.
use Prim.Native.Nat.{ℕ, ◌+◌, ◌≤◌, ◌<◌}
use mathlib.Core.List.{List, [], ◌∷◌}
use Rattle.lexemes.specs.Classes.{NAME}
use Rattle.ll1.specs.Trees.{Symbol}
use Rattle.grammar.specs.Rules.{<fl>, <numeric_fl>}
use Rattle.grammar.specs.Notation.{t, r}
use Rattle.elements.specs.Kinds.{FLAG_LIST, NUMERIC_FLAGS, MAYBE}
use Rattle.elements.proofs.Ways.{Kind, width}
use Rattle.elements.proofs.Alternatives.{Single, Optional}

-- the element e stands for the symbol x
pub data Stands : Symbol → ℕ → Type 0 where
  -- a sign or a reserved word
  by_word : {k : ℕ} → k < NAME → Stands (t k) k
  -- one token that keeps something
  by_kind : {x : Symbol} {e : ℕ} → Kind x e → Stands x e
  -- FL
  by_flags : Stands (r <fl>) FLAG_LIST
  by_numeric_flags : Stands (r <numeric_fl>) NUMERIC_FLAGS

-- how many entries a pattern keeps at most
abbrev pub widths : List ℕ → ℕ
widths [] = 0
widths (e ∷ p) = width e + widths p

-- the pattern p spells the symbols, and q is what is left of it
pub data Spells : List Symbol → List ℕ → List ℕ → Type 0 where
  spells_nil : {p : List ℕ} → Spells [] p p
  -- a symbol by its element
  spells_one : {x : Symbol} {e : ℕ} {α : List Symbol} {p q : List ℕ} → Stands x e → Spells α p q → Spells (x ∷ α) (e ∷ p) q
  -- a rule of one alternative by the symbols of that
  spells_rule : {A : ℕ} {x : Symbol} {β α : List Symbol} {p q o : List ℕ} → Single A (x ∷ β) → Spells (x ∷ β) p q → Spells α q o → Spells (r A ∷ α) p o
  -- a rule that may be absent by MAYBE and four elements
  spells_maybe : {A k a b c : ℕ} {β α : List Symbol} {p o : List ℕ} → Optional A k β → 1 ≤ widths (k ∷ a ∷ b ∷ c ∷ []) → Spells (t k ∷ β) (k ∷ a ∷ b ∷ c ∷ p) p → Spells α p o → Spells (r A ∷ α) (MAYBE ∷ k ∷ a ∷ b ∷ c ∷ p) o
