-- Parse tables: what one token of lookahead tells of a grammar's rules.
-- A parse table is no part of what a grammar means: the test of `Test` checks it against the grammar, and nothing rests on it otherwise.
-- Assumes nothing.
use Rattle.std.specs.Prelude.{List, [], ◌∷◌, Bool, true, false, ◌||◌, ℕ, suc, eqb, get_or}
use Rattle.std.proofs.Math.Option.{Option, none, some}
use Rattle.ll1.specs.Trees.{Token, token, Opens, nothing, a_condition, a_group, Symbol, Alternative, Grammar}

-- what is known of a rule
pub record Entry : Type 0 where
  -- FIRST: for each alternative the classes that a text of it can start with
  pub firsts : List (List ℕ)
  -- FOLLOW: the classes that can come after a text of the rule
  pub follow : List ℕ
  -- above the rank of each rule that can stand first in it
  pub rank : ℕ
  -- the alternative that leads to a finished text
  pub shortest : ℕ

abbrev pub entry : List (List ℕ) → List ℕ → ℕ → ℕ → Entry
entry firsts follow rank shortest = record { firsts = firsts; follow = follow; rank = rank; shortest = shortest }

-- an entry for each rule, in the grammar's order
abbrev pub ParseTable : Type 0
ParseTable = List Entry

abbrev pub entry_of : ParseTable → ℕ → Entry
entry_of P A = get_or P A (entry [] [] 0 0)

-- ---- sets of classes

abbrev pub member : ℕ → List ℕ → Bool
member k [] = false
member k (x ∷ l) = eqb x k || member k l

-- the place of the first set that has the class k
abbrev pub find : List (List ℕ) → ℕ → Option ℕ
find [] k = none
find (f ∷ l) k = elim (member k f) [ true ↦ some 0 | false ↦ elim (find l k) [ none ↦ none | some i ↦ some (suc i) ] ]

-- the alternative of rule A that a token of class k tells
abbrev pub predict : ParseTable → ℕ → ℕ → Option ℕ
predict P A k = find (entry_of P A).firsts k

-- the alternative of rule A that the next token tells, or the first one
abbrev pub choose : ParseTable → ℕ → List Token → ℕ
choose P A [] = 0
choose P A (token k p ∷ ts) = elim (predict P A k) [ none ↦ 0 | some i ↦ i ]

-- ---- rules that may be absent

abbrev pub is_empty : Opens → List Symbol → Bool
is_empty nothing [] = true
is_empty nothing (x ∷ α) = false
is_empty a_condition α = false
is_empty a_group α = false

-- the first alternative opens nothing and has no symbols
abbrev pub starts_empty : List Alternative → Bool
starts_empty [] = false
starts_empty (a ∷ l) = is_empty a.opens a.symbols

-- rule A has the empty alternative, as its first
abbrev pub nullable : Grammar → ℕ → Bool
nullable G A = starts_empty (get_or G A [])
