-- The notation of the grammar's table.
-- Assumes nothing.
use Rattle.std.specs.Prelude.{List, [], ◌∷◌, ◌++◌, map, ℕ}
use Rattle.lexemes.specs.Classes.{HEX, DECIMAL}
use Rattle.ll1.specs.Trees.{Symbol, terminal, nonterminal, nothing, a_condition, a_group, Alternative}

-- ---- symbols: a token of a class, a tree of a rule

abbrev pub t : ℕ → Symbol
t class = terminal class

abbrev pub r : ℕ → Symbol
r rule = nonterminal rule

-- ---- alternatives: one that opens nothing, a condition, a group

abbrev pub plain : List Symbol → Alternative
plain α = record { opens = nothing; symbols = α }

abbrev pub condition : List Symbol → Alternative
condition α = record { opens = a_condition; symbols = α }

abbrev pub group : List Symbol → Alternative
group α = record { opens = a_group; symbols = α }

-- ---- all alternatives of a rule

-- one
abbrev pub one : List Symbol → List Alternative
one α = plain α ∷ []

-- "Square brackets: may be absent" (document 01, Grammar)
abbrev pub optional : List Symbol → List Alternative
optional α = plain [] ∷ plain α ∷ []

-- "`*`: none or more": rule A is none or more of α
abbrev pub star : ℕ → List Symbol → List Alternative
star A α = plain [] ∷ plain (α ++ r A ∷ []) ∷ []

-- rule A is none or more times one of the operators and then an operand of rule B
abbrev pub operators : ℕ → ℕ → List ℕ → List Alternative
operators A B ops = plain [] ∷ map (λ o. plain (t o ∷ r B ∷ r A ∷ [])) ops

-- a number, written in either way
abbrev pub numeral : List Alternative
numeral = plain (t DECIMAL ∷ []) ∷ plain (t HEX ∷ []) ∷ []

-- one of these words
abbrev pub choice : List ℕ → List Alternative
choice ks = map (λ k. plain (t k ∷ [])) ks

-- ---- a rule: its name and its alternatives

pub record Production : Type 0 where
  pub name : ℕ
  pub alternatives : List Alternative

infix 68 ◌::=◌
abbrev pub ◌::=◌ : ℕ → List Alternative → Production
A ::= l = record { name = A; alternatives = l }
