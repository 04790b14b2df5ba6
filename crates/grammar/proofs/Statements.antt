-- Which rules are those of statements and of their lists, and under which of the grammar's alternatives none of them stands.
-- Assumes nothing.
use mathlib.Core.Path.{◌≡◌, refl}
use mathlib.Core.List.{List, [], ◌∷◌, ◌++◌}
use mathlib.Core.Option.{some}
use mathlib.Core.Bool.{Bool, true, false, not, ◌&&◌, ◌||◌}
use Prim.Native.Nat.{ℕ}
use lib.Dec.{eqb}
use borrow.Author.Tests.{ne_eqb}
use Rattle.ll1.specs.Trees.{Symbol, terminal, nonterminal, Alternative, alternative_of}
use Rattle.ll1.specs.ParseTable.{member}
use Rattle.ll1.proofs.Basics.{clash, implied}
use Rattle.grammar.specs.Rules.{<source>, <form>*, <form>, <item_or_rule>*, <rule>, <item>, <option>*, <item>*, <option>}
use Rattle.grammar.specs.Grammar.{rules}
use Rattle.grammar.proofs.Alternatives.{everywhere, at_alternative}

-- options and their list
abbrev pub offering : List ℕ
offering = <option> ∷ <option>* ∷ []

-- the other statements and their lists
abbrev pub others : List ℕ
others = <source> ∷ <form>* ∷ <form> ∷ <item_or_rule>* ∷ <rule> ∷ <item> ∷ <item>* ∷ []

abbrev pub statements : List ℕ
statements = offering ++ others

abbrev pub states : ℕ → Bool
states A = member A statements

-- a rule that states nothing is none of those that do
pub apart : (A B : ℕ) → states A ≡ false → states B ≡ true → eqb A B ≡ false
apart A B h m = ne_eqb A B (λ e. let q : states B ≡ false = rw e at h in clash cc)

-- none of the rules is among the symbols
abbrev pub free : List ℕ → List Symbol → Bool
free l [] = true
free l (terminal k ∷ σ) = free l σ
free l (nonterminal A ∷ σ) = not (member A l) && free l σ

-- an alternative that passes the test has none of the rules in it
abbrev pub Under : (ℕ → ℕ → Bool) → List ℕ → Type 0
Under test l = (A i : ℕ) (a : Alternative) → alternative_of rules A i ≡ some a → test A i ≡ true → free l a.symbols ≡ true

-- computed over the grammar's table
pub tested : (test : ℕ → ℕ → Bool) (l : List ℕ) → everywhere (λ A i a. not (test A i) || free l a.symbols) ≡ true → Under test l
tested test l h A i a e t = implied (test A i) (free l a.symbols) (at_alternative _ h e) t

-- what states nothing has no statement in it, nor has an option
pub no_statements : Under (λ A i. not (states A) || eqb A <option>) statements
unfolding rules
no_statements = tested (λ A i. not (states A) || eqb A <option>) statements refl
