-- Which symbols of the grammar spell an expression: an operand after words, more operators and operands, an awaited operand.
-- Assumes nothing.
use mathlib.Core.Path.{◌≡◌, refl}
use mathlib.Core.List.{List, [], ◌∷◌}
use mathlib.Core.Bool.{Bool, true, false, not, ◌&&◌, ◌||◌}
use Prim.Native.Nat.{ℕ, zero, suc}
use lib.Dec.{eqb, ltb}
use borrow.Author.Tests.{not-true}
use Rattle.lexemes.proofs.Lists.{either}
use Rattle.ll1.specs.Trees.{token, Symbol, terminal, nonterminal}
use Rattle.ll1.specs.ParseTable.{member}
use Rattle.ll1.proofs.Basics.{clash, all_member}
use Rattle.grammar.specs.Rules.{<large>, <or>, <or>*, <and>, <and>*, <bit_or>, <bit_or>*, <bit_and>, <bit_and>*, <equality>, <equality>*, <order>, <order>*, <shift>, <shift>*, <sum>, <sum>*, <product>, <product>*, <atom>}
use Rattle.grammar.specs.Grammar.{rules}
use Rattle.answers.specs.Expression.{Operator, Pending, nothing, operator, operator_class, operators, operator_among}
use Rattle.grammar.proofs.Alternatives.{everywhere}

-- an operand: a level of an expression, or an atom
abbrev pub operands : List ℕ
operands = <or> ∷ <and> ∷ <bit_or> ∷ <bit_and> ∷ <equality> ∷ <order> ∷ <shift> ∷ <sum> ∷ <product> ∷ <atom> ∷ []

-- operators and operands after a first one
abbrev pub tails : List ℕ
tails = <or>* ∷ <and>* ∷ <bit_or>* ∷ <bit_and>* ∷ <equality>* ∷ <order>* ∷ <shift>* ∷ <sum>* ∷ <product>* ∷ []

-- what trees are to be: an operand after so many words; more operators and operands; an operand that an operator waits for
pub data Mode : Type 0 where
  operand_after : ℕ → Mode
  more : Mode
  awaited : Mode

abbrev pub is_nothing : Pending → Bool
is_nothing nothing = true
is_nothing (operator o p) = false

abbrev pub no_operator : ℕ → Bool
no_operator k = is_nothing (operator_among operators (token k 0))

abbrev pub spells : Mode → List Symbol → Bool
spells (operand_after n) [] = false
spells (operand_after zero) (terminal k ∷ σ) = false
spells (operand_after (suc n)) (terminal k ∷ σ) = no_operator k && spells (operand_after n) σ
spells (operand_after zero) (nonterminal A ∷ σ) = member A operands && spells more σ
spells (operand_after (suc n)) (nonterminal A ∷ σ) = false
spells more [] = true
spells more (terminal k ∷ σ) = spells awaited σ
spells more (nonterminal A ∷ σ) = member A tails && spells more σ
spells awaited [] = true
spells awaited (terminal k ∷ σ) = false
spells awaited (nonterminal A ∷ σ) = member A operands && spells more σ

-- the first symbol is a word; a number
abbrev pub first_word : List Symbol → Bool
first_word [] = false
first_word (terminal k ∷ σ) = true
first_word (nonterminal A ∷ σ) = false

abbrev pub first_number : List Symbol → Bool
first_number [] = false
first_number (terminal k ∷ σ) = false
first_number (nonterminal A ∷ σ) = eqb A <large>

-- the alternative i of an atom: NOT atom; ( expression ); the others are a row each, a number's at the number
abbrev pub spells_atom : ℕ → List Symbol → Bool
spells_atom i σ =
    elim (ltb i 2) [
      | true ↦ spells (operand_after 1) σ
      | false ↦ ltb i 11 && elim (eqb i 8) [ true ↦ first_number σ | false ↦ first_word σ ]
    ]

abbrev pub spells_operand : ℕ → ℕ → List Symbol → Bool
spells_operand A i σ = elim (eqb A <atom>) [ true ↦ spells_atom i σ | false ↦ spells (operand_after 0) σ ]

pub operands_spell : everywhere (λ A i a. not (member A operands) || spells_operand A i a.symbols) ≡ true
unfolding rules
operands_spell = refl

pub tails_spell : everywhere (λ A i a. not (member A tails) || spells more a.symbols) ≡ true
unfolding rules
tails_spell = refl

pub numbers_are_words : everywhere (λ A i a. not (eqb A <large>) || first_word a.symbols) ≡ true
unfolding rules
numbers_are_words = refl

pub no_tail_is_atom : (A : ℕ) → member A tails ≡ true → eqb A <atom> ≡ false
no_tail_is_atom A h = not-true (eqb A <atom>) (all_member (λ B. not (eqb B <atom>)) tails A refl h)

-- a token that is no operator, wherever it stands
pub not_operator : (os : List Operator) (k p : ℕ) → is_nothing (operator_among os (token k 0)) ≡ true → operator_among os (token k p) ≡ nothing
not_operator [] k p h = refl
not_operator (o ∷ os) k p h =
    either (eqb (operator_class o) k)
    (λ e. let n : false ≡ true = rw (e, operator_among) at h in clash cc)
    (λ e. rw (e, operator_among) (not_operator os k p (rw (e, operator_among) at h)))

-- the operator that may wait
abbrev pub Waits : Mode → Pending → Type 0
Waits (operand_after n) pending = pending ≡ nothing
Waits more pending = pending ≡ nothing
Waits awaited pending = Unit {0}
