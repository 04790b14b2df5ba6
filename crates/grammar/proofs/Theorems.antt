-- The grammar of document 01: what a verdict on a source's tokens says, and that no source has two derivations.
-- Assumes nothing.
use mathlib.Core.Path.{◌≡◌, refl}
use mathlib.Core.List.{List, [], ◌∷◌, map}
use mathlib.Core.Option.{some}
use mathlib.Core.Bool.{true}
use mathlib.Core.Logic.{◌↔◌}
use Prim.Native.Nat.{ℕ, zero, suc}
use lib.ListN.{get_or}
use Rattle.ll1.specs.Trees.{Token, Trees}
use Rattle.ll1.specs.Verdict.{Verdict, accepted, Accepted}
use Rattle.ll1.specs.Test.{ll1?}
use Rattle.ll1.proofs.Ll1.{Ll1}
use Rattle.ll1.proofs.Theorems as Ll1
use Rattle.grammar.specs.Rules.{<flag>, <numeric_flag>}
use Rattle.grammar.specs.Notation.{choice}
use Rattle.grammar.specs.Flags.{flag_words, numeric_words, classes_of}
use Rattle.grammar.specs.Grammar.{productions, rules}
use Rattle.grammar.specs.Lookahead.{lookahead}
use Rattle.grammar.specs.Derivation.{too_deep, Derives, SourceSays}
use Rattle.grammar.specs.Reading.{verdict_from, verdict, derivation}

-- the grammar passes the test of ll1, with its parse table
pub grammar_passes : ll1? rules lookahead ≡ true
unfolding ll1? rules lookahead
grammar_passes = refl

abbrev counted : ℕ → ℕ → List ℕ
counted zero n = []
counted (suc k) n = n ∷ counted k (suc n)

-- each rule's number is the place of its production
pub productions_in_order : map (λ p. p.name) productions ≡ counted 58 0
unfolding productions
productions_in_order = refl

-- the words of FL are those that have a value, and a numeric's are these and the sizes and displays
pub flags_listed : (get_or rules <flag> [] ≡ choice (classes_of flag_words)) × (get_or rules <numeric_flag> [] ≡ choice (classes_of numeric_words))
unfolding rules productions
flags_listed = (refl, refl)

-- the facts behind the theorems below
pub grammar_ll1 : Ll1 rules lookahead
grammar_ll1 = Ll1.ll1 rules lookahead grammar_passes

-- the verdict says what is so
pub verdict_right : (ts : List Token) → SourceSays ts (verdict ts)
unfolding verdict_from
verdict_right = Ll1.verdict_right rules lookahead grammar_passes too_deep

-- and no other verdict does
pub verdict_only : (ts : List Token) (v : Verdict) → SourceSays ts v → verdict ts ≡ v
unfolding verdict_from
verdict_only = Ll1.verdict_only rules lookahead grammar_passes too_deep

-- accepted exactly when there is a derivation, and no leaf of it is too deep
pub accepted_exactly : (ts : List Token) → (verdict ts ≡ accepted) ↔ Accepted too_deep rules ts
unfolding verdict_from
accepted_exactly = Ll1.accepted_exactly rules lookahead grammar_passes too_deep

-- no list of tokens has two derivations
pub one_derivation : (ts : List Token) (f g : Trees) → Derives ts f → Derives ts g → f ≡ g
one_derivation = Ll1.one_derivation rules lookahead grammar_passes

-- `derivation` finds the derivation, if there is one, and nothing else
pub derivation_exactly : (ts : List Token) (tree : Trees) → (derivation ts ≡ some tree) ↔ Derives ts tree
unfolding derivation
derivation_exactly = Ll1.derivation_exactly rules lookahead grammar_passes
