-- No derivation has a bad token: no alternative of the grammar takes one.
-- Assumes nothing.
use mathlib.Core.Path.{◌≡◌, refl}
use mathlib.Core.List.{List, [], ◌∷◌, ◌++◌}
use mathlib.Core.Bool.{Bool, true, false, not, ◌&&◌, ◌||◌, or_assoc}
use lib.Dec.{eqb}
use borrow.Author.Tests.{not-true}
use Rattle.lexemes.specs.Classes.{BAD}
use Rattle.ll1.specs.Trees.{Token, token, Trees, leaves, Symbol, terminal, nonterminal, Fits, fits_nil, fits_leaf, fits_node}
use Rattle.ll1.proofs.Basics.{both}
use Rattle.grammar.specs.Grammar.{rules}
use Rattle.grammar.proofs.Alternatives.{everywhere, at_alternative}
use Rattle.grammar.proofs.SourceTokens.{has_bad}

-- no symbol takes a bad token
abbrev no_bad : List Symbol → Bool
no_bad [] = true
no_bad (terminal k ∷ σ) = not (eqb k BAD) && no_bad σ
no_bad (nonterminal A ∷ σ) = no_bad σ

no_bad_anywhere : everywhere (λ A i a. no_bad a.symbols) ≡ true
unfolding rules
no_bad_anywhere = refl

bad_append : (us ts : List Token) → has_bad (us ++ ts) ≡ has_bad us || has_bad ts
bad_append [] ts = refl
bad_append (token k p ∷ us) ts = rw (bad_append us ts, or_assoc)

pub no_bad_leaf : {σ : List Symbol} {f : Trees} → Fits rules σ f → no_bad σ ≡ true → has_bad (leaves f) ≡ false
no_bad_leaf fits_nil n = refl
no_bad_leaf (fits_leaf {k = k} {σ = σ} r) n = let w = both (not (eqb k BAD)) (no_bad σ) n in rw (not-true (eqb k BAD) w.0) (no_bad_leaf r w.1)
no_bad_leaf (fits_node {c = c} {f = f} e r₁ r₂) n = rw (bad_append (leaves c) (leaves f), no_bad_leaf r₁ (at_alternative _ no_bad_anywhere e)) (no_bad_leaf r₂ n)
