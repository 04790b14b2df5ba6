-- What every grammar that passes the test gets: its verdict is right, and the only right one; no text has two derivations;
-- and the function `derivation` finds the one that there is.
-- Assumes nothing.
use mathlib.Core.Path.{◌≡◌, ap, sym, ◌∙◌, subst}
use mathlib.Core.List.{List, [], ◌++◌}
use mathlib.Core.Option.{some}
use mathlib.Core.Bool.{Bool, true}
use mathlib.Core.Logic.{◌↔◌}
use Rattle.ll1.specs.Trees.{Token, Trees, Grammar, Depth}
use Rattle.ll1.specs.Verdict.{Verdict, accepted, Derivation, Accepted, Says, is_text}
use Rattle.ll1.specs.ParseTable.{ParseTable}
use Rattle.ll1.specs.Machine.{verdict}
use Rattle.ll1.specs.Parser.{derivation}
use Rattle.ll1.specs.Test.{ll1?}
use Rattle.ll1.proofs.Ll1.{Ll1, separated_whole}
use Rattle.ll1.proofs.Tested as Tested
use Rattle.ll1.proofs.Unique.{unique}
use Rattle.ll1.proofs.Parsed as Parsed
use Rattle.ll1.proofs.Verdicts as Verdicts

module _ (G : Grammar) (P : ParseTable) (passes : ll1? G P ≡ true) where
  -- the facts behind the theorems, for the equations of `Equations`
  pub ll1 : Ll1 G P
  ll1 = Tested.ll1 G P passes

  -- no list of tokens has two derivations
  pub one_derivation : (ts : List Token) (f g : Trees) → Derivation G ts f → Derivation G ts g → f ≡ g
  one_derivation ts f g p q = (unique G P ll1 [] [] [] p.fits q.fits (ap (λ l. l ++ []) (p.reads ∙ sym q.reads)) (separated_whole G P ll1) tt tt).0

  -- the function finds the derivation, and nothing else
  pub derivation_exactly : (ts : List Token) (f : Trees) → (derivation G P ts ≡ some f) ↔ Derivation G ts f
  derivation_exactly ts f = (Parsed.derivation_derives G P ts f, Parsed.derivation_found G P ll1 ts f)

  module _ (too_deep : Depth → Bool) where
    -- the verdict says what is so
    pub verdict_right : (ts : List Token) → Says too_deep G ts (verdict too_deep G P ts)
    verdict_right = Verdicts.verdict_right too_deep G P ll1

    -- and no other verdict does
    pub verdict_only : (ts : List Token) (v : Verdict) → Says too_deep G ts v → verdict too_deep G P ts ≡ v
    verdict_only = Verdicts.verdict_only too_deep G P ll1

    text_of : {ts : List Token} → Says too_deep G ts accepted → Accepted too_deep G ts
    text_of (is_text a) = a

    -- accepted exactly when there is a derivation that is nowhere too deep
    pub accepted_exactly : (ts : List Token) → (verdict too_deep G P ts ≡ accepted) ↔ Accepted too_deep G ts
    accepted_exactly ts = (λ e. text_of (subst (λ v. Says too_deep G ts v) e (verdict_right ts)), λ a. verdict_only ts accepted (is_text a))
