-- Rules that each rank above those that they refer to, and no higher than there are rules: their values are found in rounds, and there are no others.
-- Assumes nothing.
use Prim.Native.Nat.{ℕ, zero, suc, ◌≤◌, ◌<◌}
use native.Mathlib.Omega.{arith}
use mathlib.Core.Path.{◌≡◌, refl, sym, ◌∙◌}
use mathlib.Core.Bool.{true}
use mathlib.Core.List.{List}
use lib.ListN.{length}
use Rattle.numbers.specs.Numbers.{mem}
use Rattle.operators.specs.declared.Scalar.{Scalar}
use Rattle.formulas.specs.Formula.{Formula}
use Rattle.meaning.specs.References.{references}
use Rattle.meaning.specs.Rules.{rule_at, rounds, worth, Solves}
use Rattle.meaning.proofs.Named.{meaning_named}

module _ (rules : List Formula) (questions : ℕ → Scalar)
    (rank : ℕ → ℕ) (falls : (n m : ℕ) → mem m (references (rule_at rules n)) ≡ true → rank m < rank n) where
  -- more rounds than a rule's rank change nothing
  steady : (j k n : ℕ) → rank n < j → rank n < k → rounds rules questions j n ≡ rounds rules questions k n
  unfolding rounds
  steady zero k n a b = absurd (omega arith)
  steady (suc j) zero n a b = absurd (omega arith)
  steady (suc j) (suc k) n a b =
      meaning_named (rule_at rules n) (λ m e. refl) (λ m e. steady j k m (omega (arith, falls n m e)) (omega (arith, falls n m e)))

  pub worth_solves : ((n : ℕ) → rank n ≤ length rules) → Solves rules questions (worth rules questions)
  unfolding worth rounds
  worth_solves low =
      record {
        solved = λ n.
            meaning_named (rule_at rules n) (λ m e. refl)
            (λ m e. steady (length rules) (suc (length rules)) m (omega (arith, falls n m e, low n)) (omega (arith, low m)));
      }

  -- two solutions are the same up to any rank
  alike : {r s : ℕ → Scalar} → Solves rules questions r → Solves rules questions s → (k n : ℕ) → rank n < k → r n ≡ s n
  alike a b zero n h = absurd (omega arith)
  alike a b (suc k) n h =
      a.solved n
      ∙ meaning_named (rule_at rules n) (λ m e. refl) (λ m e. alike a b k m (omega (arith, falls n m e)))
      ∙ sym (b.solved n)

  pub solved_once : {r s : ℕ → Scalar} → Solves rules questions r → Solves rules questions s → (n : ℕ) → r n ≡ s n
  solved_once a b n = alike a b (suc (rank n)) n (omega arith)
