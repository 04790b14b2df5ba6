-- A form set's rules, whose expressions refer to one another, and what they are worth (document 02, W-202).
-- Assumes nothing.
use Rattle.std.specs.Prelude.{◌≡◌, true, List, [], ◌∷◌, ◌++◌, map, ℕ, zero, suc, ◌≤◌, ◌<◌, length, get_or}
use Rattle.numbers.specs.Numbers.{mem}
use Rattle.circles.specs.Circles.{Step}
use Rattle.operators.specs.declared.Scalar.{Scalar}
use Rattle.operators.specs.declared.Scalar.TheVariants.{Undefined}
use Rattle.answers.specs.Expression.{undefined'}
use Rattle.formulas.specs.Formula.{Formula, f_constant}
use Rattle.meaning.specs.Meaning.{meaning}
use Rattle.meaning.specs.References.{references}

-- ---- rules and their steps

-- the expression of the rule of number n: "rules count from 1" (document 01, Rows); UNDEFINED where there is none
unfoldable pub rule_at : List Formula → ℕ → Formula
rule_at rules zero = f_constant undefined'
rule_at rules (suc n) = get_or rules n (f_constant undefined')

-- the steps of the rules from number n on: from each to every rule that its expression refers to, in source order
unfoldable pub steps_from : ℕ → List Formula → List Step
steps_from n [] = []
steps_from n (e ∷ rules) = map (λ m. record { from = n; to = m }) (references e) ++ steps_from (suc n) rules

abbrev pub steps : List Formula → List Step
steps = steps_from 1

-- what stages 10 and 11 leave of a form set's rules: there is no 256th, and every reference finds one of them
pub record RuleSet (rules : List Formula) : Type 0 where
  pub few : length rules < 256
  pub found : (n m : ℕ) → mem m (references (rule_at rules n)) ≡ true → (0 < m) × (m ≤ length rules)

-- ---- their values

module _ (rules : List Formula) (questions : ℕ → Scalar) where
  -- found in rounds: at first all are undefined, and each round finds every rule's value by those of the round before
  unfoldable pub rounds : ℕ → ℕ → Scalar
  rounds zero n = Undefined
  rounds (suc k) n = meaning questions (rounds k) (rule_at rules n)

  -- what the rule of number n is worth: without circles more rounds than there are rules change nothing (proofs/Theorems, `worth_only`)
  unfoldable pub worth : ℕ → Scalar
  worth n = rounds (suc (length rules)) n

  -- every rule is worth what its expression means, by the questions' answers and these very values
  pub record Solves (values : ℕ → Scalar) : Type 0 where
    pub solved : (n : ℕ) → values n ≡ meaning questions values (rule_at rules n)

  -- there are such values, and no others
  pub record OneSolution : Type 0 where
    pub values : ℕ → Scalar
    pub solves : Solves values
    pub only : (others : ℕ → Scalar) → Solves others → (n : ℕ) → others n ≡ values n
