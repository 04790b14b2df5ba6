-- The rules of a form set without circles have values, found in rounds, and no others; with a circle they may have many.
-- Assumes nothing.
use Prim.Native.Nat.{ℕ, zero, suc, ◌≤◌, ◌<◌, min}
use native.Mathlib.Omega.{arith}
use mathlib.Core.Path.{◌≡◌, refl, sym, ◌∙◌}
use mathlib.Core.Bool.{true, false, true≢false, or-false}
use mathlib.Core.List.{List, [], ◌∷◌}
use borrow.Author.Tests.{eqb-true}
use lib.Dec.{eqb}
use lib.ListN.{length}
use Rattle.numbers.specs.Numbers.{mem}
use Rattle.circles.specs.Circles.{leads, NoCircle}
use Rattle.ranks.specs.Ranks.{rank}
use Rattle.ranks.proofs.Ranks.{rank_falls, rank_low}
use Rattle.operators.specs.declared.Scalar.{Scalar}
use Rattle.operators.specs.declared.Scalar.TheVariants.{Boolean, Number, Undefined}
use Rattle.operators.specs.Values.{negated, found, constants}
use Rattle.formulas.specs.Formula.{Formula, f_rule, f_not}
use Rattle.meaning.specs.Meaning.{meaning}
use Rattle.meaning.specs.References.{references}
use Rattle.meaning.specs.Rules.{rule_at, steps, RuleSet, worth, Solves, OneSolution}
use Rattle.meaning.proofs.Steps.{steps_lead, steps_within}
use Rattle.meaning.proofs.Rounds.{worth_solves, solved_once}
-- an expression's meaning depends only on the questions and the rules that it refers to
pub use Rattle.meaning.proofs.Named.{meaning_named}

module _ (rules : List Formula) (set : RuleSet rules) (free : NoCircle (steps rules)) where
  -- how many rules a rule reaches, no more than there are
  abbrev low : ℕ → ℕ
  low n = min (rank (steps rules) (length rules) n) (length rules)

  low_falls : (n m : ℕ) → mem m (references (rule_at rules n)) ≡ true → low m < low n
  low_falls n m e =
      let step : leads (steps rules) n m ≡ true = steps_lead rules n m ∙ e in
      let rule = (steps_within set).to n m step in
      omega (
        arith,
        rank_falls (steps rules) (length rules) (steps_within set) free n m step,
        rank_low (steps rules) (length rules) (steps_within set) free m rule.0 rule.1,
      )

  module _ (questions : ℕ → Scalar) where
    -- whatever the questions answer, what the rules of a form set without circles are worth solves their equations, and nothing else does
    pub worth_only :
        Solves rules questions (worth rules questions)
        × ((others : ℕ → Scalar) → Solves rules questions others → (n : ℕ) → others n ≡ worth rules questions n)
    worth_only =
        let solves = worth_solves rules questions low low_falls (λ n. omega arith) in
        (solves, λ others o. solved_once rules questions low low_falls o solves)

    -- so they are worth one value each
    pub rules_solved : OneSolution rules questions
    rules_solved = record { values = worth rules questions; solves = worth_only.0; only = worth_only.1 }

-- ---- why circles are refused (W-202, refusal 14)

-- `rule A, ruleref(A) endrule;`
abbrev itself : List Formula
itself = f_rule 1 ∷ []

-- rule 1 is worth v, and there is no other
abbrev first : Scalar → ℕ → Scalar
first v zero = Undefined
first v (suc zero) = v
first v (suc (suc n)) = Undefined

itself_set : RuleSet itself
unfolding rule_at references mem
itself_set = record { few = omega arith; found = found_one }
  where
    found_one : (n m : ℕ) → mem m (references (rule_at itself n)) ≡ true → (0 < m) × (m ≤ 1)
    found_one zero m e = absurd (true≢false (sym e))
    found_one (suc zero) m e = let i : m ≡ 1 = eqb-true m 1 (sym (or-false (eqb m 1)) ∙ e) in (omega arith, omega arith)
    found_one (suc (suc n)) m e = absurd (true≢false (sym e))

module _ (questions : ℕ → Scalar) where
  -- any value whatever solves it
  pub circle_many : (v : Scalar) → Solves itself questions (first v)
  unfolding meaning rule_at found constants
  circle_many v = record { solved = each }
    where
      each : (n : ℕ) → first v n ≡ meaning questions (first v) (rule_at itself n)
      each zero = refl
      each (suc zero) = refl
      each (suc (suc n)) = refl

  -- `rule A, NOT ruleref(A) endrule;`: nothing but undefined solves it
  pub circle_undefined : (values : ℕ → Scalar) → Solves (f_not (f_rule 1) ∷ []) questions values → values 1 ≡ Undefined
  unfolding meaning rule_at negated
  circle_undefined values s = go (values 1) (s.solved 1)
    where
      go : (v : Scalar) → v ≡ negated v → v ≡ Undefined
      go (Boolean true) e = cc
      go (Boolean false) e = cc
      go (Number n) e = e
      go Undefined e = refl

-- so stages 10 and 11 do not suffice: without `NoCircle`, `rules_solved` would be false
pub circle_not_solved : ((rules : List Formula) → RuleSet rules → (questions : ℕ → Scalar) → OneSolution rules questions) → ⊥
circle_not_solved all =
    let one = all itself itself_set (λ n. Undefined) in
    let worth : (v : Scalar) → v ≡ one.values 1 = λ v. one.only (first v) (circle_many (λ n. Undefined) v) 1 in
    let both : Boolean true ≡ Boolean false = worth (Boolean true) ∙ sym (worth (Boolean false)) in
    true≢false cc
