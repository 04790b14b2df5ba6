-- The rules of a form set (document 01, Grammar: `rule` NAME `,` expression `endrule ;`), as `meaning` speaks of them (document 02, W-202).
-- Assumes nothing.
use Rattle.std.specs.Prelude.{ℕ, true, false, List, [], ◌∷◌, ◌++◌, eqb}
use Rattle.ll1.specs.Trees.{Trees, nil, leaf, node}
use Rattle.grammar.specs.Rules.{<rule>}
use Rattle.grammar.specs.Parts.{child}
use Rattle.grammar.specs.Positions.{rule_expression}
use Rattle.answers.specs.Expression.{expression}
use Rattle.answers.specs.Stages.{finished}
use Rattle.answers.specs.Answer.{drafts}
use Rattle.answers.specs.Text.{row_first_at}
use Rattle.formulas.specs.Formula.{Formula, formula}

-- the finished row of a place tells what a number or a reference there is
module _ (look : ℕ → List ℕ) where
  -- the expression of a tree of the rule A over the trees c, if it is a `rule`
  abbrev pub rule_in : ℕ → Trees → List Formula
  rule_in A c = elim (eqb A <rule>) [ true ↦ formula look (expression (child rule_expression c)) ∷ [] | false ↦ [] ]

  -- the expressions of the rules among trees, in source order: "rules count from 1" (document 01, Rows)
  unfoldable pub rules_of : Trees → List Formula
  rules_of nil = []
  rules_of (leaf t f) = rules_of f
  rules_of (node A i c f) = rule_in A c ++ (rules_of c ++ rules_of f)

-- the rules of a source with its derivation
abbrev pub source_rules : List ℕ → Trees → List Formula
source_rules s tree = rules_of (row_first_at (finished s (drafts s tree))) tree
