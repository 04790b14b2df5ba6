-- The verdict on a source's tokens, and their derivation, as functions.
-- Assumes nothing.
use Rattle.std.specs.Prelude.{List, [], ◌∷◌}
use Rattle.std.proofs.Math.Option.{Option}
use Rattle.ll1.specs.Trees.{Token, Trees, nonterminal, depth}
use Rattle.ll1.specs.Verdict.{Verdict}
use Rattle.ll1.specs.Machine.{Due, due, run}
use Rattle.ll1.specs.Parser as Parser
use Rattle.grammar.specs.Rules.{<source>}
use Rattle.grammar.specs.Grammar.{rules}
use Rattle.grammar.specs.Lookahead.{lookahead}
use Rattle.grammar.specs.Derivation.{too_deep}

-- the verdict on the tokens where the symbols σ are due
unfoldable pub verdict_from : List Due → List Token → Verdict
verdict_from σ ts = run too_deep rules lookahead σ ts

-- the verdict on a source's tokens
abbrev pub verdict : List Token → Verdict
verdict ts = verdict_from (due (depth 0 0) (nonterminal <source>) ∷ []) ts

-- the derivation of a source's tokens, if there is one
unfoldable pub derivation : List Token → Option Trees
derivation ts = Parser.derivation rules lookahead ts
