-- What a derivation of a source's tokens is, how deep it may go, and what their verdict says.
-- Assumes nothing.
use Rattle.std.specs.Prelude.{List, Bool, ◌||◌, ℕ, ltb}
use Rattle.ll1.specs.Trees.{Token, Trees, Depth, depth}
use Rattle.ll1.specs.Verdict.{Verdict, Derivation, leaf_depths, Allowed, Says}
use Rattle.grammar.specs.Grammar.{rules}

-- "at most 16 conditions open at once" (document 01, Depths)
abbrev pub max_conditions : ℕ
max_conditions = 16

-- "at most 32 unfinished grouping parentheses and `NOT`s in one expression"
abbrev pub max_groups : ℕ
max_groups = 32

abbrev pub too_deep : Depth → Bool
too_deep (depth conditions groups) = ltb max_conditions conditions || ltb max_groups groups

-- the tree is a derivation of the tokens
abbrev pub Derives : List Token → Trees → Type 0
Derives ts tree = Derivation rules ts tree

-- no leaf of the tree is too deep
abbrev pub NowhereTooDeep : Trees → Type 0
NowhereTooDeep tree = Allowed too_deep (leaf_depths rules tree)

-- what a verdict on a source's tokens says
abbrev pub SourceSays : List Token → Verdict → Type 0
SourceSays ts v = Says too_deep rules ts v
