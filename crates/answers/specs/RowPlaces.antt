-- Places of rows and of expressions (document 01, Rows: a row's place).
-- Assumes nothing.
use Rattle.std.specs.Prelude.{List, [], ◌∷◌, ◌++◌, map, cond, ℕ, eqb, ltb}
use Rattle.rows.specs.Columns as column
use Rattle.ll1.specs.Trees.{Trees, nil, leaf, node}
use Rattle.grammar.specs.Rules.{<rule>, <item>, <option>, <form>, <source>}
use Rattle.grammar.specs.Parts.{child, place_at}
use Rattle.grammar.specs.Positions.{condition_expression, rule_expression}
use Rattle.answers.specs.Rows.{Draft}
use Rattle.answers.specs.Stages.{cell}
use Rattle.answers.specs.Expression.{Expression, number, constant, question_named, question_numbered, rule_named, negation, binary, expression}

-- of rows: "the place of the first token; of an operator, the operator itself"
abbrev pub row_places : List Draft → List ℕ
row_places ds = map (cell column.PLACE) ds

-- of an expression, operands before operator
abbrev pub expression_places : Expression → List ℕ
expression_places (number p) = p ∷ []
expression_places (constant c p) = p ∷ []
expression_places (question_named p q) = p ∷ []
expression_places (question_numbered p q) = p ∷ []
expression_places (rule_named p q) = p ∷ []
expression_places (negation p e) = expression_places e ++ p ∷ []
expression_places (binary o p l r) = expression_places l ++ (expression_places r ++ p ∷ [])

-- of the own rows of a node of rule A that takes alternative i over the trees c: a statement's first word, and then its expression
unfoldable pub own_places : ℕ → ℕ → Trees → List ℕ
own_places A i c =
    let first = place_at 0 c in
    cond (eqb A <item>) (first ∷ cond (ltb 6 i) (expression_places (expression (child condition_expression c))) [])
    (cond (eqb A <option>) (first ∷ [])
    (cond (eqb A <rule>) (first ∷ expression_places (expression (child rule_expression c)))
    (cond (eqb A <form>) (first ∷ [])
    (cond (eqb A <source>) (first ∷ []) []))))

-- of the rows of trees
unfoldable pub tree_places : Trees → List ℕ
tree_places nil = []
tree_places (leaf t f) = tree_places f
tree_places (node A i c f) = (own_places A i c ++ tree_places c) ++ tree_places f
