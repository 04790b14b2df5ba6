-- The statements that trees derive (document 01, Grammar), and the codes of their rows (Rows).
-- Assumes nothing.
use Rattle.std.specs.Prelude.{ℕ, Bool, true, false, List, [], ◌∷◌, eqb, ltb, get_or}
use Rattle.rows.specs.Codes as code
use Rattle.ll1.specs.Trees.{Trees, nil, leaf, node}
use Rattle.ll1.specs.ParseTable.{member}
use Rattle.grammar.specs.Rules.{<form>, <rule>, <item>, <option>}
use Rattle.grammar.specs.Parts.{child, place_at}
use Rattle.answers.specs.Expression.{expression}
use Rattle.laid.specs.Items.{Inner, plain, expressed, Items, done, item}

-- a tree of the rule A is a statement that stands in another
abbrev pub makes_row : ℕ → Bool
makes_row A = member A (<item> ∷ <option> ∷ <rule> ∷ <form> ∷ [])

-- the items' codes, in the order of the grammar's alternatives
unfoldable pub item_codes : List ℕ
item_codes =
    code.SUBTITLE
    ∷ code.TEXT
    ∷ code.LABEL
    ∷ code.GOTO
    ∷ code.CHECKBOX
    ∷ code.NUMERIC
    ∷ code.ONE_OF
    ∷ code.SUPPRESS_IF
    ∷ code.GRAY_OUT_IF
    ∷ code.DISABLE_IF
    ∷ []

-- the code of such a statement, of the rule A and the alternative i
unfoldable pub code_of : ℕ → ℕ → ℕ
code_of A i =
    elim (eqb A <item>) [
      | true ↦ get_or item_codes i 0
      | false ↦
          elim (eqb A <option>) [
            | true ↦ code.OPTION
            | false ↦ elim (eqb A <rule>) [ true ↦ code.RULE | false ↦ code.FORM ]
          ]
    ]

-- the expression of a rule, and of the last three alternatives of an item
abbrev pub inner_of : ℕ → ℕ → Trees → Inner
inner_of A i c =
    elim (eqb A <item>) [
      | true ↦ elim (ltb 6 i) [ true ↦ expressed (expression (child 1 c)) | false ↦ plain ]
      | false ↦ elim (eqb A <rule>) [ true ↦ expressed (expression (child 3 c)) | false ↦ plain ]
    ]

-- the statements of trees, and then others
unfoldable pub items_of : Trees → Items → Items
items_of nil z = z
items_of (leaf t f) z = items_of f z
items_of (node A i c f) z =
    elim (makes_row A) [
      | true ↦ item (place_at 0 c) (inner_of A i c) (items_of c done) (items_of f z)
      | false ↦ items_of c (items_of f z)
    ]
