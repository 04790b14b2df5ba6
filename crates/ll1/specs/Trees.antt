-- Trees, grammars as tables, which trees fit which symbols, and how deep each leaf stands. Nothing here knows how a text is read.
-- Assumes nothing.
use Rattle.std.specs.Prelude.{◌≡◌, List, [], ◌∷◌, ◌++◌, ℕ, suc, get_or}
use Rattle.std.proofs.Math.Option.{Option, none, some}
use Rattle.std.proofs.Math.ListN.{get_elem?}

-- ---- trees

-- a token as the grammar sees it: its class and its place in the source
pub data Token : Type 0 where
  token : (class place : ℕ) → Token

-- trees side by side: none; a leaf and the trees beside it; or a node and the trees beside it.
-- A node has a rule, the alternative that it takes of that rule, and the trees under it.
pub data Trees : Type 0 where
  nil : Trees
  leaf : Token → (beside : Trees) → Trees
  node : (rule alternative : ℕ) (under beside : Trees) → Trees

-- the leaves, from left to right
abbrev pub leaves : Trees → List Token
leaves nil = []
leaves (leaf t f) = t ∷ leaves f
leaves (node A i c f) = leaves c ++ leaves f

-- ---- grammars

-- a symbol: a token of a class, or a tree of a rule
pub data Symbol : Type 0 where
  terminal nonterminal : ℕ → Symbol

-- what an alternative opens: nothing, a condition, or a group (a grouping parenthesis or a `NOT`)
pub data Opens : Type 0 where
  nothing a_condition a_group : Opens

-- an alternative of a rule: what it opens, and its symbols in order
pub record Alternative : Type 0 where
  pub opens : Opens
  pub symbols : List Symbol

-- a grammar is a table: the alternatives of rule 0, of rule 1, and so on; rule 0 is the one for a whole text
abbrev pub Grammar : Type 0
Grammar = List (List Alternative)

-- alternative i of rule A, if the table has it
abbrev pub alternative_of : Grammar → ℕ → ℕ → Option Alternative
alternative_of G A i = get_elem? (get_or G A []) i

module _ (G : Grammar) where
  -- the trees fit the symbols, one for one: a leaf its class, a node its rule, and the trees under a node the alternative that it takes
  pub data Fits : List Symbol → Trees → Type 0 where
    fits_nil : Fits [] nil
    fits_leaf : {k p : ℕ} {σ : List Symbol} {f : Trees} → Fits σ f → Fits (terminal k ∷ σ) (leaf (token k p) f)
    fits_node :
        {A i : ℕ} {a : Alternative} {σ : List Symbol} {c f : Trees}
        → alternative_of G A i ≡ some a → Fits a.symbols c → Fits σ f → Fits (nonterminal A ∷ σ) (node A i c f)

-- ---- depths

-- how many conditions and how many groups are open (document 01, Depths)
pub data Depth : Type 0 where
  depth : (conditions groups : ℕ) → Depth

abbrev pub deeper : Depth → Opens → Depth
deeper d nothing = d
deeper (depth c g) a_condition = depth (suc c) g
deeper (depth c g) a_group = depth c (suc g)

-- what an alternative opens, if the table has it
abbrev pub opening : Option Alternative → Opens
opening none = nothing
opening (some a) = a.opens

-- the depth of each leaf, of trees that stand at depth d: all that is under a node is as deep as its alternative opens
abbrev pub depths : Grammar → Depth → Trees → List Depth
depths G d nil = []
depths G d (leaf t f) = d ∷ depths G d f
depths G d (node A i c f) = depths G (deeper d (opening (alternative_of G A i))) c ++ depths G d f
