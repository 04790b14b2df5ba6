-- What is said of trees that were read: their draft rows, and how many rules they count.
-- Assumes nothing.
use Rattle.std.specs.Prelude.{ℕ, ◌+◌, ◌≤◌, ◌<◌, ◌≡◌, List, [], ◌∷◌, ◌++◌, eqb, length}
use Rattle.ll1.specs.Trees.{Token, token, Trees, nil, leaf, node, leaves}
use Rattle.grammar.specs.Rules.{<rule>}
use Rattle.grammar.specs.Source.{number_at}
use Rattle.answers.specs.Expression.{Expression, nothing, spelled}
use Rattle.answers.specs.Rows.{Draft, rules_in, expression_rows, own_rows, drafts_of}
use Rattle.grammar.specs.Parts.{when}
use Rattle.elements.specs.Entries.{entries}
use Rattle.fields.specs.Phrases.{kept, phrase_draft, rule_draft}
use Rattle.fields.specs.Words.{word_draft}

-- trees, and then those beside them
infixr 5 ◌⧺◌
unfoldable pub ◌⧺◌ : Trees → Trees → Trees
nil ⧺ g = g
leaf t f ⧺ g = leaf t (f ⧺ g)
node A i c f ⧺ g = node A i c (f ⧺ g)

-- class and place of the first of some tokens
abbrev pub first_class : List Token → ℕ
first_class [] = 0
first_class (token k p ∷ l) = k

abbrev pub first_place : List Token → ℕ
first_place [] = 0
first_place (token k p ∷ l) = p

-- what a phrase of these trees keeps
unfoldable pub kept_of : Trees → ℕ → ℕ
kept_of f = kept (entries f)

-- a meaning: the number of the next row, the rules before it; the trees, their rows, the rules that they count
abbrev pub Meaning : Type 1
Meaning = ℕ → ℕ → Trees → List Draft → ℕ → Type 0

-- each row has a token of its own, and each rule a row
pub record Counted (M : Meaning) (at n : ℕ) (f : Trees) (ds : List Draft) (k : ℕ) : Type 0 where
  pub means : M at n f ds k
  pub few : length ds ≤ length (leaves f)
  pub fewer : k ≤ length ds

-- no row
pub record Silent (at n : ℕ) (f : Trees) (ds : List Draft) (k : ℕ) : Type 0 where
  pub no_rows : ds ≡ []
  pub no_rules : k ≡ 0

module _ (s : List ℕ) where
  -- ---- statements

  unfoldable pub rows_in : Trees → ℕ → ℕ → ℕ → List Draft
  rows_in f parent at n = drafts_of (number_at s) f parent at n

  unfoldable pub rows_own : ℕ → ℕ → ℕ → ℕ → ℕ → Trees → List Draft
  rows_own parent at n A i c = own_rows (number_at s) parent at n A i c

  -- the rows of the trees under a parent
  pub record Under (parent at n : ℕ) (f : Trees) (ds : List Draft) (k : ℕ) : Type 0 where
    pub rows : ds ≡ rows_in f parent at n
    pub rules : k ≡ rules_in f

  -- the own rows of a tree of rule A that takes alternative i and starts so
  pub record Opening (A i parent at n : ℕ) (f : Trees) (ds : List Draft) (k : ℕ) : Type 0 where
    pub rows : (g : Trees) → ds ≡ rows_own parent at n A i (f ⧺ g)
    pub some : 0 < length ds
    pub rules : k ≡ when (eqb A <rule>) 1

  -- ---- phrases and words

  -- the row of a phrase
  unfoldable pub phrase_row : ℕ → Trees → Draft
  phrase_row parent f = phrase_draft (number_at s) (first_class (leaves f)) parent (first_place (leaves f)) (kept_of f)

  pub record Rowed (parent at n : ℕ) (f : Trees) (ds : List Draft) (k : ℕ) : Type 0 where
    pub row : ds ≡ phrase_row parent f ∷ []
    pub no_rules : k ≡ 0

  -- the row of a rule, from its word, name and comma
  pub record RuleRow (parent at n : ℕ) (f : Trees) (ds : List Draft) (k : ℕ) : Type 0 where
    pub row : ds ≡ rule_draft parent (first_place (leaves f)) (n + 1) (kept_of f 0) ∷ []
    pub one : k ≡ 1

  -- the row of a word
  pub record Worded (parent at n : ℕ) (f : Trees) (ds : List Draft) (k : ℕ) : Type 0 where
    pub row : ds ≡ word_draft (first_class (leaves f)) parent (first_place (leaves f)) ∷ []
    pub no_rules : k ≡ 0

  -- ---- expressions

  unfoldable pub rows_for : ℕ → Expression → List Draft
  rows_for parent e = expression_rows (number_at s) parent e

  -- an operand
  pub record OperandRows (parent at n : ℕ) (f : Trees) (ds : List Draft) (k : ℕ) : Type 0 where
    pub expr : Expression
    pub spells : (left : Expression) → spelled left nothing f ≡ expr
    pub rows : ds ≡ rows_for parent expr
    pub no_rules : k ≡ 0

  -- operators and operands after the first operand
  pub record Tailing (parent at n : ℕ) (f : Trees) (ds : List Draft) (k : ℕ) : Type 0 where
    pub rows : (left : Expression) → rows_for parent left ++ ds ≡ rows_for parent (spelled left nothing f)
    pub no_rules : k ≡ 0
