-- The verdict on a list of tokens, in terms of trees alone (document 01, Refusal numbers: No. 3 and 4).
-- Assumes nothing.
use Rattle.std.specs.Prelude.{◌≡◌, List, [], ◌∷◌, ◌++◌, Bool, true, false, ℕ, length, take, get_or}
use Rattle.ll1.specs.Trees.{Token, token, Trees, leaves, nonterminal, Grammar, Fits, Depth, depth, depths}

-- the tokens are accepted; they end early; or they are refused, with the refusal's number and the place of a token
pub data Verdict : Type 0 where
  accepted ends_early : Verdict
  refused : (number place : ℕ) → Verdict

-- a derivation is "a tree of the grammar's rules, from the one for a whole source down, whose leaves are, in order, all of a
-- source's tokens" (document 01, Grammar)
pub record Derivation (G : Grammar) (ts : List Token) (tree : Trees) : Type 0 where
  pub fits : Fits G (nonterminal 0 ∷ []) tree
  pub reads : leaves tree ≡ ts

-- the depth of each leaf of a derivation: at its root nothing is open
abbrev pub leaf_depths : Grammar → Trees → List Depth
leaf_depths G tree = depths G (depth 0 0) tree

-- none of these depths is too deep
abbrev pub Allowed : (Depth → Bool) → List Depth → Type 0
Allowed too_deep [] = Unit {0}
Allowed too_deep (d ∷ ds) = (too_deep d ≡ false) × Allowed too_deep ds

-- ---- what a verdict says, where `too_deep` tells which depths are too deep

module _ (too_deep : Depth → Bool) (G : Grammar) where
  -- the tokens have a derivation, and no leaf of it is too deep
  pub record Accepted (ts : List Token) : Type 0 where
    pub tree : Trees
    pub derives : Derivation G ts tree
    pub allowed : Allowed too_deep (leaf_depths G tree)

  -- a text of the grammar starts with the tokens u, and none of them is too deep in it
  pub record Starts (u : List Token) : Type 0 where
    pub rest : List Token
    pub tree : Trees
    pub derives : Derivation G (u ++ rest) tree
    pub allowed : Allowed too_deep (take (length u) (leaf_depths G tree))

  -- a text of the grammar starts with the tokens u and then t, none of u is too deep in it, and t is
  pub record StartsTooDeep (u : List Token) (t : Token) : Type 0 where
    pub rest : List Token
    pub tree : Trees
    pub derives : Derivation G (u ++ t ∷ rest) tree
    pub allowed : Allowed too_deep (take (length u) (leaf_depths G tree))
    pub is_too_deep : too_deep (get_or (leaf_depths G tree) (length u) (depth 0 0)) ≡ true

  pub data Says (ts : List Token) : Verdict → Type 0 where
    -- there is a derivation, nowhere too deep
    is_text : Accepted ts → Says ts accepted
    -- No. 3: "or the source ends early". A text starts with all the tokens, and they are none themselves.
    is_unfinished : Starts ts → ((tree : Trees) → Derivation G ts tree → ⊥) → Says ts ends_early
    -- No. 3: "depths aside, no text of the grammar starts with the tokens up to this one". One starts with those before it.
    no_text_starts_so :
        (before after : List Token) (class place : ℕ)
        → ts ≡ before ++ token class place ∷ after
        → Starts before
        → ((rest : List Token) (tree : Trees) → Derivation G (before ++ token class place ∷ rest) tree → ⊥)
        → Says ts (refused 3 place)
    -- No. 4: "a token that passes 3 opens a depth too many (same stage as 3)". None before it does.
    opens_too_many :
        (before after : List Token) (class place : ℕ)
        → ts ≡ before ++ token class place ∷ after
        → StartsTooDeep before (token class place)
        → Says ts (refused 4 place)
