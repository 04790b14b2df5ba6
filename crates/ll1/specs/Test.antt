-- The test that a grammar is LL(1) and that a parse table is its own. It is computed, once for a grammar.
-- Assumes nothing.
use Rattle.std.specs.Prelude.{List, [], ◌∷◌, ◌++◌, Bool, true, false, ◌&&◌, ◌||◌, not, ℕ, zero, suc, eqb, ltb, length, get_or}
use Rattle.std.proofs.Math.Option.{Option, none, some}
use Rattle.std.proofs.Math.ListN.{get_elem?}
use Rattle.ll1.specs.Trees.{token, Trees, nil, leaf, node, Symbol, terminal, nonterminal, Alternative, Grammar}
use Rattle.ll1.specs.ParseTable.{ParseTable, Entry, entry_of, member, find, starts_empty, nullable}
use Rattle.ll1.specs.Machine.{all_nullable}

-- ---- tests over lists

module _ {A : Type 0} where
  abbrev pub all : (A → Bool) → List A → Bool
  all p [] = true
  all p (x ∷ l) = p x && all p l

  -- the test is told the element's place
  abbrev pub all_at : (ℕ → A → Bool) → List A → Bool
  all_at p [] = true
  all_at p (x ∷ l) = p 0 x && all_at (λ i. p (suc i)) l

-- two lists, element by element; they are of one length
module _ {A B : Type 0} (p : A → B → Bool) where
  abbrev pub all_pairs : List A → List B → Bool
  all_pairs [] [] = true
  all_pairs [] (y ∷ l) = false
  all_pairs (x ∷ k) [] = false
  all_pairs (x ∷ k) (y ∷ l) = p x y && all_pairs k l

abbrev pub subset : List ℕ → List ℕ → Bool
subset k l = all (λ x. member x l) k

abbrev pub joined : List (List ℕ) → List ℕ
joined [] = []
joined (f ∷ l) = f ++ joined l

abbrev pub keep_if : Bool → List ℕ → List ℕ
keep_if true l = l
keep_if false l = []

abbrev pub is_some : {A : Type 0} → Option A → Bool
is_some none = false
is_some (some a) = true

abbrev pub is_place : Option ℕ → ℕ → Bool
is_place none i = false
is_place (some j) i = eqb j i

abbrev pub is_nil : List Symbol → Bool
is_nil [] = true
is_nil (x ∷ α) = false

-- ---- the test

module _ (G : Grammar) (P : ParseTable) where
  -- the classes that a text of these symbols can start with
  abbrev pub first_of : List Symbol → List ℕ
  first_of [] = []
  first_of (terminal k ∷ α) = k ∷ []
  first_of (nonterminal A ∷ α) = joined (entry_of P A).firsts ++ keep_if (nullable G A) (first_of α)

  -- each rule among the symbols is in the table, and what can come after it is in its FOLLOW set; w can come after them all
  abbrev pub follows? : List ℕ → List Symbol → Bool
  follows? w [] = true
  follows? w (terminal k ∷ α) = follows? w α
  follows? w (nonterminal B ∷ α) =
      ltb B (length G)
      && (subset (first_of α) (entry_of P B).follow
      && ((not (all_nullable G α) || subset w (entry_of P B).follow)
      && follows? w α))

  -- each rule that can stand first ranks below r
  abbrev pub ranks? : ℕ → List Symbol → Bool
  ranks? r [] = true
  ranks? r (terminal k ∷ α) = true
  ranks? r (nonterminal B ∷ α) = ltb (entry_of P B).rank r && (not (nullable G B) || ranks? r α)

  -- alternative i of a rule: the classes that it can start with, and no others, tell it; it may be absent only if it is the empty
  -- first alternative; and the rules in it follow and rank as they should
  abbrev pub alternative? : List Alternative → Entry → ℕ → Alternative → Bool
  alternative? l h i a =
      all (λ k. is_place (find h.firsts k) i) (first_of a.symbols)
      && (subset (get_or h.firsts i []) (first_of a.symbols)
      && ((not (all_nullable G a.symbols) || (eqb i 0 && (is_nil a.symbols && starts_empty l)))
      && (follows? h.follow a.symbols && ranks? h.rank a.symbols)))

  -- a rule: its alternatives; if it may be absent, what can come after it tells no alternative; and its rank
  abbrev pub rule? : List Alternative → Entry → Bool
  rule? l h =
      all_at (alternative? l h) l
      && ((not (starts_empty l) || all (λ k. not (is_some (find h.firsts k))) h.follow)
      && ltb h.rank (length G))

  -- ---- each rule has a text

  -- trees of the symbols; `go` gives those under a node
  abbrev pub trees_by : (ℕ → Option Trees) → List Symbol → Option Trees
  trees_by go [] = some nil
  trees_by go (terminal k ∷ α) = elim (trees_by go α) [ none ↦ none | some f ↦ some (leaf (token k 0) f) ]
  trees_by go (nonterminal A ∷ α) =
      elim (go A) [
        | none ↦ none
        | some c ↦ elim (trees_by go α) [ none ↦ none | some f ↦ some (node A (entry_of P A).shortest c f) ]
      ]

  abbrev pub trees_of : (ℕ → Option Trees) → Option Alternative → Option Trees
  trees_of go none = none
  trees_of go (some a) = trees_by go a.symbols

  -- the trees under a node of rule A, at most n nodes high
  abbrev pub short_trees : ℕ → ℕ → Option Trees
  short_trees zero A = none
  short_trees (suc n) A = trees_of (short_trees n) (get_elem? (get_or G A []) (entry_of P A).shortest)

  abbrev pub finishes? : List Alternative → Entry → Bool
  finishes? l h = is_some (trees_of (short_trees (length G)) (get_elem? l h.shortest))

  -- the grammar is LL(1) and P its parse table
  unfoldable pub ll1? : Bool
  ll1? = ltb 0 (length G) && (all_pairs rule? G P && all_pairs finishes? G P)
