-- The verdict where symbols of document 01's grammar are due, an equation for each thing that a reader does.
-- Assumes nothing.
use mathlib.Core.Path.{◌≡◌}
use mathlib.Core.List.{List, [], ◌∷◌, ◌++◌}
use mathlib.Core.Option.{none, some}
use mathlib.Core.Bool.{true, false}
use mathlib.Core.Logic.{◌⊎◌}
use Prim.Native.Nat.{ℕ}
use lib.Dec.{eqb}
use Rattle.ll1.specs.Trees.{Token, token, Trees, leaves, Symbol, terminal, nonterminal, Alternative, alternative_of, Fits, Depth, depths}
use Rattle.ll1.specs.Verdict.{accepted, ends_early, refused, Allowed}
use Rattle.ll1.specs.ParseTable.{predict, nullable}
use Rattle.ll1.specs.Machine.{Due, due, due_all, symbols_of, opened}
use Rattle.ll1.proofs.Ll1.{first, Separated}
use Rattle.ll1.proofs.Unique.{After}
use Rattle.ll1.proofs.Equations.{Tells, run_all, run_extra, run_take, run_deep, run_miss, run_ends, run_none, run_skip, run_skip_end, run_ends_rule, run_in, run_dead, run_enter, run_past}
use Rattle.grammar.specs.Grammar.{rules}
use Rattle.grammar.specs.Lookahead.{lookahead}
use Rattle.grammar.specs.Derivation.{too_deep}
use Rattle.grammar.specs.Reading.{verdict_from}
use Rattle.grammar.proofs.Theorems.{grammar_ll1}

-- ---- nothing is due

pub verdict_all : verdict_from [] [] ≡ accepted
unfolding verdict_from
verdict_all = run_all too_deep rules lookahead

pub verdict_extra : (k p : ℕ) (ts : List Token) → verdict_from [] (token k p ∷ ts) ≡ refused 3 p
unfolding verdict_from
verdict_extra = run_extra too_deep rules lookahead

-- ---- a token is due at depth d, and then σ

module _ (d : Depth) (σ : List Due) where
  -- it is there
  pub verdict_take :
      (k p : ℕ) (ts : List Token)
      → too_deep d ≡ false → verdict_from (due d (terminal k) ∷ σ) (token k p ∷ ts) ≡ verdict_from σ ts
  unfolding verdict_from
  verdict_take = run_take too_deep rules lookahead d σ

  -- it is there, and too deep
  pub verdict_deep :
      (k p : ℕ) (ts : List Token)
      → too_deep d ≡ true → verdict_from (due d (terminal k) ∷ σ) (token k p ∷ ts) ≡ refused 4 p
  unfolding verdict_from
  verdict_deep = run_deep too_deep rules lookahead d σ

  -- another is there
  pub verdict_miss :
      (j k p : ℕ) (ts : List Token)
      → eqb j k ≡ false → verdict_from (due d (terminal j) ∷ σ) (token k p ∷ ts) ≡ refused 3 p
  unfolding verdict_from
  verdict_miss = run_miss too_deep rules lookahead d σ

  -- the tokens end
  pub verdict_ends : (j : ℕ) → verdict_from (due d (terminal j) ∷ σ) [] ≡ ends_early
  unfolding verdict_from
  verdict_ends = run_ends too_deep rules lookahead d σ

-- ---- rule A is due at depth d, and then σ

module _ (d : Depth) (A : ℕ) (σ : List Due) where
  -- no alternative starts with the token, and the rule may not be absent
  pub verdict_none :
      (k p : ℕ) (ts : List Token)
      → predict lookahead A k ≡ none → nullable rules A ≡ false
      → verdict_from (due d (nonterminal A) ∷ σ) (token k p ∷ ts) ≡ refused 3 p
  unfolding verdict_from
  verdict_none = run_none too_deep rules lookahead d A σ

  -- no alternative starts with the token, and the rule may be absent
  pub verdict_skip :
      (k p : ℕ) (ts : List Token)
      → predict lookahead A k ≡ none → nullable rules A ≡ true
      → verdict_from (due d (nonterminal A) ∷ σ) (token k p ∷ ts) ≡ verdict_from σ (token k p ∷ ts)
  unfolding verdict_from
  verdict_skip = run_skip too_deep rules lookahead d A σ

  -- the tokens end, and the rule may be absent
  pub verdict_skip_end : nullable rules A ≡ true → verdict_from (due d (nonterminal A) ∷ σ) [] ≡ verdict_from σ []
  unfolding verdict_from
  verdict_skip_end = run_skip_end too_deep rules lookahead d A σ

  -- the tokens end, and it may not
  pub verdict_ends_rule : nullable rules A ≡ false → verdict_from (due d (nonterminal A) ∷ σ) [] ≡ ends_early
  unfolding verdict_from
  verdict_ends_rule = run_ends_rule too_deep rules lookahead d A σ

  -- the token tells alternative i
  pub verdict_in :
      (i : ℕ) (a : Alternative) (k p : ℕ) (ts : List Token)
      → predict lookahead A k ≡ some i → alternative_of rules A i ≡ some a
      → verdict_from (due d (nonterminal A) ∷ σ) (token k p ∷ ts) ≡ verdict_from (opened d a ++ σ) (token k p ∷ ts)
  unfolding verdict_from
  verdict_in i a k p ts = run_in too_deep rules lookahead grammar_ll1 d A i a σ k p ts

  -- a reader that goes into alternative i where the token tells it or no alternative, and where the tokens end
  pub verdict_enter :
      (i : ℕ) (a : Alternative) (ts : List Token)
      → nullable rules A ≡ false → alternative_of rules A i ≡ some a → Tells lookahead A i ts
      → verdict_from (due d (nonterminal A) ∷ σ) ts ≡ verdict_from (opened d a ++ σ) ts
  unfolding verdict_from
  verdict_enter i a ts = run_enter too_deep rules lookahead grammar_ll1 d A i a σ ts

  -- a reader that goes into the only alternative, whatever comes
  pub verdict_open :
      (a : Alternative) (ts : List Token)
      → nullable rules A ≡ false → alternative_of rules A 0 ≡ some a
      → ((k : ℕ) → (predict lookahead A k ≡ some 0) ⊎ (predict lookahead A k ≡ none))
      → verdict_from (due d (nonterminal A) ∷ σ) ts ≡ verdict_from (opened d a ++ σ) ts
  verdict_open a ts n e told = verdict_enter 0 a ts n e (tells ts)
    where
      tells : (ts : List Token) → Tells lookahead A 0 ts
      tells [] = tt
      tells (token k p ∷ ts) = told k

-- ---- several symbols are due

-- they cannot start with the token
pub verdict_dead :
    (σ : List Due) (k p : ℕ) (ts : List Token)
    → first rules lookahead (symbols_of σ) k ≡ false → verdict_from σ (token k p ∷ ts) ≡ refused 3 p
unfolding verdict_from
verdict_dead = run_dead too_deep rules lookahead grammar_ll1

-- trees of the symbols due at depth d, none of their leaves too deep, are read, and the rest stays
pub verdict_past :
    {α : List Symbol} {f : Trees} (d : Depth) (σ : List Due) (x : List Token)
    → Fits rules α f → Separated rules lookahead (α ++ symbols_of σ) → After rules lookahead (symbols_of σ) x
    → Allowed too_deep (depths rules d f) → verdict_from (due_all d α ++ σ) (leaves f ++ x) ≡ verdict_from σ x
unfolding verdict_from
verdict_past = run_past too_deep rules lookahead grammar_ll1
