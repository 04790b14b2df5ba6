-- The nine levels of expressions are alike: what a reader that is told its level uses of the grammar.
-- Assumes nothing.
use mathlib.Core.Path.{◌≡◌, refl, ap, sym, ◌∙◌, subst}
use mathlib.Core.List.{List, [], ◌∷◌, map}
use mathlib.Core.Option.{Option, none, some}
use mathlib.Core.Bool.{Bool, true, false, or-false}
use mathlib.Core.Logic.{◌⊎◌, ◌≢◌}
use Prim.Native.Nat.{ℕ, zero, suc, ◌<◌}
use native.Mathlib.Omega.{arith}
use lib.Dec.{eqb}
use lib.ListN.{get_or, get_elem?}
use borrow.Author.Tests.{eqb-true, eqb-false}
use Rattle.ll1.specs.Trees.{Alternative, alternative_of}
use Rattle.ll1.specs.ParseTable.{entry_of, predict, member, find, nullable}
use Rattle.ll1.specs.Test.{is_some, joined}
use Rattle.ll1.proofs.Basics.{clash, find_joined}
use Rattle.ll1.proofs.Lookups.{find_one}
use Rattle.grammar.specs.Rules.{level_rule, tail_rule}
use Rattle.grammar.specs.Notation.{t, r, plain, one, operators}
use Rattle.grammar.specs.Grammar.{rules}
use Rattle.grammar.specs.Lookahead.{atoms, lookahead}
use Rattle.grammar.specs.Levels.{levels, operators_of}

-- ---- the rules of a level, at each level

-- Q holds of each number below n
abbrev Below : (ℕ → Type 0) → ℕ → Type 0
Below Q zero = Unit {0}
Below Q (suc n) = Q n × Below Q n

below : (Q : ℕ → Type 0) (n : ℕ) → Below Q n → (i : ℕ) → i < n → Q i
below Q zero b i h = absurd (omega arith)
below Q (suc n) b i h = by (below Q n b.1 i) (eqb n i) refl
  where
    by : (i < n → Q i) → (t : Bool) → eqb n i ≡ t → Q i
    by f true e = subst Q (eqb-true n i e) b.0
    by f false e = f (let z : n ≢ i = eqb-false n i e in omega arith)

-- the rules of level n and of its tail, and what tells their alternatives
abbrev Alike : ℕ → Type 0
Alike n =
    (get_or rules (level_rule n) [] ≡ one (r (level_rule (suc n)) ∷ r (tail_rule n) ∷ []))
    × ((entry_of lookahead (level_rule n)).firsts ≡ atoms ∷ [])
    × (get_or rules (tail_rule n) [] ≡ operators (tail_rule n) (level_rule (suc n)) (operators_of n))
    × ((entry_of lookahead (tail_rule n)).firsts ≡ [] ∷ map (λ o. o ∷ []) (operators_of n))

all_alike : Below Alike 9
unfolding rules lookahead levels
all_alike =
    ((refl, refl, refl, refl), ((refl, refl, refl, refl), ((refl, refl, refl, refl), ((refl, refl, refl, refl), ((refl, refl, refl, refl), ((refl, refl, refl, refl), ((refl, refl, refl, refl), ((refl, refl, refl, refl), ((refl, refl, refl, refl), tt)))))))))

alike : (n : ℕ) → n < 9 → Alike n
alike = below Alike 9 all_alike

-- ---- operators

abbrev alone : ℕ → List ℕ
alone o = o ∷ []

module _ (A B : ℕ) where
  abbrev then_operand : ℕ → Alternative
  then_operand o = plain (t o ∷ r B ∷ r A ∷ [])

  -- the place of a class among operators is that of its alternative
  told_operator :
      (ops : List ℕ) (k i : ℕ)
      → find (map alone ops) k ≡ some i → get_elem? (map then_operand ops) i ≡ some (then_operand k)
  told_operator [] k i e = clash cc
  told_operator (o ∷ ops) k i e = by (told_operator ops k) (member k (alone o)) (find (map alone ops) k) refl refl
    where
      by :
          ((j : ℕ) → find (map alone ops) k ≡ some j → get_elem? (map then_operand ops) j ≡ some (then_operand k))
          → (b : Bool) (w : Option ℕ) → member k (alone o) ≡ b → find (map alone ops) k ≡ w
          → get_elem? (map then_operand (o ∷ ops)) i ≡ some (then_operand k)
      by f true w p q =
          let u : find (map alone (o ∷ ops)) k ≡ some 0 = rw (p, find) in
          let v : 0 ≡ i = cc in
          let m : o ≡ k = eqb-true o k (sym (or-false (eqb o k)) ∙ p) in
          subst (λ j. get_elem? (map then_operand (o ∷ ops)) j ≡ some (then_operand k)) v (ap (λ x. some (then_operand x)) m)
      by f false none p q = let u : find (map alone (o ∷ ops)) k ≡ none = rw (p, q, find) in clash cc
      by f false (some j) p q =
          let u : find (map alone (o ∷ ops)) k ≡ some (suc j) = rw (p, q, find) in
          let v : suc j ≡ i = cc in
          subst (λ j. get_elem? (map then_operand (o ∷ ops)) j ≡ some (then_operand k)) v (f j q)

joined_alone : (ops : List ℕ) → joined (map alone ops) ≡ ops
joined_alone [] = refl
joined_alone (o ∷ ops) = ap (λ (l : List ℕ). o ∷ l) (joined_alone ops)

-- ---- what a level is

pub record Level (n : ℕ) : Type 0 where
  -- an operand of the next level, and the tail
  pub operand : alternative_of rules (level_rule n) 0 ≡ some (plain (r (level_rule (suc n)) ∷ r (tail_rule n) ∷ []))
  pub only : (k : ℕ) → (predict lookahead (level_rule n) k ≡ some 0) ⊎ (predict lookahead (level_rule n) k ≡ none)
  pub present : nullable rules (level_rule n) ≡ false
  -- the tail is empty, or an operator of the level, an operand and the tail
  pub empty : alternative_of rules (tail_rule n) 0 ≡ some (plain [])
  pub absent : nullable rules (tail_rule n) ≡ true
  pub operator :
      (k i : ℕ)
      → predict lookahead (tail_rule n) k ≡ some i
      → alternative_of rules (tail_rule n) i ≡ some (plain (t k ∷ r (level_rule (suc n)) ∷ r (tail_rule n) ∷ []))
  -- the classes that tell an operator
  pub tells : (k : ℕ) → is_some (predict lookahead (tail_rule n) k) ≡ member k (operators_of n)

pub level_is : (n : ℕ) → n < 9 → Level n
level_is n h =
    let a = alike n h in
    record {
      operand = rw a.0;
      only = λ k. rw a.1 (find_one atoms k);
      present = rw a.0;
      empty = rw a.2;
      absent = rw a.2;
      operator = λ k i e. rw a.2 (operator n k i (rw a.3 at e));
      tells = λ k. rw a.3 (find_joined ([] ∷ map alone (operators_of n)) k ∙ ap (member k) (joined_alone (operators_of n)));
    }
  where
    operator :
        (n k i : ℕ)
        → find ([] ∷ map alone (operators_of n)) k ≡ some i
        → get_elem? (operators (tail_rule n) (level_rule (suc n)) (operators_of n)) i ≡ some (plain (t k ∷ r (level_rule (suc n)) ∷ r (tail_rule n) ∷ []))
    operator n k i e = by (find (map alone (operators_of n)) k) refl
      where
        by :
            (w : Option ℕ)
            → find (map alone (operators_of n)) k ≡ w
            → get_elem? (operators (tail_rule n) (level_rule (suc n)) (operators_of n)) i ≡ some (plain (t k ∷ r (level_rule (suc n)) ∷ r (tail_rule n) ∷ []))
        by none q = let u : find ([] ∷ map alone (operators_of n)) k ≡ none = rw (q, find) in clash cc
        by (some j) q =
            let u : find ([] ∷ map alone (operators_of n)) k ≡ some (suc j) = rw (q, find) in
            let v : suc j ≡ i = cc in
            subst (λ x. get_elem? (operators (tail_rule n) (level_rule (suc n)) (operators_of n)) x ≡ some (plain (t k ∷ r (level_rule (suc n)) ∷ r (tail_rule n) ∷ []))) v (told_operator (tail_rule n) (level_rule (suc n)) (operators_of n) k j q)
